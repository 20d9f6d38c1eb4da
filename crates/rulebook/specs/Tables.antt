-- What the table of a rulebook keeps to.
use Rattle.std.specs.Prelude.{ℕ, false, List}
use Rattle.ruling.specs.Meanings.{Meaning}
use Rattle.ruling.specs.ReducedTables.{Reduced}
use Rattle.encoder.specs.declared.table_data.TableData.{TableData}
use Rattle.encoder.specs.Tables.{kinds_held, table_meaning, Clean}

-- There is at most one proof of it, so that it comes out of the truncation whole.
abbrev pub IsReduced : TableData → Type 0
IsReduced t = ∥ Reduced (kinds_held t) (table_meaning t) ∥₁

abbrev pub IsClean : TableData → Type 0
IsClean t = ∥ Clean t ∥₁

-- One state, marked no, and every target leads to it.
abbrev pub empty_meaning : List ℕ → Meaning
empty_meaning ks = record { kinds = ks; states = 1; target = λ k a b. 0; mark = λ s. false }
