-- A table in memory: what it means, and the table that a ruling is copied into.
use Rattle.std.specs.Prelude.{◌≡◌, ℕ, ◌+◌, ◌*◌, ◌<◌, ◌≤◌, Bool, false, ◌&&◌, List, length, take, nat_le, slice_index, slice_index_or}
use Rattle.std.proofs.Common.{arith}
use Rattle.std.specs.Option.{unwrap_or}
use Rattle.ruling.specs.KindLists.{Ranks, has_leaf}
use Rattle.ruling.specs.Meanings.{Meaning, Complete}
use Rattle.ruling.specs.Questions.{rank_in, targeted, marked}
use Rattle.ruling.specs.Rulings.{Ruled}
-- When two meanings are the same.
pub use Rattle.ruling.specs.ReducedTables.{Equal}
use Rattle.encoder.specs.declared.table_data.TableData.{TableData}

-- The place of the cell of kind k and the children a and b.
abbrev pub cell_place : ℕ → ℕ → ℕ → ℕ
cell_place k a b = k * 1024 + a * 32 + b

abbrev pub kinds_held : TableData → List ℕ
kinds_held t = take t.count t.ranks

abbrev pub table_meaning : TableData → Meaning
table_meaning t = record {
  kinds = kinds_held t;
  states = t.states;
  target = λ k a b. slice_index t.cells (cell_place k a b);
  mark = λ s. slice_index_or t.marks s false;
}

-- What a table rules is what it means.
abbrev pub ruled_table : (t : TableData) → 0 < t.count → t.count ≤ 16 → length (kinds_held t) ≡ t.count → Ranks (kinds_held t)
    → 0 < t.states → t.states ≤ 32 → Complete (kinds_held t) (table_meaning t) → Ruled
ruled_table t some few counted ranks states limit complete = record {
  plain = table_meaning t;
  list = (omega arith, omega arith, ranks);
  some = states;
  few = omega arith;
  complete = complete;
}

-- A table in memory has at most 32 states and a kind of rank 0.
abbrev pub tabled : Meaning → Bool
tabled m = nat_le m.states 32 && has_leaf m.kinds

-- The table holds the ruling's answers, and 0 or no where there is none.
pub record CopyOf (m : Meaning) (t : TableData) : Type 0 where
  pub count : t.count ≡ length m.kinds
  pub ranks : (k : ℕ) → k < 16 → slice_index t.ranks k ≡ unwrap_or (rank_in m.kinds k) 0
  pub states : t.states ≡ m.states
  pub marks : (s : ℕ) → s < 32 → slice_index_or t.marks s false ≡ unwrap_or (marked m s) false
  pub cells : (k a b : ℕ) → k < 16 → a < 32 → b < 32 → slice_index t.cells (cell_place k a b) ≡ unwrap_or (targeted m k a b) 0

-- A table holds nothing beside its meaning: what no kind, no state and no argument list uses is 0, or no.
pub record Clean (t : TableData) : Type 0 where
  pub copy : CopyOf (table_meaning t) t
  pub ranks_room : length t.ranks ≡ 16
  pub marks_room : length t.marks ≡ 32
  pub cells_room : length t.cells ≡ 16384
