-- What the parts of a load give, as the promise has it.
use Rattle.std.proofs.Common.{◌≡◌, ℕ, ◌≤◌, List, Some, None, Ok, Err, sym, ap, ◌∙◌, subst}
use Rattle.ruling.specs.declared.refusal.Refusal.{Refusal}
use Rattle.ruling.specs.Checks.{first}
use Rattle.ruling.specs.Sets.{Need}
use Rattle.ruling.specs.Meanings.{Meaning, accepts}
use Rattle.ruling.specs.Rulings.{Ruled}
use Rattle.ruling.specs.KindLists.{kinds_fault}
use Rattle.ruling.specs.ReducedTables.{Reduced}
use Rattle.ruling.specs.WrittenTables.{TableOf}
use Rattle.ruling.proofs.TablesOf.{table_of_each}
use Rattle.encoder.specs.declared.table_data.TableData.{TableData}
use Rattle.encoder.specs.Tables.{kinds_held, table_meaning}
use Rattle.reduction.specs.Reductions.{Reduces}
use Rattle.rulebook.specs.declared.rulebook.Rulebook.{Rulebook}
use Rattle.rulebook.specs.Calls.{load, change, count}
use Rattle.rulebook.specs.Histories.{Follows}
use Rattle.rulebook.specs.Changes.{meaning_of, Gives}
use Rattle.rulebook.proofs.Props.{reduced_had}
use Rattle.rulebook.proofs.TablesFor.{table_for}
use Rattle.rulebook.proofs.Stepping.{barred, large}
use Rattle.rulebook.proofs.Loading.{load_done}

pub reduced_of : (b : Rulebook) → Reduced (meaning_of b).kinds (meaning_of b)
reduced_of b = reduced_had (kinds_held b.table.inner) (table_meaning b.table.inner) b.reduced

-- The table of a ruling is reduced.
pub table_reduced : (m : Meaning) (t : TableData) → TableOf m.kinds m (table_meaning t) → Reduced (kinds_held t) (table_meaning t)
table_reduced m t x = ((table_of_each m (table_meaning t)).1 x).0

-- ls is the kind list of the rulebook b.
module _ (b : Rulebook) (w : Ruled) (ls : List ℕ) (own : ls ≡ (meaning_of b).kinds) where
  pub gives_differ : (r : Refusal) → kinds_fault w.plain.kinds ls ≡ Some r → Gives b (load w) (Err r)
  gives_differ r f h s = barred h (meaning_of b) s (reduced_of b) (load w) r (ap (λ o. first o None) (subst (λ z. kinds_fault w.plain.kinds z ≡ Some r) own f))

  module _ (f : kinds_fault w.plain.kinds ls ≡ None) (k : w.plain.kinds ≡ ls) where
    none : kinds_fault w.plain.kinds (meaning_of b).kinds ≡ None
    none = subst (λ z. kinds_fault w.plain.kinds z ≡ None) own f

    pub gives_large : (r : Refusal) → Reduces w.plain (Err r) → Gives b (load w) (Err r)
    gives_large r (n, p, l, need) = subst (λ z. Gives b (load w) (Err z)) (sym p) (λ h s. large h (meaning_of b) s (reduced_of b) (load w) n (ap (λ o. first o None) none) (λ S x. subst (λ z. Need z (accepts w.plain) n) (k ∙ own) need) l)

    pub gives_done : (t : TableData) → t.states ≤ 32 → TableOf w.plain.kinds w.plain (table_meaning t)
        → Follows (meaning_of b) (Ok (change (load w))) (count t.states) (table_meaning t)
    gives_done t few x h s = load_done h (meaning_of b) w s (reduced_of b) (table_meaning t) none (k ∙ own) (table_for w.plain (table_meaning t) x) few
