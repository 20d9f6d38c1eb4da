-- The table of a set: its need, that there is one, and that it is the table of every ruling of the set.
use Rattle.std.proofs.Common.{ℕ, ◌≤◌, List, sym, refl, ◌∙◌, subst}
use Rattle.ruling.specs.Trees.{Over}
use Rattle.ruling.specs.Meanings.{Meaning, accepts}
use Rattle.ruling.specs.Sets.{Set, Rules, Need, Agree}
use Rattle.ruling.specs.ReducedTables.{Reduced, Equal}
use Rattle.ruling.specs.WrittenTables.{TableOf}
use Rattle.ruling.proofs.Smallest.{Agreeing, fewest}
use Rattle.ruling.proofs.Uniqueness.{one_table}
use Rattle.ruling.proofs.TablesOf.{table_of_each}
use Rattle.rulebook.specs.Outcomes.{TableFor}

-- Rulings of one set agree.
agreeing : (ks : List ℕ) (S : Set) (c m : Meaning) → Rules ks S c → Rules ks S m → Agreeing ks c m
agreeing ks S c m x y t o = x.exact t o ∙ sym (y.exact t o)

pub agree_of : (ks : List ℕ) (S : Set) (c m : Meaning) → Rules ks S c → Rules ks S m → Agree c m
agree_of ks S c m x y = record {
  kinds = x.kinds ∙ sym y.kinds;
  trees = λ t o. agreeing ks S c m x y t (subst (λ z. Over z t) x.kinds o);
}

own_reduced : (ks : List ℕ) (S : Set) (t : Meaning) → TableFor ks S t → Reduced t.kinds t
own_reduced ks S t x = subst (λ z. Reduced z t) (sym x.rules.kinds) x.reduced

pub least : (ks : List ℕ) (S : Set) (t m : Meaning) → TableFor ks S t → Rules ks S m → t.states ≤ m.states
least ks S t m x y = fewest ks t m x.reduced y.complete (agreeing ks S t m x.rules y)

pub need_of_table : (ks : List ℕ) (S : Set) (t : Meaning) → TableFor ks S t → Need ks S t.states
need_of_table ks S t x = record { ruling = t; rules = x.rules; states = refl; least = λ m y. least ks S t m x y }

pub one_table_for : (ks : List ℕ) (S : Set) (c d : Meaning) → TableFor ks S c → TableFor ks S d → Equal c d
one_table_for ks S c d x y = one_table c d (own_reduced ks S c x) (own_reduced ks S d y) (agree_of ks S c d x.rules y.rules)

pub table_of_rules : (ks : List ℕ) (S : Set) (t m : Meaning) → TableFor ks S t → Rules ks S m → TableOf ks m t
table_of_rules ks S t m x y = subst (λ z. TableOf z m t) y.kinds ((table_of_each m t).0 (own_reduced ks S t x, agree_of ks S t m x.rules y))

-- The table of a ruling is the table of its set.
pub table_for : (m t : Meaning) → TableOf m.kinds m t → TableFor m.kinds (accepts m) t
table_for m t x = let w = (table_of_each m t).1 x in record {
  rules = record { kinds = w.1.kinds; complete = x.complete; exact = λ u o. w.1.trees u (subst (λ z. Over z u) (sym w.1.kinds) o) };
  reduced = subst (λ z. Reduced z t) w.1.kinds w.0;
}
