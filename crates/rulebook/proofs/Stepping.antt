-- How a rulebook comes from one history to the next.
use Rattle.std.proofs.Common.{◌≡◌, ℕ, ◌<◌, ◌≤◌, cond, leb, List, Some, None, Ok, Err, Option, sym, refl, ap, ◌∙◌, subst, le-leb}
use borrow.Author.Tests.{lt-leb}
use Rattle.ruling.specs.declared.refusal.Refusal.{Refusal}
use Rattle.ruling.specs.declared.refusal.Refusal.TheVariants.{TooManyStates}
use Rattle.ruling.specs.Refusals.{told}
use Rattle.ruling.specs.Meanings.{Meaning}
use Rattle.ruling.specs.Sets.{Set, Rules, Need}
use Rattle.ruling.specs.ReducedTables.{Reduced}
use Rattle.rulebook.specs.Calls.{Change, Question, change, ask, Answer, count, refused, changed}
use Rattle.rulebook.specs.Outcomes.{early_fault, reply, Checked, TableFor}
use Rattle.rulebook.specs.Histories.{History, called, kinds_of, Reckons, Stands}
use Rattle.rulebook.proofs.TablesFor.{least, need_of_table, table_of_rules}
use Rattle.rulebook.proofs.Outcomes.{twelves}

pub standing : (h : History) (S : Set) (b : Meaning) → Reckons h S → TableFor (kinds_of h) S b → Stands h b
standing h S b r x = record {
  set = S;
  reckoned = r;
  exact = x.rules;
  written = λ m y. record { table = b; of = table_of_rules (kinds_of h) S b m x y; written = refl };
  fewest = λ m y. least (kinds_of h) S b m x y;
  twelves = twelves h S r;
}

-- b stands after h, and it is reduced.
module _ (h : History) (b : Meaning) (s : Stands h b) (red : Reduced b.kinds b) where
  abbrev ks : List ℕ
  ks = kinds_of h

  own : TableFor ks s.set b
  own = record { rules = s.exact; reduced = subst (λ z. Reduced z b) s.exact.kinds red }

  need : Need ks s.set b.states
  need = need_of_table ks s.set b own

  mine : Rules b.kinds s.set b
  mine = subst (λ z. Rules z s.set b) (sym s.exact.kinds) s.exact

  -- What the first fault of the earlier checks leads to comes out.
  checked : (c : Change) (e : Option Refusal) (a : Answer) (after : Set) → early_fault b.kinds b.states c ≡ e → Checked ks s.set c e a after
      → Reckons (called h (Ok (change c)) a) after
  checked c e a after p x =
      let here = ap (λ z. early_fault z b.states c) (sym s.exact.kinds) ∙ p in
      (s.set, s.reckoned, (b.states, need, subst (λ z. Checked ks s.set c z a after) (sym here) x))

  -- Reading its input found a fault.
  pub faulty : (r : Refusal) → Stands (called h (Err r) (refused (told r))) b
  faulty r = standing (called h (Err r) (refused (told r))) s.set b (s.set, s.reckoned, record { answer = refl; set = refl }) own

  -- An earlier check refused the change.
  pub barred : (c : Change) (r : Refusal) → early_fault b.kinds b.states c ≡ Some r → Stands (called h (Ok (change c)) (refused (told r))) b
  barred c r e =
      standing (called h (Ok (change c)) (refused (told r))) s.set b (checked c (Some r) (refused (told r)) s.set e (record { answer = refl; set = refl })) own

  -- The changed set needs n states.
  changing : (c : Change) (n : ℕ) → early_fault b.kinds b.states c ≡ None → Need ks (changed s.set c) n
      → Reckons (called h (Ok (change c)) (cond (leb n 32) (count n) (refused (told (TooManyStates n))))) (cond (leb n 32) (changed s.set c) s.set)
  changing c n e x = checked c None _ _ e (record { need = n; needed = x; answer = refl; set = refl })

  -- They are more than 32.
  pub large : (c : Change) (n : ℕ) → early_fault b.kinds b.states c ≡ None
      → ((S : Set) → Rules b.kinds S b → Need b.kinds (changed S c) n) → 32 < n
      → Stands (called h (Ok (change c)) (refused (told (TooManyStates n)))) b
  large c n e w l =
      let x : Need ks (changed s.set c) n = subst (λ z. Need z (changed s.set c) n) s.exact.kinds (w s.set mine) in
      standing (called h (Ok (change c)) (refused (told (TooManyStates n)))) s.set b
      (subst (λ t. Reckons (called h (Ok (change c)) (cond t (count n) (refused (told (TooManyStates n))))) (cond t (changed s.set c) s.set))
      (lt-leb n 32 l) (changing c n e x)) own

  -- The change was made.
  pub done : (c : Change) (d : Meaning) → early_fault b.kinds b.states c ≡ None → d.states ≤ 32
      → ((S : Set) → Rules b.kinds S b → TableFor b.kinds (changed S c) d)
      → Stands (called h (Ok (change c)) (count d.states)) d
  done c d e l w =
      let x : TableFor ks (changed s.set c) d = subst (λ z. TableFor z (changed s.set c) d) s.exact.kinds (w s.set mine) in
      standing (called h (Ok (change c)) (count d.states)) (changed s.set c) d
      (subst (λ t. Reckons (called h (Ok (change c)) (cond t (count d.states) (refused (told (TooManyStates d.states))))) (cond t (changed s.set c) s.set))
      (le-leb d.states 32 l) (changing c d.states e (need_of_table ks (changed s.set c) d x))) x

  -- A question was answered from the table.
  pub replied : (q : Question) (a : Answer) → ((S : Set) → Rules b.kinds S b → a ≡ reply S b q) → Stands (called h (Ok (ask q)) a) b
  replied q a w = standing (called h (Ok (ask q)) a) s.set b
      (s.set, s.reckoned, (b, own, record { answer = w s.set mine; set = refl })) own
