-- The table made of the numbered classes is the table of the ruling.
use Rattle.std.proofs.Common.{◌≡◌, ℕ, ◌<◌, ◌≤◌, true, ◌⊎◌, List, length, get_or, Some, None, Option, unwrap_or, sym, refl, ap, ◌∙◌, subst, inl, inr, arith}
use Rattle.ruling.specs.Meanings.{Meaning, Fits, none, one, two, Complete}
use Rattle.ruling.specs.KindLists.{Ranks, has_leaf}
use Rattle.ruling.specs.Rulings.{Ruled}
use Rattle.ruling.specs.Classes.{Same, Classes}
use Rattle.ruling.specs.ReducedTables.{Next, Reduced}
use Rattle.ruling.specs.WrittenTables.{TableOf}
use Rattle.ruling.proofs.Folding.{Folds, fold_agrees, fold_reduced}
use Rattle.ruling.proofs.TablesOf.{table_of_each}
use Rattle.encoder.specs.declared.table_data.TableData.{TableData}
use Rattle.encoder.specs.Tables.{kinds_held, table_meaning, CopyOf}
use Rattle.encoder.proofs.Copies.{held_kinds, held_count, held_mark, held_target}
use Rattle.reduction.specs.Searching as searching
use Rattle.ruling.specs.declared.ruling.Ruling.{Ghosts}
use Rattle.reduction.specs.declared.numbering.Numbering.{Numbering}
use Rattle.reduction.specs.Numbering.{aimed, number_of, Source, Numbered, Opened}
use Rattle.reduction.specs.Numberings.{NumberedBy, Closed, meaning_by}
use Rattle.reduction.proofs.Bounds.{list_reached}
use Rattle.reduction.proofs.Searching.{leaf_kind}
use Rattle.reduction.proofs.Numbers.{aimed_0, aimed_1, aimed_2, aimed_reached, fits_up}

-- c has the ruling's kinds, the numbered classes as its states, their marks, and the numbers of the targets' classes as its targets.
module _ (w : Ruled) (class : List ℕ) (count : ℕ) (dv : Classes w.plain.kinds w.plain count (λ p. get_or class p 0)) (few : count ≤ 32)
    (rep : List ℕ) (number : List (Option ℕ)) (small : length rep ≤ 32) (num : Numbered w.plain class rep number) (closed : Opened w.plain class rep number None)
    (c : Meaning) (kinds : c.kinds ≡ w.plain.kinds) (states : c.states ≡ length rep) (marks : (i : ℕ) → i < length rep → c.mark i ≡ w.plain.mark (get_or rep i 0))
    (targets : (k a b : ℕ) → Fits w.plain.kinds (length rep) k a b → c.target k a b ≡ unwrap_or (number_of class number (aimed w.plain rep k a b)) 0) where
  -- Each target has a number below s, and what stands for the number has the target's class.
  lands : (k a b : ℕ) → Fits w.plain.kinds (length rep) k a b → (c.target k a b < length rep) × (get_or class (get_or rep (c.target k a b) 0) 0 ≡ get_or class (aimed w.plain rep k a b) 0)
  lands k a b f = go (num.back (get_or class (aimed w.plain rep k a b) 0) (omega (arith, dv.small _ (aimed_reached w.plain rep (length rep) num.reached k a b f))))
    where
      go : (number_of class number (aimed w.plain rep k a b) ≡ None)
          ⊎ ((j : ℕ) × (number_of class number (aimed w.plain rep k a b) ≡ Some j) × (j < length rep) × (get_or class (get_or rep j 0) 0 ≡ get_or class (aimed w.plain rep k a b) 0))
          → (c.target k a b < length rep) × (get_or class (get_or rep (c.target k a b) 0) 0 ≡ get_or class (aimed w.plain rep k a b) 0)
      go (inl z) = absurd (closed k a b f z)
      go (inr (j, z, l, e)) = let t : c.target k a b ≡ j = targets k a b f ∙ ap (λ o. unwrap_or o 0) z in
          (omega arith, ap (λ x. get_or class (get_or rep x 0) 0) t ∙ e)

  lands_same : (k a b : ℕ) → Fits w.plain.kinds (length rep) k a b → Same w.plain.kinds w.plain (aimed w.plain rep k a b) (get_or rep (c.target k a b) 0)
  lands_same k a b f = let v = lands k a b f in
      (dv.exact (aimed w.plain rep k a b) (get_or rep (c.target k a b) 0) (aimed_reached w.plain rep (length rep) num.reached k a b f) (num.reached _ v.0)).0 (sym v.1)

  up : (i : ℕ) → i < c.states → i < length rep
  up i h = omega arith

  folds : Folds w.plain.kinds w.plain c (λ i. get_or rep i 0)
  folds = record {
    complete = λ k a b f. subst (λ z. c.target k a b < z) (sym states) (lands k a b (fits_up w.plain.kinds c.states (length rep) k a b (omega arith) f)).0;
    reached = λ i h. num.reached i (up i h);
    mark = λ i h. marks i (up i h);
    leaves = λ k kind. subst (λ z. Same w.plain.kinds w.plain z (get_or rep (c.target k 0 0) 0)) (aimed_0 w.plain rep k 0 0 kind) (lands_same k 0 0 (none kind refl refl));
    stems = λ k a kind h. subst (λ z. Same w.plain.kinds w.plain z (get_or rep (c.target k a 0) 0)) (aimed_1 w.plain rep k a 0 kind) (lands_same k a 0 (one kind (up a h) refl));
    forks = λ k a b kind h g. subst (λ z. Same w.plain.kinds w.plain z (get_or rep (c.target k a b) 0)) (aimed_2 w.plain rep k a b kind) (lands_same k a b (two kind (up a h) (up b g)));
  }

  -- A target with the class of what stands for j has the number j.
  counts : (k a b j : ℕ) → Fits w.plain.kinds (length rep) k a b → j < length rep → get_or class (aimed w.plain rep k a b) 0 ≡ get_or class (get_or rep j 0) 0 → c.target k a b ≡ j
  counts k a b j f h e = targets k a b f ∙ ap (λ o. unwrap_or o 0) (ap (λ x. get_or number x None) e ∙ num.given j h)

  next : (i : ℕ) → i < length rep → Source w.plain class rep i → Next w.plain.kinds c i
  next i h v = record {
    kind = v.kind;
    first = v.first;
    second = v.second;
    fits = v.fits;
    goes = counts v.kind v.first v.second i (fits_up w.plain.kinds i (length rep) _ _ _ (omega arith) v.fits) h v.goes;
    before = λ k a b f p. let u = v.before k a b f p in
        subst (λ x. x < i) (sym (counts k a b u.0 (fits_up w.plain.kinds i (length rep) k a b (omega arith) f) (omega (arith, u.1)) u.2)) u.1;
  }

  some_same : (x y : ℕ) → ◌≡◌ {A = Option ℕ} (Some x) (Some y) → x ≡ y
  some_same x y e = cc

  distinct : (p q : ℕ) → p < length rep → q < length rep → Same w.plain.kinds w.plain (get_or rep p 0) (get_or rep q 0) → p ≡ q
  distinct p q hp hq e = some_same p q (sym (num.given p hp)
      ∙ (ap (λ x. get_or number x None) ((dv.exact (get_or rep p 0) (get_or rep q 0) (num.reached p hp) (num.reached q hq)).1 e) ∙ num.given q hq))

  pub made_reduced : Reduced c.kinds c
  made_reduced = fold_reduced w.plain c (λ i. get_or rep i 0) kinds folds (λ i h. next i (up i h) (num.source i (up i h))) (λ p q hp hq. distinct p q (up p hp) (up q hq))

  pub made_table : TableOf w.plain.kinds w.plain c
  made_table = (table_of_each w.plain c).0 (made_reduced, fold_agrees w.plain c (λ i. get_or rep i 0) kinds folds)

-- The table that holds the numbered classes is the table of the ruling.
module _ {R : Type 0} {G : Ghosts R} (n : Numbering R G) (num : NumberedBy n) (closed : Closed n)
    (t : TableData) (long : length t.ranks ≡ 16) (copy : CopyOf (meaning_by n) t) where
  abbrev w : Ruled
  w = G.meaning n.ruling.now

  kinds : kinds_held t ≡ w.plain.kinds
  kinds = held_kinds (meaning_by n) t w.list.1 n.few long copy

  pub whole_table : TableOf w.plain.kinds w.plain (table_meaning t)
  whole_table = made_table w _ _ num.classes n.classes _ _ n.few num.numbered closed (table_meaning t) kinds copy.states
      (held_mark (meaning_by n) t w.list.1 n.few long copy)
      (held_target (meaning_by n) t w.list.1 n.few long copy)

  pub whole_counted : length (kinds_held t) ≡ t.count
  whole_counted = held_count (meaning_by n) t w.list.1 n.few long copy

  pub whole_ranks : Ranks (kinds_held t)
  whole_ranks = subst Ranks (sym kinds) w.list.2

  pub whole_leaf : has_leaf w.plain.kinds ≡ true → has_leaf (kinds_held t) ≡ true
  whole_leaf h = ap has_leaf kinds ∙ h

  pub whole_complete : Complete (kinds_held t) (table_meaning t)
  whole_complete = subst (λ ks. Complete ks (table_meaning t)) (sym kinds) whole_table.complete

  -- The target of a leaf kind is reached, so its class is a state.
  pub whole_some : has_leaf w.plain.kinds ≡ true → 0 < t.states
  whole_some h = let k = leaf_kind w.plain.kinds h in
      omega (arith, whole_table.state (w.plain.target k.0 0 0) (list_reached w.plain k.0 0 0 (searching.none k.1 refl refl)))
