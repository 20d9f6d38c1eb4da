-- A table whose states stand for states of a ruling.
use Rattle.std.proofs.Common.{◌≡◌, ℕ, ◌<◌, List, sym, refl, ◌∙◌, subst}
use Rattle.ruling.specs.Trees.{Tree, leaf, stem, fork, Kind, Over}
use Rattle.ruling.specs.Meanings.{Meaning, one, two, Complete, run}
use Rattle.ruling.specs.Surroundings.{Surrounding, gap, under, left, right, SurroundingOver, around}
use Rattle.ruling.specs.Classes.{Reached, Same}
use Rattle.ruling.specs.Sets.{Agree}
use Rattle.ruling.specs.ReducedTables.{Next, Reduced}
use Rattle.ruling.proofs.Plugging.{inside, reached_around}
use Rattle.ruling.proofs.Growth.{run_reached}
use Rattle.ruling.proofs.Smallest.{run_below}

-- Each state a of t stands for the reached state rep a of m: they have equal marks, and the target of an argument list of t stands
-- for a state of the same class as the target of the states that the arguments stand for.
pub record Folds (ks : List ℕ) (m t : Meaning) (rep : ℕ → ℕ) : Type 0 where
  pub complete : Complete ks t
  pub reached : (a : ℕ) → a < t.states → Reached ks m (rep a)
  pub mark : (a : ℕ) → a < t.states → t.mark a ≡ m.mark (rep a)
  pub leaves : (k : ℕ) → Kind ks k 0 → Same ks m (m.target k 0 0) (rep (t.target k 0 0))
  pub stems : (k a : ℕ) → Kind ks k 1 → a < t.states → Same ks m (m.target k (rep a) 0) (rep (t.target k a 0))
  pub forks : (k a b : ℕ) → Kind ks k 2 → a < t.states → b < t.states
      → Same ks m (m.target k (rep a) (rep b)) (rep (t.target k a b))

module _ (ks : List ℕ) (m t : Meaning) (rep : ℕ → ℕ) (folds : Folds ks m t rep) where
  on_stem : (k p a : ℕ) → Kind ks k 1 → a < t.states → Same ks m p (rep a) → Same ks m (m.target k p 0) (rep (t.target k a 0))
  on_stem k p a kind h e = λ s o. inside ks m (under k gap) (kind, tt) p (rep a) e s o ∙ folds.stems k a kind h s o

  -- each child is changed for what stands for it, the left one first
  on_fork : (k p q a b : ℕ) → Kind ks k 2 → a < t.states → b < t.states → Reached ks m q
      → Same ks m p (rep a) → Same ks m q (rep b) → Same ks m (m.target k p q) (rep (t.target k a b))
  on_fork k p q a b kind ha hb rq e f =
      let ra = folds.reached a ha in
      let x : Same ks m (m.target k p q) (m.target k (rep a) q) =
      subst (λ z. Same ks m (m.target k p z) (m.target k (rep a) z)) rq.runs
      (inside ks m (left k gap rq.tree) (kind, tt, rq.over) p (rep a) e) in
      let y : Same ks m (m.target k (rep a) q) (m.target k (rep a) (rep b)) =
      subst (λ z. Same ks m (m.target k z q) (m.target k z (rep b))) ra.runs
      (inside ks m (right k ra.tree gap) (kind, ra.over, tt) q (rep b) f) in
      λ s o. x s o ∙ (y s o ∙ folds.forks k a b kind ha hb s o)

  full : (u : Tree) → Over ks u → run t u < t.states
  full = run_below ks t folds.complete

  -- a record's state in t stands for one of the class of its state in m
  folded : (u : Tree) → Over ks u → Same ks m (run m u) (rep (run t u))
  folded (leaf k) o = folds.leaves k o
  folded (stem k u) o = on_stem k (run m u) (run t u) o.0 (full u o.1) (folded u o.1)
  folded (fork k u v) o = on_fork k (run m u) (run m v) (run t u) (run t v) o.0 (full u o.1) (full v o.2) (run_reached ks m v o.2)
      (folded u o.1) (folded v o.2)

  around_below : (s : Surrounding) → SurroundingOver ks s → (a : ℕ) → a < t.states → around t s a < t.states
  around_below gap o a h = h
  around_below (under k s) o a h = folds.complete k (around t s a) 0 (one o.0 (around_below s o.1 a h) refl)
  around_below (left k s u) o a h = folds.complete k (around t s a) (run t u) (two o.0 (around_below s o.1 a h) (full u o.2))
  around_below (right k u s) o a h = folds.complete k (run t u) (around t s a) (two o.0 (full u o.1) (around_below s o.2 a h))

  folded_around : (s : Surrounding) → SurroundingOver ks s → (a : ℕ) → a < t.states → Same ks m (around m s (rep a)) (rep (around t s a))
  folded_around gap o a h = λ s i. refl
  folded_around (under k s) o a h =
      on_stem k (around m s (rep a)) (around t s a) o.0 (around_below s o.1 a h) (folded_around s o.1 a h)
  folded_around (left k s u) o a h = on_fork k (around m s (rep a)) (run m u) (around t s a) (run t u) o.0
      (around_below s o.1 a h) (full u o.2) (run_reached ks m u o.2) (folded_around s o.1 a h) (folded u o.2)
  folded_around (right k u s) o a h = on_fork k (run m u) (around m s (rep a)) (run t u) (around t s a) o.0
      (full u o.1) (around_below s o.2 a h) (reached_around ks m s o.2 (rep a) (folds.reached a h))
      (folded u o.1) (folded_around s o.2 a h)

  mark_around : (s : Surrounding) → SurroundingOver ks s → (a : ℕ) → a < t.states → t.mark (around t s a) ≡ m.mark (around m s (rep a))
  mark_around s o a h = folds.mark (around t s a) (around_below s o a h) ∙ sym (folded_around s o a h gap tt)

-- such a table has the ruling's set
pub fold_agrees : (m t : Meaning) (rep : ℕ → ℕ) → t.kinds ≡ m.kinds → Folds m.kinds m t rep → Agree t m
fold_agrees m t rep same folds = record {
  kinds = same;
  trees = λ u o. let v = subst (λ ks. Over ks u) same o in
      folds.mark (run t u) (run_below m.kinds t folds.complete u v) ∙ sym (folded m.kinds m t rep folds u v gap tt);
}

-- and it is reduced if the search has numbered its states and no two of them stand for states of one class
pub fold_reduced : (m t : Meaning) (rep : ℕ → ℕ) → t.kinds ≡ m.kinds → Folds m.kinds m t rep
    → ((s : ℕ) → s < t.states → Next m.kinds t s)
    → ((p q : ℕ) → p < t.states → q < t.states → Same m.kinds m (rep p) (rep q) → p ≡ q)
    → Reduced t.kinds t
fold_reduced m t rep same folds next distinct = subst (λ ks. Reduced ks t) (sym same) (record {
  complete = folds.complete;
  numbered = next;
  distinct = λ p q hp hq e. distinct p q hp hq (λ s o.
      sym (mark_around m.kinds m t rep folds s o p hp) ∙ (e s o ∙ mark_around m.kinds m t rep folds s o q hq));
})
