-- The need of a set: a set has one, and that of a ruling's set is the number of its classes.
use Rattle.std.proofs.Common.{◌≡◌, ℕ, zero, suc, ◌<◌, ◌≤◌, get_or, sym, refl, ap, ◌∙◌, subst, subst₂, arith}
use Rattle.ruling.specs.Trees.{leaf, Kind}
use Rattle.ruling.specs.Meanings.{Meaning, Fits, none, one, two, run, accepts}
use Rattle.ruling.specs.Classes.{Reached, Same, Classes}
use Rattle.ruling.specs.Sets.{Rules}
use Rattle.ruling.specs.Theorems.{NeedOfClasses, OneNeed}
use Rattle.ruling.proofs.Pigeons.{pigeons}
use Rattle.ruling.proofs.Growth.{run_reached, stem_reached, fork_reached}
use Rattle.ruling.proofs.Smallest.{run_below, equal_same, alike}
use Rattle.ruling.proofs.Folding.{Folds, fold_agrees}
use Rattle.ruling.proofs.Divisions.{rep, rep_reached, rep_of}

pub one_need : OneNeed
one_need ks S n o x y =
    let a : n ≤ o = subst (λ z. n ≤ z) y.states (x.least y.ruling y.rules) in
    let b : o ≤ n = subst (λ z. o ≤ z) x.states (y.least x.ruling x.rules) in
    omega arith

module _ (m : Meaning) (c : ℕ) (class : ℕ → ℕ) (v : Classes m.kinds m c class) where
  -- a ruling with the same set has a state for each class
  least : (n : Meaning) → Rules m.kinds (accepts m) n → c ≤ n.states
  least n r = pigeons c n.states (λ j h. run n (v.reached j h).tree)
      (λ j h. run_below m.kinds n r.complete (v.reached j h).tree (v.reached j h).over)
      (λ i j h g e. let p = v.reached i h in let q = v.reached j g in
      let same = subst₂ (Same m.kinds m) p.runs q.runs
      (alike m.kinds m n (λ t o. sym (r.exact t o)) p.tree q.tree p.over q.over
      (equal_same m.kinds n (run n p.tree) (run n q.tree) e)) in
      sym (v.member_of i h) ∙ ((v.exact (v.member i h) (v.member j g) p q).1 same ∙ v.member_of j g))

  standing : ℕ → ℕ
  standing = rep m.kinds m (Same m.kinds m) c class v

  standing_reached : (j : ℕ) → j < c → Reached m.kinds m (standing j)
  unfolding standing
  standing_reached = rep_reached m.kinds m (Same m.kinds m) c class v

  -- the target in m of the states that stand for a and b, by the rank of the kind
  goal : ℕ → ℕ → ℕ → ℕ → ℕ
  goal zero k a b = m.target k 0 0
  goal (suc zero) k a b = m.target k (standing a) 0
  goal (suc (suc r)) k a b = m.target k (standing a) (standing b)

  -- the ruling whose states are the classes of m
  quotient : Meaning
  quotient = record {
    kinds = m.kinds;
    states = c;
    target = λ k a b. class (goal (get_or m.kinds k 0) k a b);
    mark = λ j. m.mark (standing j);
  }

  goal_at : (r k a b : ℕ) → Kind m.kinds k r → goal (get_or m.kinds k 0) k a b ≡ goal r k a b
  goal_at r k a b kind = ap (λ x. goal x k a b) kind.1

  leaf_goal : (k a b : ℕ) → Kind m.kinds k 0 → Reached m.kinds m (goal 0 k a b)
  unfolding goal
  leaf_goal k a b kind = run_reached m.kinds m (leaf k) kind

  stem_goal : (k a b : ℕ) → Kind m.kinds k 1 → a < c → Reached m.kinds m (goal 1 k a b)
  unfolding goal
  stem_goal k a b kind h = stem_reached m.kinds m k (standing a) kind (standing_reached a h)

  fork_goal : (k a b : ℕ) → Kind m.kinds k 2 → a < c → b < c → Reached m.kinds m (goal 2 k a b)
  unfolding goal
  fork_goal k a b kind h g = fork_reached m.kinds m k (standing a) (standing b) kind (standing_reached a h) (standing_reached b g)

  full : (k a b : ℕ) → Fits m.kinds c k a b → class (goal (get_or m.kinds k 0) k a b) < c
  full k a b (none x y z) = subst (λ w. class w < c) (sym (goal_at 0 k a b x)) (v.small _ (leaf_goal k a b x))
  full k a b (one x y z) = subst (λ w. class w < c) (sym (goal_at 1 k a b x)) (v.small _ (stem_goal k a b x y))
  full k a b (two x y z) = subst (λ w. class w < c) (sym (goal_at 2 k a b x)) (v.small _ (fork_goal k a b x y z))

  -- a reached state is of the class of the state that stands for its class
  stands : (p q : ℕ) → Reached m.kinds m p → q ≡ p → Same m.kinds m p (standing (class q))
  unfolding standing
  stands p q h e =
      let l = v.small p h in
      subst (λ w. Same m.kinds m p (standing (class w))) (sym e)
      ((v.exact p (standing (class p)) h (standing_reached (class p) l)).0 (sym (rep_of m.kinds m (Same m.kinds m) c class v (class p) l)))

  folds : Folds m.kinds m quotient standing
  unfolding quotient goal
  folds = record {
    complete = full;
    reached = standing_reached;
    mark = λ j h. refl;
    leaves = λ k kind. stands _ _ (leaf_goal k 0 0 kind) (goal_at 0 k 0 0 kind);
    stems = λ k a kind h. stands _ _ (stem_goal k a 0 kind h) (goal_at 1 k a 0 kind);
    forks = λ k a b kind h g. stands _ _ (fork_goal k a b kind h g) (goal_at 2 k a b kind);
  }

pub need_of_classes : NeedOfClasses
unfolding quotient
need_of_classes m c class v = record {
  ruling = quotient m c class v;
  rules = record {
    kinds = refl;
    complete = full m c class v;
    exact = (fold_agrees m (quotient m c class v) (standing m c class v) refl (folds m c class v)).trees;
  };
  states = refl;
  least = least m c class v;
}
