-- The successive approximations of the class relation: first the marks alone, then one step more each time.
use Rattle.std.specs.Prelude.{◌≡◌, ℕ, zero, suc, List}
use Rattle.ruling.specs.Trees.{Kind}
use Rattle.ruling.specs.Meanings.{Meaning}
use Rattle.ruling.specs.Classes.{Reached}

-- Below each kind, and beside each brother that is reached, p and q lead to targets that R relates.
pub record Onward (ks : List ℕ) (m : Meaning) (R : ℕ → ℕ → Type 0) (p q : ℕ) : Type 0 where
  pub under : (k : ℕ) → Kind ks k 1 → R (m.target k p 0) (m.target k q 0)
  pub left : (k r : ℕ) → Kind ks k 2 → Reached ks m r → R (m.target k p r) (m.target k q r)
  pub right : (k r : ℕ) → Kind ks k 2 → Reached ks m r → R (m.target k r p) (m.target k r q)

-- The approximation d does not tell p and q apart.
abbrev pub SameAt : List ℕ → Meaning → ℕ → ℕ → ℕ → Type 0
SameAt ks m zero p q = m.mark p ≡ m.mark q
SameAt ks m (suc d) p q = SameAt ks m d p q × Onward ks m (SameAt ks m d) p q

-- The approximation after d tells no more of the reached states apart.
abbrev pub Settled : List ℕ → Meaning → ℕ → Type 0
Settled ks m d = (p q : ℕ) → Reached ks m p → Reached ks m q → SameAt ks m d p q → SameAt ks m (suc d) p q
