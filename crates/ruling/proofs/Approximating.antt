-- The approximations of the class relation: where they end, and that they do.
use Rattle.std.proofs.Common.{◌≡◌, ℕ, zero, suc, ◌<◌, ◌≤◌, ◌⊎◌, List, subst, inl, inr, arith}
use native.Mathlib.Decide.{dec_lt}
use Rattle.ruling.specs.Meanings.{Meaning, run}
use Rattle.ruling.specs.Surroundings.{Surrounding, gap, under, left, right, SurroundingOver, around}
use Rattle.ruling.specs.Classes.{Reached, Same}
use Rattle.ruling.specs.Approximations.{SameAt, Settled}
use Rattle.ruling.specs.Theorems.{SettledSame, ApproximationsEnd}
use Rattle.ruling.proofs.Plugging.{inside, reached_around}
use Rattle.ruling.proofs.Growth.{run_reached}
use Rattle.ruling.proofs.Divisions.{divides_by, parts_few, steady}

-- an approximation tells nothing apart that the class relation does not
finer : (ks : List ℕ) (m : Meaning) (d p q : ℕ) → Same ks m p q → SameAt ks m d p q
finer ks m zero p q same = same gap tt
finer ks m (suc d) p q same = (
  finer ks m d p q same,
  record {
    under = λ k kind. finer ks m d (m.target k p 0) (m.target k q 0) (inside ks m (under k gap) (kind, tt) p q same);
    left = λ k r kind reached. finer ks m d (m.target k p r) (m.target k q r)
        (subst (λ x. Same ks m (m.target k p x) (m.target k q x)) reached.runs
        (inside ks m (left k gap reached.tree) (kind, tt, reached.over) p q same));
    right = λ k r kind reached. finer ks m d (m.target k r p) (m.target k r q)
        (subst (λ x. Same ks m (m.target k x p) (m.target k x q)) reached.runs
        (inside ks m (right k reached.tree gap) (kind, reached.over, tt) p q same));
  },
)

-- where the approximations have settled, a surrounding keeps what is the same
kept : (ks : List ℕ) (m : Meaning) (d : ℕ) → Settled ks m d → (p q : ℕ) → Reached ks m p → Reached ks m q → SameAt ks m d p q
    → (s : Surrounding) → SurroundingOver ks s → SameAt ks m d (around m s p) (around m s q)
kept ks m d settled p q hp hq same gap o = same
kept ks m d settled p q hp hq same (under k s) o =
    (settled (around m s p) (around m s q) (reached_around ks m s o.1 p hp) (reached_around ks m s o.1 q hq)
    (kept ks m d settled p q hp hq same s o.1)).1.under k o.0
kept ks m d settled p q hp hq same (left k s t) o =
    (settled (around m s p) (around m s q) (reached_around ks m s o.1 p hp) (reached_around ks m s o.1 q hq)
    (kept ks m d settled p q hp hq same s o.1)).1.left k (run m t) o.0 (run_reached ks m t o.2)
kept ks m d settled p q hp hq same (right k t s) o =
    (settled (around m s p) (around m s q) (reached_around ks m s o.2 p hp) (reached_around ks m s o.2 q hq)
    (kept ks m d settled p q hp hq same s o.2)).1.right k (run m t) o.0 (run_reached ks m t o.1)

-- each approximation tells different marks apart
marks : (ks : List ℕ) (m : Meaning) (d p q : ℕ) → SameAt ks m d p q → m.mark p ≡ m.mark q
marks ks m zero p q same = same
marks ks m (suc d) p q same = marks ks m d p q same.0

pub settled_same : SettledSame
settled_same m d settled p q hp hq = (
  λ same s o. marks m.kinds m d (around m s p) (around m s q) (kept m.kinds m d settled p q hp hq same s o),
  finer m.kinds m d p q,
)

-- one of the first e numbers is not below the next
abbrev Stopped : (ℕ → ℕ) → ℕ → Type 0
Stopped count e = (d : ℕ) × (d < e) × (count (suc d) ≤ count d)

-- of numbers that are at most n, one of the first is not below the next
stop : (n : ℕ) (count : ℕ → ℕ) → ((d : ℕ) → count d ≤ n) → (d : ℕ) × (d ≤ n) × (count (suc d) ≤ count d)
stop n count few = found (upto (suc n))
  where
    next : (e : ℕ) → Stopped count e ⊎ (e ≤ count e) → Dec (count e < count (suc e)) → Stopped count (suc e) ⊎ (suc e ≤ count (suc e))
    next e (inl x) h = inl (x.0, omega (arith, x.1), x.2)
    next e (inr x) (yes h) = inr (omega arith)
    next e (inr x) (no h) = inl (e, omega arith, omega arith)

    upto : (e : ℕ) → Stopped count e ⊎ (e ≤ count e)
    upto zero = inr (omega arith)
    upto (suc e) = next e (upto e) (dec_lt (count e) (count (suc e)))

    found : Stopped count (suc n) ⊎ (suc n ≤ count (suc n)) → (d : ℕ) × (d ≤ n) × (count (suc d) ≤ count d)
    found (inl x) = (x.0, omega (arith, x.1), x.2)
    found (inr x) = absurd (omega (arith, few (suc n)))

pub approximations_end : ApproximationsEnd
approximations_end m count class full v =
    let s = stop m.states count (λ d. parts_few m.kinds m (SameAt m.kinds m d) (count d) (class d) (v d) full) in (
      s.0,
      s.1,
      divides_by m.kinds m (SameAt m.kinds m s.0) (Same m.kinds m) (count s.0) (class s.0) (v s.0)
          (settled_same m s.0 (settled s.0 s.2)),
    )
  where
    settled : (d : ℕ) → count (suc d) ≤ count d → Settled m.kinds m d
    settled d few p q hp hq same =
        ((v (suc d)).exact p q hp hq).0 (steady m.kinds m (SameAt m.kinds m d) (SameAt m.kinds m (suc d)) (count d) (count (suc d))
        (class d) (class (suc d)) (v d) (v (suc d)) few (λ x y hx hy e. ((v d).exact x y hx hy).1 (((v (suc d)).exact x y hx hy).0 e).0)
        p q hp hq (((v d).exact p q hp hq).1 same))
