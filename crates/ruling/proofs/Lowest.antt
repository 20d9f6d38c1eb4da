-- The lowest number at which a test holds.
use Rattle.std.proofs.Common.{◌≡◌, ℕ, zero, suc, ◌+◌, ◌<◌, ◌≤◌, Bool, true, false, cond, List, length, get_or, Some, None, Option, sym, refl, ap, ◌∙◌, ap₂, arith}
use Rattle.std.specs.List.{AllWithin, HoldsAt}
use Rattle.std.specs.Option.{MatchOption}
use native.Mathlib.Decide.{ℕ_discrete}
use Rattle.ruling.specs.Checks.{lowest}

-- no number passes the test
pub lowest_none : (P : ℕ → Bool) (from c : ℕ) → ((i : ℕ) → from ≤ i → i < from + c → P i ≡ false) → lowest P from c ≡ None
lowest_none P from zero h = refl
lowest_none P from (suc c) h =
    ap₂ (λ b o. cond b (Some from) o) (h from (omega arith) (omega arith)) (lowest_none P (suc from) c (λ i l u. h i (omega arith) (omega arith)))

-- i is the first that passes
pub lowest_at : (P : ℕ → Bool) (from c i : ℕ) → from ≤ i → i < from + c → P i ≡ true
    → ((j : ℕ) → from ≤ j → j < i → P j ≡ false) → lowest P from c ≡ Some i
lowest_at P from zero i l u p h = absurd (omega arith)
lowest_at P from (suc c) i l u p h = go (ℕ_discrete from i) (λ n. lowest_at P (suc from) c i (omega arith) (omega arith) p (λ j a b. h j (omega arith) b))
  where
    go : Dec (from ≡ i) → (¬ (from ≡ i) → lowest P (suc from) c ≡ Some i) → lowest P from (suc c) ≡ Some i
    go (yes e) rest = ap (λ b. cond b (Some from) (lowest P (suc from) c)) (ap P e ∙ p) ∙ ap (λ (x : ℕ). Some x) e
    go (no n) rest = ap₂ (λ b o. cond b (Some from) o) (h from (omega arith) (omega arith)) (rest n)

-- what a search over a list finds
pub lowest_first : (test : ℕ → Bool) (xs : List ℕ) (r : Option ℕ)
    → MatchOption r (AllWithin (λ x. test x ≡ false) xs 0 (length xs))
    (λ i. (i < length xs) × HoldsAt (λ x. test x ≡ true) xs i × AllWithin (λ x. test x ≡ false) xs 0 i)
    → r ≡ lowest (λ k. test (get_or xs k 0)) 0 (length xs)
lowest_first test xs None h = sym (lowest_none (λ k. test (get_or xs k 0)) 0 (length xs) (λ i l u. h i 0 l (omega arith)))
lowest_first test xs (Some i) h = sym (lowest_at (λ k. test (get_or xs k 0)) 0 (length xs) i (omega arith) (omega (arith, h.0)) (h.1 0) (λ j l u. h.2 j 0 l u))

-- where none is found, none passes
pub none_lowest : (P : ℕ → Bool) (from c : ℕ) → lowest P from c ≡ None → (i : ℕ) → from ≤ i → i < from + c → P i ≡ false
none_lowest P from zero e i l u = absurd (omega arith)
none_lowest P from (suc c) e i l u = go (P from) refl e (ℕ_discrete from i) (λ f n. none_lowest P (suc from) c f i (omega arith) (omega arith))
  where
    go : (b : Bool) → P from ≡ b → cond b (Some from) (lowest P (suc from) c) ≡ None → Dec (from ≡ i)
        → (lowest P (suc from) c ≡ None → ¬ (from ≡ i) → P i ≡ false) → P i ≡ false
    go true p f d rest = cc
    go false p f (yes q) rest = ap P (sym q) ∙ p
    go false p f (no q) rest = rest f q

-- where one is found, it is the first that passes
pub record Found (P : ℕ → Bool) (from c i : ℕ) : Type 0 where
  pub low : from ≤ i
  pub high : i < from + c
  pub passes : P i ≡ true
  pub before : (j : ℕ) → from ≤ j → j < i → P j ≡ false

found_here : (P : ℕ → Bool) (from c i : ℕ) → from ≡ i → P from ≡ true → Found P from (suc c) i
found_here P from c i q p = record { low = omega arith; high = omega arith; passes = ap P (sym q) ∙ p; before = λ j l u. absurd (omega arith) }

found_later : (P : ℕ → Bool) (from c i : ℕ) → P from ≡ false → Found P (suc from) c i → Found P from (suc c) i
found_later P from c i p w = record { low = omega (arith, w.low); high = omega (arith, w.high); passes = w.passes; before = λ j l u. pick j u (ℕ_discrete from j) l }
  where
    pick : (j : ℕ) → j < i → Dec (from ≡ j) → from ≤ j → P j ≡ false
    pick j u (yes q) l = ap P (sym q) ∙ p
    pick j u (no q) l = w.before j (omega arith) u

pub some_lowest : (P : ℕ → Bool) (from c i : ℕ) → lowest P from c ≡ Some i → Found P from c i
some_lowest P from zero i e = cc
some_lowest P from (suc c) i e = go (P from) refl e (some_lowest P (suc from) c i)
  where
    go : (b : Bool) → P from ≡ b → cond b (Some from) (lowest P (suc from) c) ≡ Some i
        → (lowest P (suc from) c ≡ Some i → Found P (suc from) c i) → Found P from (suc c) i
    go true p f rest = let q : from ≡ i = cc in found_here P from c i q p
    go false p f rest = found_later P from c i p (rest f)
