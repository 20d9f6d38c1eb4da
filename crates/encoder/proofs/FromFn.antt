-- An array made by calls of a closure that they leave as it is.
use Rattle.std.proofs.Common.{◌≡◌, ℕ, zero, suc, ◌+◌, ◌<◌, ◌≤◌, List, get_or, sym, subst, arith}
use native.Mathlib.Decide.{ℕ_discrete}
use denote.Param.Members.{Mut}
use Rattle.std.specs.Fn.{Called}
use Rattle.std.specs.Array.{IsFromFnResult, IsFromFnResultFrom}

module _ {F B : Type 0} (g : Mut F (ℕ × Unit {0}) B) (f : F) (ys : List B) (Q : ℕ → B → Type 0)
    (call : (i : ℕ) (y : B) (q : F) → Called g f (i, tt) y q → (q ≡ f) × Q i y) where
  from : (i n : ℕ) → IsFromFnResultFrom g f ys i n → (k : ℕ) (d : B) → i ≤ k → k < i + n → Q k (get_or ys k d)
  from i zero h k d l u = absurd (omega arith)
  from i (suc n) h k d l u = go (ℕ_discrete i k) (from (i + 1) n (subst (λ p. IsFromFnResultFrom g p ys (i + 1) n) (call i h.1 h.0 h.3).0 h.4) k d)
    where
      here : Q i (get_or ys i d)
      here = subst (Q i) (sym (h.2.1 d)) (call i h.1 h.0 h.3).1

      go : Dec (i ≡ k) → (i + 1 ≤ k → k < i + 1 + n → Q k (get_or ys k d)) → Q k (get_or ys k d)
      go (yes e) rest = subst (λ j. Q j (get_or ys j d)) e here
      go (no e) rest = rest (omega arith) (omega arith)

  -- what holds of what each call gives holds of each element
  pub made_each : (n : ℕ) → IsFromFnResult g f ys n → (k : ℕ) (d : B) → k < n → Q k (get_or ys k d)
  made_each n h k d l = from 0 n h.each k d (omega arith) (omega arith)
