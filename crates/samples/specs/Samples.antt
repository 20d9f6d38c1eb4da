-- What a sample means: its rules, where what is no state counts as state 0.
use Rattle.std.specs.Prelude.{◌≡◌, ℕ, ◌<◌, ◌≤◌, Bool, true, false, cond, List, nat_lt, refl}
use Rattle.std.proofs.Common.{ltb-true}
use Rattle.ruling.specs.declared.kinds.Kinds.{Kinds}
use Rattle.ruling.specs.KindLists.{KindList}
use Rattle.ruling.specs.Listed.{list_of}
use Rattle.ruling.specs.Meanings.{Meaning}
use Rattle.ruling.specs.Rulings.{Ruled}

-- x where it is a state, else 0
abbrev pub within : ℕ → ℕ → ℕ
within n x = cond (nat_lt x n) x 0

pub within_states : (n x : ℕ) → 0 < n → within n x < n
within_states n x h = by_test (nat_lt x n) refl
  where
    by_test : (b : Bool) → nat_lt x n ≡ b → cond b x 0 < n
    by_test true e = ltb-true x n e
    by_test false e = h

abbrev pub sample_meaning : List ℕ → ℕ → (ℕ → ℕ → ℕ → ℕ) → (ℕ → Bool) → Meaning
sample_meaning ks n leads marks = record { kinds = ks; states = n; target = λ k a b. within n (leads k a b); mark = marks }

abbrev pub ruled_sample : (kinds : Kinds) → KindList (list_of kinds) → (n : ℕ) → 0 < n → n ≤ 1089
    → (ℕ → ℕ → ℕ → ℕ) → (ℕ → Bool) → Ruled
ruled_sample kinds list n some few leads marks = record {
  plain = sample_meaning (list_of kinds) n leads marks;
  list = list;
  some = some;
  few = few;
  complete = λ k a b fits. within_states n (leads k a b) some;
}
