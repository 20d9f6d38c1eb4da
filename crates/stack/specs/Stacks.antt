-- A stack in a slice of slots.
use Rattle.std.specs.Prelude.{◌≡◌, ℕ, ◌+◌, ◌-◌, ◌^◌, min, cond, List, [], ◌∷◌, reverse, take, Some, None, Option, nat_lt}
use Rattle.ruling.specs.declared.refusal.Refusal.{Refusal}
use Rattle.ruling.specs.declared.refusal.Refusal.TheVariants.{BufferTooShort}

-- The live values of a stack of length n in the slots s, the top first.
abbrev pub live : {A : Type 0} → ℕ → List A → List A
live n s = reverse (take n s)

-- Fault 13: a stack of length n in `room` slots takes no more; it needs one slot more, as far as 64 bits can say it.
abbrev pub full_fault : ℕ → ℕ → Option Refusal
full_fault n room = cond (nat_lt n room) None (Some (BufferTooShort (min (room + 1) (2 ^ 64 - 1))))

-- What a pop answers, by the live values before and after it.
abbrev pub Popped : {A : Type 0} → List A → List A → Option A → Type 0
Popped before after None = (before ≡ []) × (after ≡ [])
Popped before after (Some v) = before ≡ v ∷ after
