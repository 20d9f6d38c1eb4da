-- How checks follow one another, and how an answer follows from them.
use Rattle.std.specs.Prelude.{◌≡◌, ℕ, zero, suc, Bool, cond, Some, None, Ok, Err, Option, Result}

-- The lowest number at which P holds, of the c numbers from `from` on.
abbrev pub lowest : (ℕ → Bool) → ℕ → ℕ → Option ℕ
lowest P from zero = None
lowest P from (suc c) = cond (P from) (Some from) (lowest P (suc from) c)

-- The fault of two checks, one after the other.
abbrev pub first : {A : Type 0} → Option A → Option A → Option A
first (Some r) next = Some r
first None next = next

-- The answer, unless a check before it finds a fault.
abbrev pub unless : {A E : Type 0} → Option E → Result A E → Result A E
unless None r = r
unless (Some e) r = Err e

-- The answer r to a call whose checks find this fault, or none: the fault itself, or else a value of which P holds.
abbrev pub Answers : {A E : Type 0} → Option E → (A → Type 0) → Result A E → Type 0
Answers fault P (Ok x) = (fault ≡ None) × P x
Answers fault P (Err e) = fault ≡ Some e

-- A refused call leaves what it was made on as it was.
abbrev pub Kept : {A E C : Type 0} → Result A E → C → C → Type 0
Kept (Ok x) before after = Unit {0}
Kept (Err e) before after = after ≡ before
