-- What the C functions answer.
use Rattle.std.specs.Prelude.{ℕ, zero, suc, Bool, true, false, List, ℤ, pos, negsuc, Ok, Err, Result}
use Rattle.ruling.specs.declared.refusal.Refusal.{Refusal}
use Rattle.ruling.specs.Refusals.{told}
use Rattle.ruling.specs.Checks.{unless}
use Rattle.ruling.specs.Meanings.{Meaning, accepts}
use Rattle.record.specs.Reading.{after, read_record}
use Rattle.table.specs.TableFiles.{table_fault, file_meaning}

-- Minus a number.
abbrev pub minus : ℕ → ℤ
minus zero = pos 0
minus (suc n) = negsuc n

-- 1 for yes, 0 for no, minus the number of a refusal.
abbrev pub code_of : Result Bool Refusal → ℤ
code_of (Ok true) = pos 1
code_of (Ok false) = pos 0
code_of (Err r) = minus (told r).number

-- Whether the ruling that means m accepts the record in these bytes, or their first fault.
abbrev pub accepted : Meaning → List ℕ → Result Bool Refusal
accepted m bytes = after (read_record m.kinds 4096 bytes) (λ t. Ok (accepts m t))

-- The same for the ruling of a table file, which is checked first.
abbrev pub file_verdict : List ℕ → List ℕ → Result Bool Refusal
file_verdict f bytes = unless (table_fault f) (accepted (file_meaning f) bytes)
