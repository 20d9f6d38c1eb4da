-- Rules by arithmetic on the kind k and the states a and b, where there are n states.
use Rattle.std.specs.Prelude.{ℕ, ◌+◌, ◌-◌, ◌%◌, Bool, true, cond, ◌==◌}
use Rattle.samples.specs.declared.arithmetic.Arithmetic.{Arithmetic}
use Rattle.samples.specs.declared.arithmetic.Arithmetic.TheVariants.{Counting, Classes33, Alike, Cycle, Slow}

abbrev pub lead_of : Arithmetic → ℕ → ℕ → ℕ → ℕ → ℕ
lead_of Counting n k a b = (1 + a + b) % n
lead_of Classes33 n k a b = (1 + a + b) % n
lead_of Alike n k a b = (k + a + b) % n
lead_of Cycle n k a b = (k + a) % n
lead_of Slow n k a b = cond (k == 0) (n - 1) (a - 1)

abbrev pub mark_of : Arithmetic → ℕ → ℕ → Bool
mark_of Counting n s = s == 0
mark_of Classes33 n s = s % 33 == 0
mark_of Alike n s = true
mark_of Cycle n s = s + 1 == n
mark_of Slow n s = s == 0
