-- Two rulings side by side: where the second has N states, state a · N + b stands for a and b. What is no argument list leads to 0.
use Rattle.std.specs.Prelude.{ℕ, ◌+◌, ◌*◌, ◌/◌, ◌%◌, Bool, false, ◌&&◌, ◌||◌}
use Rattle.std.specs.Option.{unwrap_or}
use Rattle.ruling.specs.Meanings.{Meaning}
use Rattle.ruling.specs.Questions.{targeted, marked}
use Rattle.samples.specs.declared.marking.Marking.{Marking}
use Rattle.samples.specs.declared.marking.Marking.TheVariants.{Both, Either}

abbrev pub lead_both : Meaning → Meaning → ℕ → ℕ → ℕ → ℕ
lead_both p q k a b = unwrap_or (targeted p k (a / q.states) (b / q.states)) 0 * q.states
    + unwrap_or (targeted q k (a % q.states) (b % q.states)) 0

-- Marked by both, or by either.
abbrev pub mark_both : Marking → Meaning → Meaning → ℕ → Bool
mark_both Both p q s = unwrap_or (marked p (s / q.states)) false && unwrap_or (marked q (s % q.states)) false
mark_both Either p q s = unwrap_or (marked p (s / q.states)) false || unwrap_or (marked q (s % q.states)) false
