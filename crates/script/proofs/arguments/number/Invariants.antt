use Rattle.std.proofs.Common.{◌≡◌, ◌≤◌, min, drop}
use Rattle.std.specs.Option.{option_map}
use Rattle.script.specs.Arguments.{numeral, number_in}
use Rattle.script.proofs.arguments.number.Given as goal

abbrev pub invariant-loop-c : goal.invariant-loop-c
invariant-loop-c l = (l.n ≤ 65536) × (number_in l.word ≡ option_map (λ n. min n 65536) (numeral l.n (drop l.c-index l.word)))
