use Rattle.std.proofs.Common.{ℕ, ◌+◌, ◌*◌, ◌≤◌, min, drop, Some, sym, ap, ◌∙◌}
use native.Mathlib.Nat.{min-le_right}
use Rattle.std.specs.Option.{option_map}
use Rattle.script.specs.Arguments.{digit, numeral}
use Rattle.script.proofs.Numbers.{digit_is, cap_read, digit_more}
use Rattle.script.proofs.arguments.number.Goals as goal

pub loop-c-preserved : goal.loop-c-preserved
loop-c-preserved c =
    let w = c.args.word.now in
    let rest = drop (c.loop-c.c-index + 1) w in
    let n = c.loop-c.n * 10 + c.in_ok-digit.digit in
    let m = c.min-n.ensures in
    let less : c.min-n.result ≤ 65536 = rw m (min-le_right n 65536) in
    let d = digit_is c.from.result (Some c.in_ok-digit.digit) c.in_ok-digit.ensures.value ∙ ap digit c.from.ensures in (
      less,
      c.loop-c.invariant.1
          ∙ (ap (option_map (λ n. min n 65536)) (digit_more w c.loop-c.c-index c.loop-c.n (Some c.in_ok-digit.digit) c.loop-c-test.true (sym d))
          ∙ (cap_read n rest
          ∙ ap (λ (x : ℕ). option_map (λ n. min n 65536) (numeral x rest)) (sym m))),
    )
