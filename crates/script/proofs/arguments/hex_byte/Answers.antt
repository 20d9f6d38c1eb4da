use Rattle.std.proofs.Common.{◌+◌, ◌*◌, Some, None, ap, ap₂, ◌∙◌}
use Rattle.script.specs.Arguments.{given, hex_digit}
use Rattle.script.proofs.Numbers.{hex_digit_is}
use Rattle.script.proofs.arguments.hex_byte.Goals as goal

pub returns-in_err-y : goal.returns-in_err-y
returns-in_err-y c =
    c.from_residual-in_err-y.ensures
    ∙ ap₂ (λ u v. given u (λ x. given v (λ y. Some (x * 16 + y))))
    (hex_digit_is c.from.result (Some c.in_ok-x.x) c.in_ok-x.ensures.value c.in_ok-x.ensures.cases ∙ ap hex_digit c.from.ensures)
    (hex_digit_is c.from-2.result None c.in_err-y.ensures.value c.in_err-y.ensures.cases ∙ ap hex_digit c.from-2.ensures)

pub returns : goal.returns
returns c =
    ap₂ (λ u v. given u (λ x. given v (λ y. Some (x * 16 + y))))
    (hex_digit_is c.from.result (Some c.in_ok-x.x) c.in_ok-x.ensures.value c.in_ok-x.ensures.cases ∙ ap hex_digit c.from.ensures)
    (hex_digit_is c.from-2.result (Some c.in_ok-y.y) c.in_ok-y.ensures.value c.in_ok-y.ensures.cases ∙ ap hex_digit c.from-2.ensures)
