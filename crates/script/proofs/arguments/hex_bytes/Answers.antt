use Rattle.std.proofs.Common.{◌≡◌, ◌∷◌, length, Some, vec_items, sym, ap, ◌∙◌, arith, rules}
use Rattle.std.specs.Slice.Iter.{chunks_rest}
use Rattle.script.specs.Arguments.{given, hex_bytes}
use Rattle.script.proofs.Numbers.{onto, pair_more, onto_more}
use Rattle.script.proofs.arguments.hex_bytes.Goals as goal

pub loop-pair-preserved : goal.loop-pair-preserved
loop-pair-preserved c =
    let left = chunks_rest c.next.new.self in
    let s = c.in-Some.ensures.steps in
    let two : length c.in-Some.pair.now ≡ 2 = omega arith in
    let p = pair_more (chunks_rest c.loop-pair.pair-iterator) c.in-Some.pair.now left s.1.0 two in
    let e = c.loop-pair.invariant.3
    ∙ ap (onto (vec_items c.loop-pair.bytes)) (p ∙ ap (λ o. given o (λ b. given (hex_bytes left) (λ bs. Some (b ∷ bs)))) (sym c.in-Some-hex_byte.ensures))
    ∙ onto_more (vec_items c.loop-pair.bytes) c.in-Some-hex_byte.byte (hex_bytes left)
    ∙ ap (λ xs. onto xs (hex_bytes left)) (sym c.in_ok-push.ensures.items) in
    (search rules, search rules, s.0 ∙ c.loop-pair.invariant.2, e)
