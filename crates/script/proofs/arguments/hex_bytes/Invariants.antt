use Rattle.std.proofs.Common.{◌≡◌, vec_items}
use Rattle.std.specs.Slice.Iter.{chunks_rest, chunks_size}
use Rattle.script.specs.Arguments.{hex_bytes}
use Rattle.script.proofs.Numbers.{onto}
use Rattle.script.proofs.arguments.hex_bytes.Given as goal

abbrev pub invariant-loop-pair : goal.invariant-loop-pair
invariant-loop-pair l =
    (goal.iterator-loop-pair).can_next l.pair-iterator
    × (goal.iterator-loop-pair).is_finite l.pair-iterator
    × (chunks_size l.pair-iterator ≡ 2)
    × (hex_bytes l.word ≡ onto (vec_items l.bytes) (hex_bytes (chunks_rest l.pair-iterator)))
