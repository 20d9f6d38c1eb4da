use Rattle.std.proofs.Common.{◌<◌, ◌++◌, sym, ap, ap₂, ◌∙◌, arith, length}
use Rattle.std.proofs.lemmas.List.{take_all}
use Rattle.std.proofs.lemmas.Slice.{take-put_mid}
use Rattle.ruling.specs.Written.{joined}
use Rattle.encoder.specs.Encodings.{table_blocks}
use Rattle.encoder.proofs.Blocks.{joined_take, joined_within}
use Rattle.encoder.proofs.Held.{held_blocks}
use Rattle.encoder.proofs.Parts.{length_so_far}
use Rattle.encoder.proofs.table_in_memory.Table.write_blocks.Goals as goal

pub slice_bounds-write_block-end : goal.slice_bounds-write_block-end
slice_bounds-write_block-end c =
    let bs = table_blocks c.args.self.now.inner in
    let n = held_blocks c.args.self.now.inner c.args.self.now.counted in
    let w = joined_within bs c.loop-kind.kind (omega arith) in
    omega (arith, w, c.loop-kind.invariant.0, c.block_len.ensures.value)

pub loop-kind-preserved : goal.loop-kind-preserved
loop-kind-preserved c =
    let bs = table_blocks c.args.self.now.inner in
    let n = held_blocks c.args.self.now.inner c.args.self.now.counted in
    let i = c.loop-kind.invariant in
    let k = c.loop-kind.kind in
    let l : k < length bs = omega arith in
    let w = joined_within bs k l in
    let e = length_so_far bs k l in
    let h = ap length c.write_block.ensures in (
      omega (arith, i.0, e, c.block_len.ensures.value),
      take-put_mid c.loop-kind.from _ c.loop-kind.out c.write_block.new.out _ (omega (arith, h, c.block_len.ensures.value)) (omega (arith, w, i.0))
          ∙ (ap₂ ◌++◌ i.1 c.write_block.ensures ∙ sym (joined_take bs k l)),
    )

pub returns : goal.returns
returns c =
    let bs = table_blocks c.args.self.now.inner in
    let n = held_blocks c.args.self.now.inner c.args.self.now.counted in
    let i = c.loop-kind.invariant in
    let e = ap joined (take_all c.loop-kind.kind bs (omega arith)) in
    sym (take_all c.loop-kind.from c.loop-kind.out (omega (arith, i.0, ap length e))) ∙ (i.1 ∙ e)
