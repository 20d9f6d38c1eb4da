use Rattle.std.proofs.Common.{arith}
use Rattle.record.proofs.HeldChild.{part, part_one, part_tree, part_bytes, part_length}
use Rattle.record.proofs.record.Record.part.Goals as goal

pub overflow_add-result : goal.overflow_add-result
overflow_add-result c =
    let i = (part c.args.self.now c.args.number c.args.span c.requires).inside in
    let e = c.args.self.now.ends in
    omega arith

pub slice_bounds-result-end : goal.slice_bounds-result-end
slice_bounds-result-end c = (part c.args.self.now c.args.number c.args.span c.requires).inside

pub returns : goal.returns
returns c =
    let r = c.args.self.now in
    let n = c.args.number in
    let s = c.args.span in
    let i = (part r n s c.requires).inside in
    let l = part_length r n s c.requires in
    record { bytes = part_bytes r n s c.requires; inside = omega arith; one = part_one r n s c.requires; tree = part_tree r n s c.requires }
