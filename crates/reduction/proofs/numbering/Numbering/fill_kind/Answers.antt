use Rattle.std.proofs.Common.{arith}
use Rattle.reduction.specs.Numberings.{meaning_by}
use Rattle.reduction.proofs.Cells.{filling_row, filling_block}
use Rattle.reduction.proofs.numbering.Numbering.fill_kind.Goals as goal

pub loop-first-preserved : goal.loop-first-preserved
loop-first-preserved g c = filling_row (meaning_by c.args.self.now) _ _ _ _ _ _
    c.spans-firsts.ensures (omega arith) c.fill_row.ensures

pub returns : goal.returns
returns g c = filling_block (meaning_by c.args.self.now) _ _ _ _ _
    c.spans-firsts.ensures (omega arith) c.loop-first.invariant
