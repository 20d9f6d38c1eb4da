use Rattle.std.proofs.Common.{rules, sym, ◌∙◌, arith}
use Rattle.reduction.proofs.Numbers.{before_row, before_block}
use Rattle.reduction.proofs.numbering.Numbering.next.Goals as goal

pub firsts-preserved : goal.firsts-preserved
firsts-preserved g c = (c.seconds.invariant.0, before_row _ _ _ _ _ c.seconds.second _ _ c.spans-firsts.ensures (omega arith) c.seconds.invariant.1)

pub kinds-preserved : goal.kinds-preserved
kinds-preserved g c = (c.firsts.invariant.0, before_block _ _ _ _ c.firsts.first _ _ c.spans-firsts.ensures (omega arith) c.firsts.invariant.1)

pub returns-then-is_none : goal.returns-then-is_none
returns-then-is_none g c = (
  c.spans-firsts.ensures.fits _ _ c.firsts-test.true c.seconds-test.true,
  sym c.number_at.ensures ∙ (search rules),
  c.seconds.invariant.1,
)
