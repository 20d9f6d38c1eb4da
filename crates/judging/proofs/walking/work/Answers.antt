use Rattle.std.proofs.Common.{◌≤◌, length, ap, ◌∙◌, arith}
use Rattle.ruling.specs.Listed.{list_of}
use Rattle.judging.proofs.Walks.{work_more, work_end, work_goes, popped}
use Rattle.judging.proofs.walking.work.Goals as goal

pub returns-in_err-step : goal.returns-in_err-step
returns-in_err-step g c = λ t e l.
    let new = ap length c.new-stack.ensures.slots in
    let inv = c.loop-at.invariant in
    let room : length c.args.bytes.now ≤ length c.loop-at.stack.slots.now = omega arith in
    absurd (work_goes _ (list_of c.args.kinds.now) c.args.bytes.now t c.loop-at.at _ _ _ _ c.in_err-step.ensures.steps c.loop-at-test.true room (inv.1 t e room))

pub loop-at-preserved : goal.loop-at-preserved
loop-at-preserved g c =
    let inv = c.loop-at.invariant in
    let same = c.step.ensures.room in (
      same ∙ inv.0,
      λ t e l. let room : length c.args.bytes.now ≤ length c.loop-at.stack.slots.now = omega arith in
          (work_more _ (list_of c.args.kinds.now) c.args.bytes.now t c.loop-at.at _ _ _ _ c.step.ensures.steps c.loop-at-test.true room (inv.1 t e room)).1,
    )

pub returns : goal.returns
returns g c = λ t e l.
    let new = ap length c.new-stack.ensures.slots in
    let inv = c.loop-at.invariant in
    let room : length c.args.bytes.now ≤ length c.loop-at.stack.slots.now = omega arith in
    let w = work_end _ (list_of c.args.kinds.now) c.args.bytes.now t c.loop-at.at _ (omega arith) (inv.1 t e room) in
    c.ok_or.ensures.value ∙ popped _ _ _ _ _ w c.pop.ensures.answer
