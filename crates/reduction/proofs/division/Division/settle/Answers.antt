use Rattle.std.proofs.Common.{get_or, ◌∙◌, subst, sym, arith}
use Rattle.std.proofs.lemmas.Bool.{eqb-true}
use Rattle.reduction.specs.Dividing.{EvenBeside, EvenUnder, Sorted}
use Rattle.reduction.proofs.Dividing.{known_none, known_rest, resting_all, turn_less, turn_quiet, turn_rests}
use Rattle.reduction.proofs.Splitting.{few_parts}
use Rattle.reduction.proofs.division.Division.settle.Goals as goal

pub loop-self-smaller : goal.loop-self-smaller
loop-self-smaller g c = turn_less _ _ _ _ _ _ c.if-quiet-list.true (omega (arith, c.requires.few, (g.R.Ruling.meaning c.args.self.now.ruling.now).few))
    (few_parts _ _ c.meet_brother-divided.new.self.partition.parts) c.meet_brother-divided.ensures.divided c.meet_brother-divided.ensures.rested c.quiet_after-quiet.ensures

pub loop-self-preserved : goal.loop-self-preserved
loop-self-preserved g c =
    let new = c.meet_brother-divided.new.self.partition in
    let finer = c.meet_brother-divided.ensures.finer in
    record {
      same = finer.same ∙ c.loop-self.invariant.same;
      even = subst (λ r. EvenUnder (g.R.Ruling.meaning r.now).plain new.class 16) c.loop-self.invariant.same c.meet_brother-divided.ensures.even;
      rests = turn_rests _ _ _ _ _ _ _ _ _ _ _ c.loop-self.invariant.place c.quiet_after-quiet.ensures
          (λ e. let same = finer.still (c.meet_brother-divided.ensures.rested e) in (
            same.0,
            same.1,
            subst (λ r. EvenBeside (g.R.Ruling.meaning r.now).plain new.class new.leader.items 16 (get_or c.args.list.now c.loop-self.next 0))
                c.loop-self.invariant.same (finer.holds (c.meet_brother-divided.ensures.rested e)),
          )) c.loop-self.invariant.rests;
      place = omega arith;
      few = turn_quiet _ _ _ _ c.if-quiet-list.true c.quiet_after-quiet.ensures;
    }

pub returns-else-quiet-list-clause-even : goal.returns-else-quiet-list-clause-even
returns-else-quiet-list-clause-even g c =
    let p = c.loop-self.self.partition in
    known_rest (g.R.Ruling.meaning c.args.self.now.ruling.now) _ _ _ _ c.requires
    (subst (λ r. ∥ Sorted (g.R.Ruling.meaning r.now).plain p.class p.leader.items c.loop-self.self.live.states.items ∥₁) c.loop-self.invariant.same c.loop-self.self.sorted)
    c.loop-self.invariant.even (resting_all _ _ _ _ _ _ _ c.loop-self.invariant.place (omega arith) c.loop-self.invariant.rests)

pub returns-after-loop-self-clause-even : goal.returns-after-loop-self-clause-even
returns-after-loop-self-clause-even g c =
    let p = c.loop-self.self.partition in
    known_none (g.R.Ruling.meaning c.args.self.now.ruling.now).plain _ p.leader.items c.loop-self.self.live.states.items (eqb-true _ _ (sym c.is_empty.ensures ∙ c.loop-self-test.false))
    (subst (λ r. ∥ Sorted (g.R.Ruling.meaning r.now).plain p.class p.leader.items c.loop-self.self.live.states.items ∥₁) c.loop-self.invariant.same c.loop-self.self.sorted)
