use Rattle.std.proofs.Common.{◌∙◌, sym, arith, below_more}
use Rattle.std.proofs.lemmas.Bool.{eqb-true}
use Rattle.reduction.proofs.Searching.{meaning_same, listing, visited_moved, found_none}
use Rattle.reduction.proofs.visit.reached.Goals as goal

pub loop-i-init : goal.loop-i-init
loop-i-init g c = record {
  same = meaning_same c.leaves.ensures.onto.further;
  sound = c.leaves.ensures.onto.sound (found_none _ _ 1089 c.new.ensures);
  met = λ more. (c.leaves.ensures.held more, λ a h. absurd (omega arith));
  within = omega arith;
}

pub loop-i-preserved : goal.loop-i-preserved
loop-i-preserved g c =
    let more = c.meet.ensures.onto.further.more in
    let sound = rw c.loop-i.invariant.same at c.meet.ensures.onto.sound in
    let held = rw c.loop-i.invariant.same at c.meet.ensures.held in record {
      same = meaning_same c.meet.ensures.onto.further ∙ c.loop-i.invariant.same;
      sound = sound c.loop-i.invariant.sound;
      met = λ rest. let old = c.loop-i.invariant.met (omega (arith, more.more)) in (
        (λ k kind. more.holds _ (old.0 k kind)),
        below_more _ _
            (λ a h k. visited_moved _ _ _ _ _ k a (λ j l. sym (more.keeps j (omega arith))) more.holds (old.1 a h k))
            (λ k. visited_moved _ _ _ _ _ k _ (λ j l. sym (more.keeps j (omega arith))) (λ p x. x) (held rest k)),
      );
      within = omega (arith, more.more);
    }

pub returns-else-not-is_full : goal.returns-else-not-is_full
returns-else-not-is_full g c = listing (g.R.Ruling.meaning c.args.ruling.now) _ _ (rw c.loop-i.invariant.same at c.loop-i.found.few) c.requires c.loop-i.invariant.sound
    (λ more. absurd (omega (arith, more, rw c.loop-i.invariant.same at (eqb-true _ _ (sym c.if-not-is_full.ensures)))))

pub returns-after-loop-i : goal.returns-after-loop-i
returns-after-loop-i g c = listing (g.R.Ruling.meaning c.args.ruling.now) _ _ (rw c.loop-i.invariant.same at c.loop-i.found.few) c.requires c.loop-i.invariant.sound
    (λ more. let old = c.loop-i.invariant.met more in (old.0, λ a h. old.1 a (omega arith)))
