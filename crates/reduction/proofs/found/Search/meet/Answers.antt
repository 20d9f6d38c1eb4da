use Rattle.std.proofs.Common.{◌<◌, refl, arith, below_more}
use native.Mathlib.Decide.{dec_lt}
use Rattle.reduction.specs.Searching.{Visited}
use Rattle.reduction.specs.Searches.{searched}
use Rattle.reduction.proofs.Searching.{meaning_same, onto_on, visited_moved, visited_past}
use Rattle.reduction.proofs.found.Search.meet.Goals as goal

pub loop-kind-preserved : goal.loop-kind-preserved
loop-kind-preserved g c =
    let before = c.loop-kind.invariant.onto.further in
    let after = c.branch-self.ensures.onto.further in
    let held = rw (meaning_same before) at c.branch-self.ensures.held in record {
      onto = onto_on c.loop-kind.invariant.onto c.branch-self.ensures.onto;
      held = λ more. below_more _ _
          (λ k h. visited_moved _ _ _ _ _ k _ (λ j l. refl) after.more.holds (c.loop-kind.invariant.held (omega (arith, after.more.more)) k h))
          (visited_moved _ _ _ _ _ _ _ (λ j l. before.more.keeps j (omega (arith, c.requires))) (λ p x. x) (held more));
    }

pub returns-clause-held : goal.returns-clause-held
returns-clause-held g c more k = every (dec_lt k 16)
  where
    every : Dec (k < 16) → Visited (searched c.args.self.now) c.args.self.now.order.items c.loop-kind.self.seen k c.args.i
    every (yes h) = c.loop-kind.invariant.held more k (omega arith)
    every (no h) = visited_past (g.R.Ruling.meaning c.args.self.now.ruling.now) _ _ k _ (omega arith)
