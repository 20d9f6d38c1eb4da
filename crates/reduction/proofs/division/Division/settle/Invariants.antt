use Rattle.std.proofs.Common.{◌≡◌, ◌+◌, ◌-◌, ◌*◌, ◌<◌, ◌≤◌, length}
use Rattle.reduction.specs.Dividing.{EvenUnder, Resting}
use Rattle.reduction.proofs.division.Division.settle.Given as goal

abbrev pub invariant-loop-self : goal.invariant-loop-self
invariant-loop-self g l = record {
  same : l.self.ruling ≡ l.fn.self.ruling;
  even : EvenUnder (g.R.Ruling.meaning l.fn.self.ruling.now).plain l.self.partition.class 16;
  rests : Resting (g.R.Ruling.meaning l.fn.self.ruling.now).plain l.list (length l.list) l.self.partition.class l.self.partition.leader.items l.quiet l.next;
  place : l.next < length l.list;
  few : l.quiet ≤ length l.list;
}

abbrev pub decreases-loop-self : goal.decreases-loop-self
decreases-loop-self g l = (1089 - length l.self.partition.leader.items) * 2000 + (length l.list - l.quiet)
