use Rattle.std.proofs.Common.{◌≡◌, ℕ, ◌-◌, ◌<◌, ◌≤◌, length}
use Rattle.reduction.specs.Searching.{Found, UnlessAll, LeavesSeen, Visited}
use Rattle.reduction.specs.Searches.{searched}
use Rattle.reduction.proofs.visit.reached.Given as goal

abbrev pub invariant-loop-i : goal.invariant-loop-i
invariant-loop-i g l = record {
  same : searched l.found ≡ (g.R.Ruling.meaning l.ruling).plain;
  sound : Found (g.R.Ruling.meaning l.ruling).plain l.found.order.items l.found.seen;
  met : UnlessAll (g.R.Ruling.meaning l.ruling).plain l.found.order.items (LeavesSeen (g.R.Ruling.meaning l.ruling).plain l.found.seen
      × ((a : ℕ) → a < l.i → (k : ℕ) → Visited (g.R.Ruling.meaning l.ruling).plain l.found.order.items l.found.seen k a));
  within : l.i ≤ length l.found.order.items;
}

abbrev pub decreases-loop-i : goal.decreases-loop-i
decreases-loop-i g l = 1089 - l.i
