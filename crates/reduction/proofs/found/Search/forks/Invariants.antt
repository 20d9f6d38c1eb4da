use Rattle.std.proofs.Common.{ℕ, ◌<◌}
use Rattle.reduction.specs.Searching.{BothSeen, UnlessAll}
use Rattle.reduction.specs.Searches.{searched, Onto}
use Rattle.reduction.proofs.found.Search.forks.Given as goal

abbrev pub invariant-loop-j : goal.invariant-loop-j
invariant-loop-j g l = record {
  onto : Onto l.initial.self l.self;
  held : UnlessAll (searched l.initial.self) l.self.order.items ((j : ℕ) → j < l.j → BothSeen (searched l.initial.self) l.initial.self.order.items l.self.seen l.kind l.i j);
}
