use Rattle.std.proofs.Common.{ℕ, ◌<◌}
use Rattle.reduction.specs.Searching.{Visited, UnlessAll}
use Rattle.reduction.specs.Searches.{searched, Onto}
use Rattle.reduction.proofs.found.Search.meet.Given as goal

abbrev pub invariant-loop-kind : goal.invariant-loop-kind
invariant-loop-kind g l = record {
  onto : Onto l.initial.self l.self;
  held : UnlessAll (searched l.initial.self) l.self.order.items ((k : ℕ) → k < l.kind → Visited (searched l.initial.self) l.initial.self.order.items l.self.seen k l.i);
}
