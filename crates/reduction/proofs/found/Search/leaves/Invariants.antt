use Rattle.std.proofs.Common.{ℕ, ◌<◌}
use Rattle.ruling.specs.Trees.{Kind}
use Rattle.reduction.specs.Searching.{Seen, UnlessAll}
use Rattle.reduction.specs.Searches.{searched, Onto}
use Rattle.reduction.proofs.found.Search.leaves.Given as goal

abbrev pub invariant-loop-kind : goal.invariant-loop-kind
invariant-loop-kind g l = record {
  onto : Onto l.initial.self l.self;
  held : UnlessAll (searched l.initial.self) l.self.order.items ((k : ℕ) → k < l.kind → Kind (searched l.initial.self).kinds k 0 → Seen l.self.seen ((searched l.initial.self).target k 0 0));
}
