use Rattle.std.proofs.Common.{◌-◌, length}
use Rattle.reduction.specs.Divisions.{Finer}
use Rattle.reduction.proofs.division.Division.under_all.Given as goal

abbrev pub invariant-loop-before : goal.invariant-loop-before
invariant-loop-before g l = Finer l.initial.self l.self (λ class leader. Unit {0})

abbrev pub decreases-loop-before : goal.decreases-loop-before
decreases-loop-before g l = 1089 - length l.self.partition.leader.items
