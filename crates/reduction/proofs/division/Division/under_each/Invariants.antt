use Rattle.reduction.specs.Dividing.{EvenUnder}
use Rattle.reduction.specs.Divisions.{meant_by, Finer}
use Rattle.reduction.proofs.division.Division.under_each.Given as goal

abbrev pub invariant-loop-kind : goal.invariant-loop-kind
invariant-loop-kind g l = Finer l.initial.self l.self (λ class leader. EvenUnder (meant_by l.initial.self) class l.kind)
