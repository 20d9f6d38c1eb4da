use Rattle.reduction.specs.Dividing.{EvenBeside}
use Rattle.reduction.specs.Divisions.{meant_by, Finer}
use Rattle.reduction.proofs.division.Division.beside.Given as goal

abbrev pub invariant-loop-kind : goal.invariant-loop-kind
invariant-loop-kind g l = Finer l.initial.self l.self (λ class leader. EvenBeside (meant_by l.initial.self) class leader l.kind l.brother)
