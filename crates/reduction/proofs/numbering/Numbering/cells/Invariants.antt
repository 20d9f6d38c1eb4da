use Rattle.reduction.specs.Numberings.{meaning_by}
use Rattle.reduction.specs.Filling.{Filling}
use Rattle.reduction.proofs.numbering.Numbering.cells.Given as goal

abbrev pub invariant-loop-kind : goal.invariant-loop-kind
invariant-loop-kind g l = Filling (meaning_by l.self) l.cells l.kind 0 0
