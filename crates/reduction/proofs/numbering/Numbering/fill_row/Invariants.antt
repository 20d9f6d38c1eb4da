use Rattle.reduction.specs.Numberings.{meaning_by}
use Rattle.reduction.specs.Filling.{Filling}
use Rattle.reduction.proofs.numbering.Numbering.fill_row.Given as goal

abbrev pub invariant-loop-second : goal.invariant-loop-second
invariant-loop-second g l = Filling (meaning_by l.self) l.cells l.kind l.first l.second
