use Rattle.reduction.specs.Numberings.{meaning_by}
use Rattle.reduction.specs.Filling.{Filling}
use Rattle.reduction.proofs.numbering.Numbering.fill_kind.Given as goal

abbrev pub invariant-loop-first : goal.invariant-loop-first
invariant-loop-first g l = Filling (meaning_by l.self) l.cells l.kind l.first 0
