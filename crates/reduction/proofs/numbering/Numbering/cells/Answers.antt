use Rattle.std.proofs.Common.{inr, refl, arith}
use Rattle.reduction.specs.Numberings.{meaning_by}
use Rattle.reduction.proofs.Bounds.{fresh}
use Rattle.reduction.proofs.Cells.{filled_all}
use Rattle.reduction.proofs.numbering.Numbering.cells.Goals as goal

pub loop-kind-init : goal.loop-kind-init
loop-kind-init g c = record { sound = λ i. inr (fresh 16384 0 i); done = λ l x y f h. absurd (omega (arith, h)) }

pub returns : goal.returns
returns g c = filled_all (g.R.Ruling.meaning c.args.self.now.ruling.now) (meaning_by c.args.self.now) refl c.args.self.now.few _ _ (omega arith) c.loop-kind.invariant
