use Rattle.std.proofs.Common.{refl, arith}
use Rattle.reduction.proofs.Bounds.{fresh}
use Rattle.reduction.proofs.numbering.Numbering.marks.Goals as goal

pub loop-number-init : goal.loop-number-init
loop-number-init g c = record { room = refl; filled = λ s h. absurd (omega arith); rest = λ s h. fresh 32 _ s }
