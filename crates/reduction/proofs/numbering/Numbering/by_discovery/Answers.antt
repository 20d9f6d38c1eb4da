use Rattle.std.proofs.Common.{refl}
use Rattle.reduction.proofs.Numbers.{numbered_none}
use Rattle.reduction.proofs.numbering.Numbering.by_discovery.Goals as goal

pub loop-list-init : goal.loop-list-init
loop-list-init g c = record { ruling = refl; partition = refl; numbered = record { classes = c.requires.classes; numbered = rw c.new.ensures (numbered_none _ _ 32 refl) } }
