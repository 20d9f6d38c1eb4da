use Rattle.std.proofs.Common.{◌≡◌, ◌-◌, length}
use Rattle.reduction.specs.Numberings.{NumberedBy}
use Rattle.reduction.proofs.numbering.Numbering.by_discovery.Given as goal

abbrev pub invariant-loop-list : goal.invariant-loop-list
invariant-loop-list g l = record {
  ruling : l.numbering.ruling.now ≡ l.ruling;
  partition : l.numbering.partition.now ≡ l.partition;
  numbered : NumberedBy l.numbering;
}

abbrev pub decreases-loop-list : goal.decreases-loop-list
decreases-loop-list g l = 32 - length l.numbering.rep.items
