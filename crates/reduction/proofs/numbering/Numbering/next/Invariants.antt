use Rattle.std.proofs.Common.{◌≡◌, length, None}
use Rattle.reduction.specs.Numbering.{AllBefore, HasNumber}
use Rattle.reduction.specs.Numberings.{ruled_by}
use Rattle.reduction.proofs.numbering.Numbering.next.Given as goal

abbrev pub invariant-seconds : goal.invariant-seconds
invariant-seconds g l = (l.found ≡ None) × AllBefore (ruled_by l.self).kinds (length l.self.rep.items)
    (HasNumber (ruled_by l.self) l.self.partition.now.class l.self.rep.items l.self.number) l.kind l.first l.second

abbrev pub invariant-firsts : goal.invariant-firsts
invariant-firsts g l = (l.found ≡ None) × AllBefore (ruled_by l.self).kinds (length l.self.rep.items)
    (HasNumber (ruled_by l.self) l.self.partition.now.class l.self.rep.items l.self.number) l.kind l.first 0

abbrev pub invariant-kinds : goal.invariant-kinds
invariant-kinds g l = (l.found ≡ None) × AllBefore (ruled_by l.self).kinds (length l.self.rep.items)
    (HasNumber (ruled_by l.self) l.self.partition.now.class l.self.rep.items l.self.number) l.kind 0 0
