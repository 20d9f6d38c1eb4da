use Rattle.std.proofs.Common.{◌≡◌, ◌+◌, ◌<◌, ◌≤◌, reverse, take}
use Rattle.ruling.specs.Listed.{list_of}
use Rattle.record.specs.Scanning.{scanned}
use Rattle.record.proofs.children.part_start.Given as goal

abbrev pub invariant-loop-at : goal.invariant-loop-at
invariant-loop-at l =
    (0 < l.need) × (l.need + l.at ≤ l.end + 1)
    × (scanned (list_of l.kinds) l.need (reverse (take l.at l.bytes)) + l.end ≡ scanned (list_of l.kinds) 1 (reverse (take l.end l.bytes)) + l.at)
