use Rattle.std.proofs.Common.{◌≤◌}
use Rattle.ruling.specs.Listed.{list_of}
use Rattle.record.proofs.Counts.{Standing}
use Rattle.record.proofs.check.check_record.Given as goal

abbrev pub invariant-loop-at : goal.invariant-loop-at
invariant-loop-at l = (l.reader.standing ≤ l.at) × Standing (list_of l.kinds) l.bytes l.at l.reader.standing
