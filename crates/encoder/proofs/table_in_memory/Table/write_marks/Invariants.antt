use Rattle.std.proofs.Common.{◌≡◌, ℕ, ◌<◌, false, get_or}
use Rattle.ruling.specs.Written.{mark_byte}
use Rattle.encoder.proofs.table_in_memory.Table.write_marks.Given as goal

abbrev pub invariant-loop-state : goal.invariant-loop-state
invariant-loop-state l = (k : ℕ) → k < l.state → get_or l.out k 0 ≡ mark_byte (get_or l.self.inner.marks k false)
