use Rattle.std.proofs.Common.{◌≡◌, ℕ, ◌<◌, get_or}
use Rattle.encoder.specs.Tables.{table_meaning}
use Rattle.encoder.proofs.table_in_memory.Table.write_row.Given as goal

abbrev pub invariant-loop-second : goal.invariant-loop-second
invariant-loop-second l = (k : ℕ) → k < l.second → get_or l.out k 0 ≡ (table_meaning l.self.inner).target l.kind l.first k
