use Rattle.std.proofs.Common.{◌≡◌, ℕ, ◌<◌, get_or}
use Rattle.encoder.specs.Tables.{table_meaning}
use Rattle.encoder.proofs.table_in_memory.Table.write_column.Given as goal

abbrev pub invariant-loop-first : goal.invariant-loop-first
invariant-loop-first l = (k : ℕ) → k < l.first → get_or l.out k 0 ≡ (table_meaning l.self.inner).target l.kind k 0
