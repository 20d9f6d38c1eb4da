use Rattle.std.proofs.Common.{◌≡◌, take, length}
use Rattle.ruling.specs.Written.{joined}
use Rattle.encoder.specs.Encodings.{table_blocks}
use Rattle.encoder.proofs.table_in_memory.Table.write_blocks.Given as goal

abbrev pub invariant-loop-kind : goal.invariant-loop-kind
invariant-loop-kind l = let done = joined (take l.kind (table_blocks l.self.inner)) in (l.from ≡ length done) × (take l.from l.out ≡ done)
