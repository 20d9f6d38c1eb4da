use Rattle.std.proofs.Common.{◌≡◌, ◌*◌, take}
use Rattle.ruling.specs.Written.{row, joined}
use Rattle.encoder.specs.Tables.{table_meaning}
use Rattle.encoder.proofs.table_in_memory.Table.write_block.Given as goal

abbrev pub invariant-loop-first : goal.invariant-loop-first
invariant-loop-first l =
    take (l.first * l.seconds) l.out ≡ joined (row l.first (λ a. row l.seconds (λ b. (table_meaning l.self.inner).target l.kind a b)))
