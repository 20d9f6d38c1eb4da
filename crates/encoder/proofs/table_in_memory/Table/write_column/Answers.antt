use Rattle.std.proofs.Common.{length, arith}
use Rattle.encoder.specs.Tables.{table_meaning}
use Rattle.encoder.proofs.Parts.{row_of}
use Rattle.encoder.proofs.table_in_memory.Table.write_column.Goals as goal

pub returns : goal.returns
returns c = row_of (length c.args.out.now) (λ a. (table_meaning c.args.self.now.inner).target c.args.kind a 0) _ (omega arith)
    (λ k l. c.loop-first.invariant k (omega arith))
