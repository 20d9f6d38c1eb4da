use Rattle.std.proofs.Common.{◌<◌, arith}
use Rattle.ruling.specs.Written.{mark_byte}
use Rattle.encoder.specs.Tables.{table_meaning}
use Rattle.encoder.proofs.Parts.{row_of}
use Rattle.encoder.proofs.table_in_memory.Table.write_marks.Goals as goal

pub returns : goal.returns
returns c = row_of c.args.self.now.inner.states (λ s. mark_byte ((table_meaning c.args.self.now.inner).mark s)) _ (omega arith)
    (λ k l. c.loop-state.invariant k (omega arith))
