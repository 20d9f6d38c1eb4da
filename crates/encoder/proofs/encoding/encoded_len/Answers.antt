use Rattle.std.proofs.Common.{arith}
use Rattle.encoder.specs.Tables.{table_meaning}
use Rattle.encoder.proofs.FileLayout.{file_length}
use Rattle.encoder.proofs.encoding.encoded_len.Goals as goal

pub returns : goal.returns
returns c = omega (arith, c.body_at.ensures.value, c.cells_len.ensures.value, file_length (table_meaning c.args.table.now.inner))
