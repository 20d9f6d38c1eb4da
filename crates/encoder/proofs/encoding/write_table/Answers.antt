use Rattle.std.proofs.Common.{arith}
use Rattle.encoder.specs.Tables.{table_meaning}
use Rattle.encoder.proofs.FileLayout.{file_length}
use Rattle.encoder.proofs.encoding.write_table.Goals as goal

pub split_at_mut-marks-requires : goal.split_at_mut-marks-requires
split_at_mut-marks-requires c = omega (arith, file_length (table_meaning c.args.table.now.inner))

pub split_at_mut-directory-requires : goal.split_at_mut-directory-requires
split_at_mut-directory-requires c = omega (arith, file_length (table_meaning c.args.table.now.inner))

pub write_blocks-requires : goal.write_blocks-requires
write_blocks-requires c = omega (arith, file_length (table_meaning c.args.table.now.inner), c.args.table.now.counted)
