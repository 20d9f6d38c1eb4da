-- The file of a table in memory passes the check, and means the table.
use Rattle.std.proofs.Common.{◌≡◌, None, arith}
use Rattle.table.specs.TableFiles.{table_fault, file_meaning}
use Rattle.encoder.specs.declared.table_in_memory.Table.{Table}
use Rattle.encoder.specs.Tables.{table_meaning, Equal}
use Rattle.encoder.specs.Encodings.{Tabled, table_bytes}
use Rattle.encoder.proofs.FileLayout.{files_read}

pub tabled : (t : Table) → Tabled (table_meaning t.inner)
tabled t = record { list = (omega (arith, t.some, t.counted), omega (arith, t.few, t.counted), t.ranked); leaf = t.leaf; some = t.filled; few = t.limited; complete = t.complete }

pub passes : (t : Table) → table_fault (table_bytes t.inner) ≡ None
passes t = (files_read (table_meaning t.inner) (tabled t)).0

pub means : (t : Table) → Equal (file_meaning (table_bytes t.inner)) (table_meaning t.inner)
means t = (files_read (table_meaning t.inner) (tabled t)).1
