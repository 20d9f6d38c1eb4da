use Rattle.std.proofs.Common.{◌≡◌, ◌-◌}
use Rattle.table.specs.TableFiles.{kind_count_in, cells_fault}
use Rattle.table.proofs.directory.Blocks.check_cells.Given as goal

abbrev pub invariant-loop-kind : goal.invariant-loop-kind
invariant-loop-kind l = let f = l.self.head.bytes.now in cells_fault f l.kind (kind_count_in f - l.kind) ≡ cells_fault f 0 (kind_count_in f)
