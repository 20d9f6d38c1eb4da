use Rattle.std.proofs.Common.{◌≡◌, ◌-◌}
use Rattle.table.specs.TableFiles.{kind_count_in, pairs_fault, directory_fault}
use Rattle.table.proofs.head.Head.check_directory.Given as goal

abbrev pub invariant-loop-kind : goal.invariant-loop-kind
invariant-loop-kind l = let f = l.self.bytes.now in pairs_fault f l.from l.kind (kind_count_in f - l.kind) ≡ directory_fault f
