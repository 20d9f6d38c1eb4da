use Rattle.ruling.proofs.Plugging.{plugging}
use Rattle.ruling.proofs.Growth.{all_reached}
use Rattle.ruling.proofs.Smallest.{smallest}
use Rattle.ruling.proofs.Uniqueness.{one_table}
use Rattle.ruling.proofs.Files.{same_bytes}
use Rattle.ruling.proofs.TablesOf.{table_of_each, one_written}
use Rattle.ruling.proofs.Approximating.{settled_same, approximations_end}
use Rattle.ruling.proofs.Needing.{need_of_classes, one_need}
use Rattle.reduction.proofs.OneResult.{one_reduction}
use Rattle.reduction.proofs.whole.reduce.Goals as goal

pub returns : goal.returns
returns g c = record {
  reduces = c.reduce_watched.ensures;
  one = one_reduction;
  plugging = plugging;
  reached = all_reached;
  smallest = smallest;
  unique = one_table;
  bytes = same_bytes;
  each = table_of_each;
  written = one_written;
  settled = settled_same;
  «end» = approximations_end;
  classes = need_of_classes;
  need = one_need;
}
