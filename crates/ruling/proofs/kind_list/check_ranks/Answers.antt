use Rattle.std.proofs.Common.{arith}
use Rattle.ruling.proofs.Lists.{then_ranks}
use Rattle.ruling.proofs.kind_list.check_ranks.Goals as goal

pub returns : goal.returns
returns c = then_ranks c.args.ranks.now c.check_small.result (omega arith) (omega arith) c.check_small.ensures
