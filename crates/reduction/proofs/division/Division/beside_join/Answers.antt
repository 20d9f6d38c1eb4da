use Rattle.std.proofs.Common.{arith}
use Rattle.reduction.proofs.Bounds.{reached_below}
use Rattle.reduction.proofs.division.Division.beside_join.Goals as goal

pub leads-requires : goal.leads-requires
leads-requires g c = let w = g.R.Ruling.meaning c.args.self.now.ruling.now in omega (arith, reached_below w _ c.requires.brother, w.few)
