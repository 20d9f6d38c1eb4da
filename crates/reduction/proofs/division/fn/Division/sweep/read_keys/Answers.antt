use Rattle.std.proofs.Common.{arith}
use Rattle.reduction.proofs.Dividing.{stepped_fits}
use Rattle.reduction.proofs.division.fn.Division.sweep.read_keys.Goals as goal

pub bounds-class-onward : goal.bounds-class-onward
bounds-class-onward g c =
    let w = g.R.Ruling.meaning c.captures.ruling.now in
    omega (arith, c.onward.ensures, stepped_fits w _ _ c.requires.context c.requires.state, w.few)
