use Rattle.std.proofs.Common.{refl, subst}
use Rattle.ruling.specs.Meanings.{one, two}
use Rattle.reduction.specs.Dividing.{IsContext}
use Rattle.reduction.proofs.Bounds.{reached_below}
use Rattle.reduction.proofs.context.Context.onward.Goals as goal

pub target_of-requires : goal.target_of-requires
target_of-requires g c = one (subst (IsContext (g.R.Ruling.meaning c.args.ruling.now).plain) c.in-Under.is c.requires.context) c.requires.state refl

pub target_of-requires-in-Left : goal.target_of-requires-in-Left
target_of-requires-in-Left g c =
    let w = g.R.Ruling.meaning c.args.ruling.now in
    let at = subst (IsContext w.plain) c.in-Left.is c.requires.context in
    two at.0 c.requires.state (reached_below w _ at.1)

pub target_of-requires-in-Right : goal.target_of-requires-in-Right
target_of-requires-in-Right g c =
    let w = g.R.Ruling.meaning c.args.ruling.now in
    let at = subst (IsContext w.plain) c.in-Right.is c.requires.context in
    two at.0 (reached_below w _ at.1) c.requires.state
