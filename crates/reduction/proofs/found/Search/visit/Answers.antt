use Rattle.std.proofs.Common.{arith}
use Rattle.reduction.proofs.Bounds.{reached_below}
use Rattle.reduction.proofs.Searching.{target_reached, found_more}
use Rattle.reduction.proofs.found.Search.visit.Goals as goal

pub returns-clause-sound : goal.returns-clause-sound
returns-clause-sound g c from found =
    let w = g.R.Ruling.meaning c.args.self.now.ruling.now in
    let hit = target_reached w.plain _ _ _ _ from c.target_of-t.ensures in
    rw c.push.ensures.items (found_more _ _ _ (omega (arith, reached_below w _ hit, w.few)) _ found hit c.if-self-t.false)
