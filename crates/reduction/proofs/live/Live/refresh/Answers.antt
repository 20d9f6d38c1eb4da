use Rattle.std.proofs.Common.{sym, subst}
use Rattle.reduction.specs.Dividing.{Fewer}
use Rattle.reduction.proofs.LiveStates.{fewer_live}
use Rattle.reduction.proofs.live.Live.refresh.Goals as goal

pub returns : goal.returns
returns c = subst (Fewer c.args.self.now.states.items c.args.partition.now.class) (sym c.keep_shared.ensures) (fewer_live _ _ _ _ c.note_shared.ensures)
