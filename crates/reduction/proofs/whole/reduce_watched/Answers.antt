use Rattle.std.proofs.Common.{sym, refl, subst, arith}
use Rattle.ruling.specs.Meanings.{accepts}
use Rattle.ruling.specs.Sets.{Need}
use Rattle.ruling.proofs.Needing.{need_of_classes}
use Rattle.reduction.proofs.whole.reduce_watched.Goals as goal

pub returns-then-count-gt-MOST_STATES : goal.returns-then-count-gt-MOST_STATES
returns-then-count-gt-MOST_STATES g c =
    let m = (g.R.Ruling.meaning c.args.ruling.now).plain in (
      c.count-count.result,
      refl,
      omega (arith, c.if-count-gt-MOST_STATES.true),
      subst (Need m.kinds (accepts m)) (sym c.count-count.ensures.value) (need_of_classes m _ _ c.classes-partition.ensures),
    )
