use Rattle.std.proofs.Common.{◌<◌, All, sym, subst, arith}
use Rattle.reduction.specs.Dividing.{Lives, Sorted}
use Rattle.reduction.proofs.Dividing.{all_live, listed_below, listed_small, fewer_lives, marks_classed, marks_lives, known_classes}
use Rattle.reduction.proofs.begin.classes.Goals as goal

pub all-live-requires : goal.all-live-requires
all-live-requires g c =
    let w = g.R.Ruling.meaning c.args.ruling.now in
    record { few = omega (arith, c.requires.few, w.few); small = listed_small w _ c.requires }

pub read_keys-requires : goal.read_keys-requires
read_keys-requires g c =
    let w = g.R.Ruling.meaning c.args.ruling.now in
    subst (All (λ s. s < w.plain.states)) (sym c.all-live.ensures) (listed_below w _ c.requires)

pub whole-partition-requires : goal.whole-partition-requires
whole-partition-requires g c = listed_small (g.R.Ruling.meaning c.args.ruling.now) _ c.requires 0 0 c.requires.some

pub invariant_of-division : goal.invariant_of-division
invariant_of-division g c =
    let m = (g.R.Ruling.meaning c.args.ruling.now).plain in
    let all = subst (Lives m c.whole-partition.result.class) (sym c.all-live.ensures) (all_live m c.whole-partition.result.class c.args.list.now c.requires) in
    let hit = c.requires.reached 0 c.requires.some in
    record {
      sorted = ∣ record {
        classed = marks_classed m _ _ _ _ all hit c.whole-partition.ensures _ _ _ c.read_keys.ensures c.split.ensures.split c.split.new.self.parts c.split.ensures.level;
        lives = fewer_lives m _ _ _ (marks_lives m _ _ _ _ all hit c.whole-partition.ensures _ _ _ c.read_keys.ensures c.split.ensures.split) c.refresh.ensures;
      } ∣₁;
    }

pub returns : goal.returns
returns g c =
    let d = c.settle.new.self in
    known_classes (g.R.Ruling.meaning c.args.ruling.now).plain c.args.list.now d.partition.class d.partition.leader.items d.live.states.items c.requires d.partition.parts
    (subst (λ r. ∥ Sorted (g.R.Ruling.meaning r.now).plain d.partition.class d.partition.leader.items d.live.states.items ∥₁) c.settle.ensures.same d.sorted)
    c.settle.ensures.even
