use Rattle.std.proofs.Common.{refl}
use mathlib.Core.Logic.{∥∥₁_map}
use Rattle.reduction.proofs.Dividing.{live_below, swept, swept_even}
use Rattle.reduction.proofs.division.Division.sweep.Goals as goal

pub read_keys-requires : goal.read_keys-requires
read_keys-requires g c k d h = (c.requires, live_below (g.R.Ruling.meaning c.args.self.now.ruling.now) _ _ _ c.args.self.now.sorted k d h)

pub invariant_of-self-then-count-before : goal.invariant_of-self-then-count-before
invariant_of-self-then-count-before g c = record {
  sorted = ∥∥₁_map c.args.self.now.sorted (swept (g.R.Ruling.meaning c.args.self.now.ruling.now).plain c.args.context _ _ _ _ _ _ c.requires
      c.read_keys.ensures c.split.ensures.split c.split.new.self.parts _ c.refresh.ensures);
}

pub returns-else-count-before : goal.returns-else-count-before
returns-else-count-before g c = record {
  same = refl;
  more = c.split.ensures.split.more;
  still = c.split.ensures.still;
  holds = λ e. swept_even (g.R.Ruling.meaning c.args.self.now.ruling.now).plain c.args.context _ _ _ _ _ _ c.requires
      c.read_keys.ensures c.split.ensures.split (c.split.ensures.still e).0 c.split.ensures.level c.args.self.now.sorted;
}
