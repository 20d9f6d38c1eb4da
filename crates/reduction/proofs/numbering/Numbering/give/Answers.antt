use Rattle.std.proofs.Common.{arith}
use Rattle.reduction.proofs.Bounds.{below_pushed}
use Rattle.reduction.proofs.Numbers.{aimed_below, rep_at, numbered_as}
use Rattle.reduction.proofs.numbering.Numbering.give.Goals as goal

pub push-requires : goal.push-requires
push-requires g c = (
  omega arith,
  rep_at (g.R.Ruling.meaning c.args.self.now.ruling.now) _ _ c.requires.numbered.classes c.args.self.now.classes _ _ (omega arith) c.requires.numbered.numbered
      _ _ _ c.requires.opened.0 _ c.aim-t.ensures c.requires.opened.1,
)

pub invariant_of-self : goal.invariant_of-self
invariant_of-self g c =
    let w = g.R.Ruling.meaning c.args.self.now.ruling.now in record {
      few = omega (
        arith,
        rep_at w _ _ c.requires.numbered.classes c.args.self.now.classes _ _ (omega arith) c.requires.numbered.numbered
            _ _ _ c.requires.opened.0 _ c.aim-t.ensures c.requires.opened.1,
      );
      states = rw c.push.ensures.items (below_pushed _ _ _
          (omega (arith, c.aim-t.ensures, aimed_below w _ c.args.self.now.states _ _ _ _ c.requires.opened.0)) c.args.self.now.states);
      classes = c.args.self.now.classes;
    }

pub returns-clause-numbered : goal.returns-clause-numbered
returns-clause-numbered g c = record {
  classes = c.requires.numbered.classes;
  numbered = numbered_as (g.R.Ruling.meaning c.args.self.now.ruling.now) _ _ c.requires.numbered.classes c.args.self.now.classes _ _ (omega arith)
      c.requires.numbered.numbered _ _ _ c.requires.opened.0 _ c.aim-t.ensures c.requires.opened.1 c.requires.opened.2 _ _ c.push.ensures.items c.count.ensures;
}
