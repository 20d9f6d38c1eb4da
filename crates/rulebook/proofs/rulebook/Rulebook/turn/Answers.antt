use Rattle.rulebook.proofs.TurnedTables.{data_reduced, data_follows, data_cleaned}
use Rattle.rulebook.proofs.rulebook.Rulebook.turn.Goals as goal

pub invariant_of-self : goal.invariant_of-self
invariant_of-self c =
    let t = c.args.self.now.table in (
      tt,
      (t.some, (t.few, (t.counted, (t.ranked, (t.leaf, (t.filled, (t.limited, (t.complete, tt)))))))),
      (
        ∣ data_reduced c.args.self.now c.turn_marks.new.marks c.turn_marks.auto.marks c.turn_marks.ensures ∣₁,
        (data_cleaned c.args.self.now c.turn_marks.new.marks c.turn_marks.auto.marks c.turn_marks.ensures, tt),
      ),
    )

pub returns : goal.returns
returns c = data_follows c.args.self.now c.turn_marks.new.marks c.turn_marks.auto.marks c.turn_marks.ensures
