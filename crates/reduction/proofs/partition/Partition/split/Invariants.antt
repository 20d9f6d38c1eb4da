use Rattle.std.proofs.Common.{◌≡◌, length, take}
use Rattle.reduction.specs.Divisions.{SplitOf, Unchanged, LevelOf}
use Rattle.reduction.proofs.partition.Partition.split.Given as goal

abbrev pub invariant-loop-state : goal.invariant-loop-state
invariant-loop-state l = record {
  split : SplitOf l.live.states.items l.key l.initial.self l.self;
  still : length l.self.leader.items ≡ length l.initial.self.leader.items → Unchanged l.initial.self l.self;
  level : LevelOf (take l.state-index l.state-items) l.key l.self;
}
