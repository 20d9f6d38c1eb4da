use Rattle.std.proofs.Common.{◌≡◌, ◌≤◌, [], length, Ok}
use Rattle.ruling.specs.Trees.{Tree}
use Rattle.ruling.specs.Listed.{list_of}
use Rattle.record.specs.Reading.{read_from}
use Rattle.stack.specs.Stacks.{live}
use Rattle.judging.specs.Reckonings.{reckoned}
use Rattle.judging.proofs.Walks.{Worked}
use Rattle.judging.proofs.walking.work.Given as goal

abbrev pub invariant-loop-at : goal.invariant-loop-at
invariant-loop-at g l =
    (length l.stack.slots.now ≡ length l.initial.stack.slots.now)
    × ((t : Tree) → read_from (list_of l.kinds) 0 [] l.bytes ≡ Ok t → length l.bytes ≤ length l.stack.slots.now
    → Worked (reckoned (g.R.Reckoning.at_leaf l.reckoning) (g.R.Reckoning.at_stem l.reckoning) (g.R.Reckoning.at_fork l.reckoning))
    (list_of l.kinds) l.bytes l.at (live l.stack.len l.stack.slots.now) t)
