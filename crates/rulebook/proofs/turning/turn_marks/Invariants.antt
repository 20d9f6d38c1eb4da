use Rattle.std.proofs.Common.{◌≡◌, ℕ, ◌<◌, ◌≤◌, false, not, get_or}
use Rattle.rulebook.proofs.turning.turn_marks.Given as goal

abbrev pub invariant-loop-mark : goal.invariant-loop-mark
invariant-loop-mark l =
    ((s : ℕ) → s < l.mark-index → get_or l.marks s false ≡ not (get_or l.fn.marks s false))
    × ((s : ℕ) → l.mark-index ≤ s → get_or l.marks s false ≡ get_or l.fn.marks s false)
