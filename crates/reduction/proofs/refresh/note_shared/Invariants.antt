use Rattle.std.proofs.Common.{◌≡◌, ℕ, ◌<◌, true, false, length, get_or}
use Rattle.reduction.proofs.refresh.note_shared.Given as goal

abbrev pub invariant-loop-state : goal.invariant-loop-state
invariant-loop-state l = record {
  marked : (k : ℕ) → k < l.state-index → ¬ (get_or l.partition.leader.items (get_or l.partition.class (get_or l.live.states.items k 0) 0) 0 ≡ get_or l.live.states.items k 0)
      → get_or l.shared (get_or l.partition.class (get_or l.live.states.items k 0) 0) false ≡ true;
  long : length l.shared ≡ 1089;
}
