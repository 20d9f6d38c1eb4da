use Rattle.std.proofs.Common.{◌≡◌, ℕ, ◌<◌, length, get_or}
use Rattle.reduction.proofs.keys.read_keys.Given as goal

abbrev pub invariant-loop-state : goal.invariant-loop-state
invariant-loop-state g l = record {
  answered : (k : ℕ) → k < l.state-index → goal.F-post g l.key_of (get_or l.live.states.items k 0) (get_or l.keys (get_or l.live.states.items k 0) 0);
  long : length l.keys ≡ 1089;
}
