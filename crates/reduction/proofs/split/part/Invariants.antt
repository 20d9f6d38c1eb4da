use Rattle.std.proofs.Common.{◌≡◌, ℕ, ◌<◌, ◌⊎◌, get_or}
use Rattle.reduction.proofs.split.part.Given as goal

abbrev pub invariant-loop-state : goal.invariant-loop-state
invariant-loop-state l = record {
  only : (p : ℕ) → (get_or l.class p 0 ≡ get_or l.initial.class p 0)
      ⊎ ((get_or l.initial.class p 0 ≡ l.from) × (get_or l.key p 0 ≡ l.value) × (get_or l.class p 0 ≡ l.to));
  all : (k : ℕ) → k < l.state-index → get_or l.initial.class (get_or l.live.states.items k 0) 0 ≡ l.from → get_or l.key (get_or l.live.states.items k 0) 0 ≡ l.value
      → get_or l.class (get_or l.live.states.items k 0) 0 ≡ l.to;
}
