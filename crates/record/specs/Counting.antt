-- Reading a node where only the number of the parts that stand is kept.
use Rattle.std.specs.Prelude.{ℕ, cond, List, length, Some, None, Option, nat_le, nat_lt, slice_index}
use Rattle.ruling.specs.declared.refusal.Refusal.{Refusal}
use Rattle.ruling.specs.declared.refusal.Refusal.TheVariants.{NoKind, TooFewParts}

-- The fault of the byte b at place `at` where n parts stand: 9 where it is no kind, 10 where its rank is above n.
abbrev pub node_fault : List ℕ → ℕ → ℕ → ℕ → Option Refusal
node_fault ks at n b = cond (nat_lt b (length ks)) (cond (nat_le (slice_index ks b) n) None (Some (TooFewParts at))) (Some (NoKind at))
