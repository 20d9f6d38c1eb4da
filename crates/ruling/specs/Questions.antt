-- The answers to three of the four questions of a ruling; the fourth is its number of states.
use Rattle.std.specs.Prelude.{ℕ, zero, suc, Bool, false, cond, ◌&&◌, List, length, Some, None, Option, ◌==◌, nat_lt, slice_index}
use Rattle.ruling.specs.Meanings.{Meaning}

-- The rank of kind k in the list ks; none where k is not below the list's length.
abbrev pub rank_in : List ℕ → ℕ → Option ℕ
rank_in ks k = cond (nat_lt k (length ks)) (Some (slice_index ks k)) None

-- a and b are states below n for a kind of rank r, the unused ones 0.
abbrev pub fitting : ℕ → ℕ → ℕ → ℕ → Bool
fitting n zero a b = a == 0 && b == 0
fitting n (suc zero) a b = nat_lt a n && b == 0
fitting n (suc (suc zero)) a b = nat_lt a n && nat_lt b n
fitting n (suc (suc (suc r))) a b = false

-- The target; none where the kind is not in the list, a used state is not below the number of states, or an unused one is not 0.
abbrev pub targeted : Meaning → ℕ → ℕ → ℕ → Option ℕ
targeted m k a b = cond (nat_lt k (length m.kinds) && fitting m.states (slice_index m.kinds k) a b) (Some (m.target k a b)) None

-- The mark of a state; none where the state is not below the number of states.
abbrev pub marked : Meaning → ℕ → Option Bool
marked m s = cond (nat_lt s m.states) (Some (m.mark s)) None
