-- Kind lists: when one is a kind list at all, its faults, and where two of them differ.
use Rattle.std.specs.Prelude.{ℕ, ◌<◌, ◌≤◌, max, Bool, true, false, cond, not, ◌&&◌, List, length, is_some, Some, None, Option, ◌==◌, nat_eq, nat_le, nat_lt, slice_index}
use Rattle.std.specs.Option.{option_map}
use Rattle.ruling.specs.declared.refusal.Refusal.{Refusal}
use Rattle.ruling.specs.declared.refusal.Refusal.TheVariants.{KindCount, RankAbove, NoLeafKind, KindsDiffer}
use Rattle.ruling.specs.Questions.{rank_in}
use Rattle.ruling.specs.Checks.{lowest, first}

-- Each rank is 0, 1 or 2.
abbrev pub Ranks : List ℕ → Type 0
Ranks ks = (k : ℕ) → k < length ks → slice_index ks k ≤ 2

-- A kind list has 1 to 16 kinds, each with a rank of 0 to 2.
abbrev pub KindList : List ℕ → Type 0
KindList ks = (0 < length ks) × (length ks ≤ 16) × Ranks ks

-- Some kind has rank 0.
abbrev pub has_leaf : List ℕ → Bool
has_leaf ks = is_some (lowest (λ k. nat_eq (slice_index ks k) 0) 0 (length ks))

-- The first fault of a list of ranks as a kind list: 1, then 2.
abbrev pub count_fault : List ℕ → Option Refusal
count_fault ks = cond (nat_lt 0 (length ks) && nat_le (length ks) 16) None (Some (KindCount (length ks)))

abbrev pub rank_fault : List ℕ → Option Refusal
rank_fault ks = option_map (λ k. RankAbove k) (lowest (λ k. nat_lt 2 (slice_index ks k)) 0 (length ks))

abbrev pub list_fault : List ℕ → Option Refusal
list_fault ks = first (count_fault ks) (rank_fault ks)

-- Fault 3: no kind of rank 0. Opening a rulebook and table files ask for one, and nothing else does.
abbrev pub leaf_fault : List ℕ → Option Refusal
leaf_fault ks = cond (has_leaf ks) None (Some NoLeafKind)

-- The first fault of a list of ranks for opening a rulebook: 1, 2, 3.
abbrev pub opening_fault : List ℕ → Option Refusal
opening_fault ks = first (list_fault ks) (leaf_fault ks)

-- Two answers about a rank are the same.
abbrev pub same_rank : Option ℕ → Option ℕ → Bool
same_rank None None = true
same_rank None (Some y) = false
same_rank (Some x) None = false
same_rank (Some x) (Some y) = x == y

-- The lowest kind whose rank differs, or that stands in one list only.
abbrev pub differing : List ℕ → List ℕ → Option ℕ
differing ks ls = lowest (λ k. not (same_rank (rank_in ks k) (rank_in ls k))) 0 (max (length ks) (length ls))

-- Fault 7: the kind lists differ.
abbrev pub kinds_fault : List ℕ → List ℕ → Option Refusal
kinds_fault ks ls = option_map (λ k. KindsDiffer k) (differing ks ls)
