-- Looking for the reached states: what is found so far, and what is visited.
use Rattle.std.specs.Prelude.{◌≡◌, ℕ, ◌+◌, ◌<◌, ◌≤◌, Bool, true, false, List, length, slice_index, slice_index_or}
use Rattle.ruling.specs.Trees.{Kind}
use Rattle.ruling.specs.Meanings.{Meaning}
use Rattle.ruling.specs.Classes.{Reached}

-- An argument list of reached states.
pub data ReachedList (m : Meaning) (k a b : ℕ) : Type 0 where
  none : Kind m.kinds k 0 → a ≡ 0 → b ≡ 0 → ReachedList m k a b
  one : Kind m.kinds k 1 → Reached m.kinds m a → b ≡ 0 → ReachedList m k a b
  two : Kind m.kinds k 2 → Reached m.kinds m a → Reached m.kinds m b → ReachedList m k a b

-- The list holds reached states, each once, and seen says yes of exactly these.
pub record Found (m : Meaning) (order : List ℕ) (seen : List Bool) : Type 0 where
  pub reached : (i : ℕ) → i < length order → Reached m.kinds m (slice_index order i)
  pub held : (i : ℕ) → i < length order → slice_index_or seen (slice_index order i) false ≡ true
  pub listed : (p : ℕ) → slice_index_or seen p false ≡ true → (i : ℕ) × (i < length order) × (slice_index order i ≡ p)
  pub once : (i j : ℕ) → i < length order → j < length order → slice_index order i ≡ slice_index order j → i ≡ j

-- What was found stays found, where it was.
pub record Grown (order : List ℕ) (seen : List Bool) (order' : List ℕ) (seen' : List Bool) : Type 0 where
  pub more : length order ≤ length order'
  pub keeps : (i : ℕ) → i < length order → slice_index order' i ≡ slice_index order i
  pub holds : (p : ℕ) → slice_index_or seen p false ≡ true → slice_index_or seen' p false ≡ true

-- P, unless every state is found: then there is nothing more to look for.
abbrev pub UnlessAll : Meaning → List ℕ → Type 0 → Type 0
UnlessAll m order P = length order < m.states → P

abbrev pub Seen : List Bool → ℕ → Type 0
Seen seen p = slice_index_or seen p false ≡ true

abbrev pub LeavesSeen : Meaning → List Bool → Type 0
LeavesSeen m seen = (k : ℕ) → Kind m.kinds k 0 → Seen seen (m.target k 0 0)

-- The targets of the states at i and j below kind k, in both orders, are seen.
abbrev pub BothSeen : Meaning → List ℕ → List Bool → ℕ → ℕ → ℕ → Type 0
BothSeen m order seen k i j = Seen seen (m.target k (slice_index order i) (slice_index order j)) × Seen seen (m.target k (slice_index order j) (slice_index order i))

-- The targets of the state at i below kind k, alone and beside each state up to it, are seen.
pub record Visited (m : Meaning) (order : List ℕ) (seen : List Bool) (k i : ℕ) : Type 0 where
  pub stems : Kind m.kinds k 1 → Seen seen (m.target k (slice_index order i) 0)
  pub forks : Kind m.kinds k 2 → (j : ℕ) → j < i + 1 → BothSeen m order seen k i j

-- All reached states, each once.
pub record Listing (m : Meaning) (order : List ℕ) : Type 0 where
  pub some : 0 < length order
  pub few : length order ≤ m.states
  pub reached : (i : ℕ) → i < length order → Reached m.kinds m (slice_index order i)
  pub all : (p : ℕ) → Reached m.kinds m p → (i : ℕ) × (i < length order) × (slice_index order i ≡ p)
  pub once : (i j : ℕ) → i < length order → j < length order → slice_index order i ≡ slice_index order j → i ≡ j
