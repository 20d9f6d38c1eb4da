-- What a ruling means, and its run over a record.
use Rattle.std.specs.Prelude.{◌≡◌, ℕ, ◌<◌, Bool, List}
use Rattle.ruling.specs.Trees.{Tree, leaf, stem, fork, Kind}

-- A kind list, a number of states, a target for each argument list, and a mark, yes or no, for each state.
-- The target takes a kind and two states, the unused ones being 0.
pub record Meaning : Type 0 where
  pub kinds : List ℕ
  pub states : ℕ
  pub target : ℕ → ℕ → ℕ → ℕ
  pub mark : ℕ → Bool

-- An argument list: a kind k of the list ks with as many states below s as its rank says; an unused state is 0.
pub data Fits (ks : List ℕ) (s k a b : ℕ) : Type 0 where
  none : Kind ks k 0 → a ≡ 0 → b ≡ 0 → Fits ks s k a b
  one : Kind ks k 1 → a < s → b ≡ 0 → Fits ks s k a b
  two : Kind ks k 2 → a < s → b < s → Fits ks s k a b

-- Complete: every argument list has a target among the states.
abbrev pub Complete : List ℕ → Meaning → Type 0
Complete ks m = (k a b : ℕ) → Fits ks m.states k a b → m.target k a b < m.states

-- The run gives each node the target of its kind and its children's states; this is the state of the root.
abbrev pub run : Meaning → Tree → ℕ
run m (leaf k) = m.target k 0 0
run m (stem k t) = m.target k (run m t) 0
run m (fork k t u) = m.target k (run m t) (run m u)

-- A record is accepted when its root's state is marked yes.
abbrev pub accepts : Meaning → Tree → Bool
accepts m t = m.mark (run m t)
