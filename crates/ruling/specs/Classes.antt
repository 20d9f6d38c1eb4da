-- Reached states and their classes.
use Rattle.std.specs.Prelude.{◌≡◌, ℕ, ◌<◌, ◌↔◌, List}
use Rattle.ruling.specs.Trees.{Tree, Over}
use Rattle.ruling.specs.Meanings.{Meaning, run}
use Rattle.ruling.specs.Surroundings.{Surrounding, SurroundingOver, around}

-- Some record over the kinds runs to the state q.
pub record Reached (ks : List ℕ) (m : Meaning) (q : ℕ) : Type 0 where
  pub tree : Tree
  pub over : Over ks tree
  pub runs : run m tree ≡ q

-- No surrounding tells p and q apart: with either in the gap, the roots have equal marks. Reached states of which this holds are
-- of one class. A state from which no mark yes can be had is of a class like any other.
abbrev pub Same : List ℕ → Meaning → ℕ → ℕ → Type 0
Same ks m p q = (s : Surrounding) → SurroundingOver ks s → m.mark (around m s p) ≡ m.mark (around m s q)

-- The reached states are divided by R into c parts, numbered from 0, each with a member: two have one number exactly if R holds of them.
pub record Divides (ks : List ℕ) (m : Meaning) (R : ℕ → ℕ → Type 0) (c : ℕ) (class : ℕ → ℕ) : Type 0 where
  pub small : (p : ℕ) → Reached ks m p → class p < c
  pub member : (j : ℕ) → j < c → ℕ
  pub reached : (j : ℕ) (h : j < c) → Reached ks m (member j h)
  pub member_of : (j : ℕ) (h : j < c) → class (member j h) ≡ j
  pub exact : (p q : ℕ) → Reached ks m p → Reached ks m q → (class p ≡ class q) ↔ R p q

-- The reached states have c classes, numbered in some way.
abbrev pub Classes : List ℕ → Meaning → ℕ → (ℕ → ℕ) → Type 0
Classes ks m c class = Divides ks m (Same ks m) c class
