-- Reduced tables: complete, numbered in the order of discovery, and no two states of one class.
use Rattle.std.specs.Prelude.{◌≡◌, ℕ, ◌<◌, ◌⊎◌, List}
use Rattle.ruling.specs.Meanings.{Meaning, Fits, Complete}
use Rattle.ruling.specs.Classes.{Same}

-- The order in which argument lists are looked at: by kind, then by first child, then by second child.
abbrev pub Before : ℕ → ℕ → ℕ → ℕ → ℕ → ℕ → Type 0
Before k a b l c d = (k < l) ⊎ ((k ≡ l) × ((a < c) ⊎ ((a ≡ c) × (b < d))))

-- Where the states below s have their numbers, s is discovered next: of the argument lists over the states below s, the first
-- one whose target is not below s has the target s.
pub record Next (ks : List ℕ) (m : Meaning) (s : ℕ) : Type 0 where
  pub kind : ℕ
  pub first : ℕ
  pub second : ℕ
  pub fits : Fits ks s kind first second
  pub goes : m.target kind first second ≡ s
  pub before : (k a b : ℕ) → Fits ks s k a b → Before k a b kind first second → m.target k a b < s

pub record Reduced (ks : List ℕ) (m : Meaning) : Type 0 where
  pub complete : Complete ks m
  pub numbered : (s : ℕ) → s < m.states → Next ks m s
  pub distinct : (p q : ℕ) → p < m.states → q < m.states → Same ks m p q → p ≡ q

-- Two meanings are the same: kinds, states, the marks of the states, the targets of the argument lists.
pub record Equal (m p : Meaning) : Type 0 where
  pub kinds : m.kinds ≡ p.kinds
  pub states : m.states ≡ p.states
  pub mark : (s : ℕ) → s < m.states → m.mark s ≡ p.mark s
  pub target : (k a b : ℕ) → Fits m.kinds m.states k a b → m.target k a b ≡ p.target k a b
