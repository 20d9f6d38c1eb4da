-- Sets of records, the rulings that accept exactly a set, and the number of states that a set needs.
use Rattle.std.specs.Prelude.{◌≡◌, ℕ, ◌≤◌, Bool, false, not, List}
use Rattle.ruling.specs.Trees.{Tree, Over}
use Rattle.ruling.specs.Meanings.{Meaning, Complete, accepts}

-- A set of records.
abbrev pub Set : Type 0
Set = Tree → Bool

abbrev pub empty : Set
empty t = false

-- All other records.
abbrev pub others : Set → Set
others S t = not (S t)

-- m is a complete ruling over the kinds ks that accepts exactly the records of S.
pub record Rules (ks : List ℕ) (S : Set) (m : Meaning) : Type 0 where
  pub kinds : m.kinds ≡ ks
  pub complete : Complete ks m
  pub exact : (t : Tree) → Over ks t → accepts m t ≡ S t

-- Two rulings have the same kinds and accept the same records, of any length.
pub record Agree (m n : Meaning) : Type 0 where
  pub kinds : m.kinds ≡ n.kinds
  pub trees : (t : Tree) → Over m.kinds t → accepts m t ≡ accepts n t

-- The need of a set: the least number of states of a complete ruling over the kinds ks that accepts exactly it.
pub record Need (ks : List ℕ) (S : Set) (n : ℕ) : Type 0 where
  pub ruling : Meaning
  pub rules : Rules ks S ruling
  pub states : ruling.states ≡ n
  pub least : (m : Meaning) → Rules ks S m → n ≤ m.states
