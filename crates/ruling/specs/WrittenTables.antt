-- The table of a ruling's set, and its bytes.
use Rattle.std.specs.Prelude.{◌≡◌, ℕ, ◌<◌, ◌↔◌, List}
use Rattle.ruling.specs.Trees.{Kind}
use Rattle.ruling.specs.Meanings.{Meaning, Complete}
use Rattle.ruling.specs.Classes.{Reached, Same}
use Rattle.ruling.specs.ReducedTables.{Next}
use Rattle.ruling.specs.Written.{file}

-- t is the table of the ruling m over the kinds ks: its states are the classes of m's reached states, numbered in the order of discovery.
-- The map from reached states to classes respects marks and targets.
pub record TableOf (ks : List ℕ) (m t : Meaning) : Type 0 where
  pub kinds : t.kinds ≡ ks
  pub complete : Complete ks t
  pub class : (p : ℕ) → Reached ks m p → ℕ
  pub one_class : (p q : ℕ) (x : Reached ks m p) (y : Reached ks m q) → (class p x ≡ class q y) ↔ Same ks m p q
  pub state : (p : ℕ) (x : Reached ks m p) → class p x < t.states
  pub member : (s : ℕ) → s < t.states → ℕ
  pub reached : (s : ℕ) (h : s < t.states) → Reached ks m (member s h)
  pub member_of : (s : ℕ) (h : s < t.states) → class (member s h) (reached s h) ≡ s
  pub marks : (p : ℕ) (x : Reached ks m p) → t.mark (class p x) ≡ m.mark p
  pub leaves : (k : ℕ) → Kind ks k 0 → (x : Reached ks m (m.target k 0 0)) → t.target k 0 0 ≡ class (m.target k 0 0) x
  pub stems : (k p : ℕ) → Kind ks k 1 → (x : Reached ks m p) (z : Reached ks m (m.target k p 0))
      → t.target k (class p x) 0 ≡ class (m.target k p 0) z
  pub forks : (k p q : ℕ) → Kind ks k 2 → (x : Reached ks m p) (y : Reached ks m q) (z : Reached ks m (m.target k p q))
      → t.target k (class p x) (class q y) ≡ class (m.target k p q) z
  pub numbered : (s : ℕ) → s < t.states → Next ks t s

-- The bytes are the written table of the ruling m over the kinds ks.
pub record WrittenTable (ks : List ℕ) (m : Meaning) (bytes : List ℕ) : Type 0 where
  pub table : Meaning
  pub of : TableOf ks m table
  pub written : bytes ≡ file table
