-- The same of values of Partition and Division.
use Rattle.std.specs.Prelude.{◌≡◌, ℕ, ◌≤◌, List, length}
use Rattle.ruling.specs.Meanings.{Meaning}
use Rattle.ruling.specs.declared.ruling.Ruling.{Ghosts}
use Rattle.reduction.specs.declared.partition.Partition.{Partition}
use Rattle.reduction.specs.declared.division.Division.{Division}
use Rattle.reduction.specs.Dividing.{LevelAt, Level, Split, Fewer}

abbrev pub SplitOf : List ℕ → List ℕ → Partition → Partition → Type 0
SplitOf live key p q = Split live key p.class p.leader.items q.class q.leader.items

-- Nothing was divided.
abbrev pub Unchanged : Partition → Partition → Type 0
Unchanged p q = (q.class ≡ p.class) × (q.leader.items ≡ p.leader.items)

abbrev pub LevelFor : List ℕ → Partition → ℕ → Type 0
LevelFor key p s = LevelAt key p.class p.leader.items s

abbrev pub LevelOf : List ℕ → List ℕ → Partition → Type 0
LevelOf live key p = Level live key p.class p.leader.items

abbrev pub FewerOf : List ℕ → Partition → List ℕ → Type 0
FewerOf live p after = Fewer live p.class after

module _ {R : Type 0} {G : Ghosts R} where
  -- What the ruling means whose states are divided.
  abbrev pub meant_by : Division R G → Meaning
  meant_by d = (G.meaning d.ruling.now).plain

  -- e has the ruling of d, and more classes or as many: then they are the same ones, and P holds of them.
  pub record Finer (d e : Division R G) (P : List ℕ → List ℕ → Type 0) : Type 0 where
    pub same : e.ruling ≡ d.ruling
    pub more : length d.partition.leader.items ≤ length e.partition.leader.items
    pub still : length e.partition.leader.items ≡ length d.partition.leader.items → Unchanged d.partition e.partition
    pub holds : length e.partition.leader.items ≡ length d.partition.leader.items → P e.partition.class e.partition.leader.items
