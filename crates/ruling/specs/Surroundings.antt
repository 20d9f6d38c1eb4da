-- Records with one gap, and a record put into the gap.
use Rattle.std.specs.Prelude.{ℕ, List}
use Rattle.ruling.specs.Trees.{Tree, stem, fork, Kind, Over}
use Rattle.ruling.specs.Meanings.{Meaning, run}

-- A surrounding: a record in which one part is left out, the gap.
pub data Surrounding : Type 0 where
  gap : Surrounding
  under : ℕ → Surrounding → Surrounding
  left : ℕ → Surrounding → Tree → Surrounding
  right : ℕ → Tree → Surrounding → Surrounding

-- The surrounding is over the kinds ks, as a record is.
abbrev pub SurroundingOver : List ℕ → Surrounding → Type 0
SurroundingOver ks gap = Unit {0}
SurroundingOver ks (under k s) = Kind ks k 1 × SurroundingOver ks s
SurroundingOver ks (left k s t) = Kind ks k 2 × SurroundingOver ks s × Over ks t
SurroundingOver ks (right k t s) = Kind ks k 2 × Over ks t × SurroundingOver ks s

-- The record that a surrounding becomes when t is put into its gap.
abbrev pub plug : Surrounding → Tree → Tree
plug gap t = t
plug (under k s) t = stem k (plug s t)
plug (left k s u) t = fork k (plug s t) u
plug (right k u s) t = fork k u (plug s t)

-- The state of a surrounding's root when the gap has the state p.
abbrev pub around : Meaning → Surrounding → ℕ → ℕ
around m gap p = p
around m (under k s) p = m.target k (around m s p) 0
around m (left k s t) p = m.target k (around m s p) (run m t)
around m (right k t s) p = m.target k (run m t) (around m s p)
