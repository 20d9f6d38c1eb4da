-- Records as trees, and the bytes that a record is written in.
use Rattle.std.specs.Prelude.{◌≡◌, ℕ, ◌+◌, ◌<◌, max, List, [], ◌∷◌, ◌++◌, length, slice_index}

-- A record: each node has a kind, given by its number, and none, one or two children; of two, the left one is first.
pub data Tree : Type 0 where
  leaf : ℕ → Tree
  stem : ℕ → Tree → Tree
  fork : ℕ → Tree → Tree → Tree

-- A kind list is the list of the ranks of its kinds. Kind k stands in the list ks, and its rank is r.
abbrev pub Kind : List ℕ → ℕ → ℕ → Type 0
Kind ks k r = (k < length ks) × (slice_index ks k ≡ r)

-- The record is over the kinds ks: each node's kind stands there, with as many children as its rank says.
abbrev pub Over : List ℕ → Tree → Type 0
Over ks (leaf k) = Kind ks k 0
Over ks (stem k t) = Kind ks k 1 × Over ks t
Over ks (fork k t u) = Kind ks k 2 × Over ks t × Over ks u

-- The bytes of a record: one for each node, its kind; children before their parent, the left one before the right one.
abbrev pub postorder : Tree → List ℕ
postorder (leaf k) = k ∷ []
postorder (stem k t) = postorder t ++ (k ∷ [])
postorder (fork k t u) = postorder t ++ (postorder u ++ (k ∷ []))

-- The number of nodes of a record.
abbrev pub node_count : Tree → ℕ
node_count (leaf k) = 1
node_count (stem k t) = node_count t + 1
node_count (fork k t u) = node_count t + node_count u + 1

-- The height of a record: 0 for a leaf, else 1 more than that of the higher child.
abbrev pub height_of : Tree → ℕ
height_of (leaf k) = 0
height_of (stem k t) = height_of t + 1
height_of (fork k t u) = max (height_of t) (height_of u) + 1
