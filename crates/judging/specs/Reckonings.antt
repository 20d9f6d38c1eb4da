-- A reckoning gives each node of a record a value, from its kind and the values of its children.
use Rattle.std.specs.Prelude.{ℕ}
use Rattle.ruling.specs.Trees.{Tree, leaf, stem, fork}

-- The value of the root.
abbrev pub reckoned : {V : Type 0} → (ℕ → V) → (ℕ → V → V) → (ℕ → V → V → V) → Tree → V
reckoned at_leaf at_stem at_fork (leaf k) = at_leaf k
reckoned at_leaf at_stem at_fork (stem k t) = at_stem k (reckoned at_leaf at_stem at_fork t)
reckoned at_leaf at_stem at_fork (fork k t u) = at_fork k (reckoned at_leaf at_stem at_fork t) (reckoned at_leaf at_stem at_fork u)
