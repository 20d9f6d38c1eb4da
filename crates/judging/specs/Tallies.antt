-- The reckoning of a record's number of nodes and height, in 64 bits.
use Rattle.std.specs.Prelude.{ℕ, ◌+◌, ◌-◌, ◌^◌, min, max}
use Rattle.ruling.specs.Trees.{Tree, node_count, height_of}
use Rattle.judging.specs.declared.tally.Size.{Size}

-- The most that 64 bits hold, where a number is above it.
abbrev pub capped : ℕ → ℕ
capped n = min n (2 ^ 64 - 1)

abbrev pub leaf_size : Size
leaf_size = record { nodes = 1; height = 0 }

abbrev pub stem_size : Size → Size
stem_size a = record { nodes = capped (a.nodes + 1); height = capped (a.height + 1) }

abbrev pub fork_size : Size → Size → Size
fork_size a b = record { nodes = capped (capped (a.nodes + b.nodes) + 1); height = capped (max a.height b.height + 1) }

-- A record's number of nodes and its height.
abbrev pub size_of : Tree → Size
size_of t = record { nodes = node_count t; height = height_of t }
