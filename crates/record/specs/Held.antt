-- What a checked record holds.
use Rattle.std.specs.Prelude.{ℕ, List}
use Rattle.ruling.specs.Trees.{Tree}
use Rattle.ruling.specs.Listed.{list_of}
use Rattle.record.specs.Reading.{tree_in}
use Rattle.record.specs.declared.record.Record.{Record}

-- Its bytes, a part of the caller's bytes.
abbrev pub bytes_of : Record → List ℕ
bytes_of r = r.bytes.now

-- The kind list that it was read under.
abbrev pub kinds_of : Record → List ℕ
kinds_of r = list_of r.kinds

-- The tree that was read.
abbrev pub tree_of : Record → Tree
tree_of r = tree_in (kinds_of r) (bytes_of r)
