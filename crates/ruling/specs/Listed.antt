-- The kind list that a value of Kinds holds.
use Rattle.std.specs.Prelude.{ℕ, List, take}
use Rattle.ruling.specs.declared.kinds.Kinds.{Kinds}

abbrev pub list_of : Kinds → List ℕ
list_of kinds = take kinds.count kinds.ranks
