-- Reading a record's bytes from the last one on.
use Rattle.std.specs.Prelude.{ℕ, zero, suc, ◌+◌, List, [], ◌∷◌, slice_index}

-- The number of bytes, the last one first, that `need` parts take up.
abbrev pub scanned : List ℕ → ℕ → List ℕ → ℕ
scanned ks zero bs = 0
scanned ks (suc m) [] = 0
scanned ks (suc m) (b ∷ bs) = suc (scanned ks (m + slice_index ks b) bs)
