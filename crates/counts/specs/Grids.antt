-- The place of a cell among those of n states: kinds in order, then the first state, then the second.
use Rattle.std.specs.Prelude.{ℕ, ◌+◌, ◌*◌}

abbrev pub cell_at : ℕ → ℕ → ℕ → ℕ → ℕ
cell_at n k a b = (k * n + a) * n + b
