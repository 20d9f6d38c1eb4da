-- A table filled from the numbered classes.
use Rattle.std.specs.Prelude.{◌≡◌, ℕ, ◌/◌, ◌%◌, ◌<◌, Bool, false, ◌⊎◌, List, slice_index, slice_index_or}
use Rattle.std.specs.Option.{unwrap_or}
use Rattle.ruling.specs.Meanings.{Meaning}
use Rattle.ruling.specs.Questions.{targeted, marked}
use Rattle.encoder.specs.Tables.{cell_place}
use Rattle.reduction.specs.Numbering.{AllBefore}

-- The value of the cell at a place: the target in c, or 0 where the place is that of no argument list.
abbrev pub cell_at : Meaning → ℕ → ℕ
cell_at c i = unwrap_or (targeted c (i / 1024) (i / 32 % 32) (i % 32)) 0

-- The cell of the argument list is filled.
abbrev pub CellFilled : Meaning → List ℕ → ℕ → ℕ → ℕ → Type 0
CellFilled c cells k a b = slice_index cells (cell_place k a b) ≡ cell_at c (cell_place k a b)

-- The cells before those of k a b are filled, and every other one is filled or 0.
pub record Filling (c : Meaning) (cells : List ℕ) (k a b : ℕ) : Type 0 where
  pub sound : (i : ℕ) → (slice_index cells i ≡ cell_at c i) ⊎ (slice_index cells i ≡ 0)
  pub done : AllBefore c.kinds c.states (CellFilled c cells) k a b

-- Every cell has its value.
abbrev pub AllFilled : Meaning → List ℕ → Type 0
AllFilled c cells = (i : ℕ) → i < 16384 → slice_index cells i ≡ cell_at c i

-- Every mark up to n has its value, and no is the rest.
abbrev pub MarksFilled : Meaning → List Bool → ℕ → Type 0
MarksFilled c marks n = (s : ℕ) → s < n → slice_index_or marks s false ≡ unwrap_or (marked c s) false
