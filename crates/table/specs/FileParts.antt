-- What the check of one part of a table file grants to those that follow.
use Rattle.std.specs.Prelude.{◌≡◌, ℕ, ◌+◌, ◌<◌, ◌≤◌, ◌↔◌, List, length, None}
use Rattle.ruling.specs.Written.{body_at}
use Rattle.table.specs.TableFiles.{states_in, kind_count_in, offset_at, length_at, TableFile, table_fault}

-- The first four bytes are right, and the file reaches the end of its directory.
pub record Headed (f : List ℕ) : Type 0 where
  pub some_states : 1 ≤ states_in f
  pub few_states : states_in f ≤ 32
  pub some_kinds : 1 ≤ kind_count_in f
  pub few_kinds : kind_count_in f ≤ 16
  pub whole : body_at (states_in f) (kind_count_in f) ≤ length f
  pub short : length f ≤ 65535

-- Each block lies in the file.
abbrev pub BlocksInside : List ℕ → Type 0
BlocksInside f = (k : ℕ) → k < kind_count_in f → offset_at f k + length_at f k ≤ length f

-- A file has no fault exactly where it is a table file.
abbrev pub FaultsTold : Type 0
FaultsTold = (f : List ℕ) → (table_fault f ≡ None) ↔ TableFile f
