-- A table written as a file.
use Rattle.std.specs.Prelude.{◌≡◌, ℕ, ◌<◌, ◌≤◌, true, cond, List, Some, None, Option, nat_lt}
use Rattle.ruling.specs.declared.refusal.Refusal.{Refusal}
use Rattle.ruling.specs.declared.refusal.Refusal.TheVariants.{BufferTooShort}
use Rattle.ruling.specs.KindLists.{KindList, has_leaf}
use Rattle.ruling.specs.Meanings.{Meaning, Complete}
use Rattle.ruling.specs.Written.{blocks, file}
use Rattle.encoder.specs.declared.table_data.TableData.{TableData}
use Rattle.table.specs.TableFiles.{table_fault, file_meaning}
use Rattle.encoder.specs.Tables.{table_meaning, Equal}

-- The file of a table.
abbrev pub table_bytes : TableData → List ℕ
table_bytes t = file (table_meaning t)

abbrev pub table_blocks : TableData → List (List ℕ)
table_blocks t = blocks (table_meaning t).states (table_meaning t).kinds (table_meaning t).target

-- Fault 13: there is less room than is needed.
abbrev pub room_fault : ℕ → ℕ → Option Refusal
room_fault need room = cond (nat_lt room need) (Some (BufferTooShort need)) None

-- What a table in memory means.
pub record Tabled (m : Meaning) : Type 0 where
  pub list : KindList m.kinds
  pub leaf : has_leaf m.kinds ≡ true
  pub some : 0 < m.states
  pub few : m.states ≤ 32
  pub complete : Complete m.kinds m

-- The file of a table has no fault, and means the table.
abbrev pub FilesRead : Type 0
FilesRead = (m : Meaning) → Tabled m → (table_fault (file m) ≡ None) × Equal (file_meaning (file m)) m
