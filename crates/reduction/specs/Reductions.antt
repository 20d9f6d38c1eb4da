-- What the reduction of a ruling gives.
use Rattle.std.specs.Prelude.{◌≡◌, ℕ, ◌<◌, Ok, Err, Result}
use Rattle.ruling.specs.declared.refusal.Refusal.{Refusal}
use Rattle.ruling.specs.declared.refusal.Refusal.TheVariants.{TooManyStates}
use Rattle.ruling.specs.Meanings.{Meaning, accepts}
use Rattle.ruling.specs.Sets.{Agree, Need}
use Rattle.ruling.specs.WrittenTables.{TableOf}
use Rattle.encoder.specs.declared.table_in_memory.Table.{Table}
use Rattle.encoder.specs.declared.table_data.TableData.{TableData}
use Rattle.encoder.specs.Tables.{table_meaning, Clean}

-- The table of the ruling's set, with nothing beside it; or number 12 with the need of the set, where that is above 32.
abbrev pub Reduces : Meaning → Result Table Refusal → Type 0
Reduces m (Ok t) = TableOf m.kinds m (table_meaning t.inner) × Clean t.inner
Reduces m (Err r) = (n : ℕ) × (r ≡ TooManyStates n) × (32 < n) × Need m.kinds (accepts m) n

-- The table itself.
abbrev pub plainly : Result Table Refusal → Result TableData Refusal
plainly (Ok t) = Ok t.inner
plainly (Err r) = Err r

-- Rulings with the same kinds and the same set have one reduction, to the last cell.
abbrev pub OneReduction : Type 0
OneReduction = (m n : Meaning) (x y : Result Table Refusal) → Agree m n → Reduces m x → Reduces n y → plainly x ≡ plainly y
