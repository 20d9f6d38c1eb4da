-- A table file as a ruling.
use Rattle.std.specs.Prelude.{◌≡◌, ℕ, false, List, is_some}
use Rattle.ruling.specs.Rulings.{Ruled}
use Rattle.table.specs.TableFiles.{table_fault, file_meaning}
use Rattle.table.specs.FileRuled.{faultless, file_list, file_some, file_few, file_complete}

-- What a file without fault rules is what the file means, and that is well formed.
abbrev pub ruled_file : (f : List ℕ) → is_some (table_fault f) ≡ false → Ruled
ruled_file f e = record {
  plain = file_meaning f;
  list = file_list f (faultless f e);
  some = file_some f (faultless f e);
  few = file_few f (faultless f e);
  complete = file_complete f (faultless f e);
}
