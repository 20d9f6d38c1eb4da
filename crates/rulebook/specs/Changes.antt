-- What the contracts of the rulebook's calls say.
use Rattle.std.specs.Prelude.{◌≡◌, ℕ, List, Some, None, Ok, Err, Result}
use Rattle.ruling.specs.declared.refusal.Refusal.{Refusal}
use Rattle.ruling.specs.Refusals.{told}
use Rattle.ruling.specs.Meanings.{Meaning}
use Rattle.encoder.specs.Tables.{table_meaning}
use Rattle.table.specs.TableFiles.{table_fault, file_meaning}
use Rattle.rulebook.specs.declared.rulebook.Rulebook.{Rulebook}
use Rattle.rulebook.specs.Calls.{Change, load, turn, change, ask, Made, count, refused}
use Rattle.rulebook.specs.Histories.{Follows}

-- What a rulebook means.
abbrev pub meaning_of : Rulebook → Meaning
meaning_of b = table_meaning b.table.inner

-- A change of the rulebook b gives another rulebook, or is refused; either as the promise has it.
abbrev pub Gives : Rulebook → Change → Result Rulebook Refusal → Type 0
Gives b c (Ok d) = Follows (meaning_of b) (Ok (change c)) (count d.table.inner.states) (meaning_of d)
Gives b c (Err r) = Follows (meaning_of b) (Ok (change c)) (refused (told r)) (meaning_of b)

-- The call that loading table bytes makes: the file's first fault, or the load of the file's ruling.
abbrev pub LoadOf : List ℕ → Made → Type 0
LoadOf f (Err r) = table_fault f ≡ Some r
LoadOf f (Ok (change (load w))) = (table_fault f ≡ None) × (w.plain ≡ file_meaning f)
LoadOf f (Ok (change turn)) = ⊥
LoadOf f (Ok (ask q)) = ⊥
