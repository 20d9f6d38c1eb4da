-- What is proved of these definitions alone.
use Rattle.std.specs.Prelude.{◌≡◌, ℕ, ◌≤◌, ◌↔◌, List}
use Rattle.ruling.specs.Trees.{Tree, Over}
use Rattle.ruling.specs.Meanings.{accepts}
use Rattle.ruling.specs.Rulings.{Ruled}
use Rattle.ruling.specs.Sets.{Set}
use Rattle.ruling.specs.Written.{file}
use Rattle.ruling.specs.Meanings.{Meaning}
use Rattle.ruling.specs.ReducedTables.{Reduced}
use Rattle.rulebook.specs.Calls.{Made, Answer}
use Rattle.rulebook.specs.Outcomes.{Outcome}
use Rattle.rulebook.specs.Histories.{History, kinds_of, calls_of, answers_of, Reckons, Stands}

-- The rules give a call one answer, and one set afterwards.
abbrev pub OneOutcome : Type 0
OneOutcome = (ks : List ℕ) (S S₁ S₂ : Set) (c : Made) (a₁ a₂ : Answer)
    → Outcome ks S c a₁ S₁ → Outcome ks S c a₂ S₂ → (a₁ ≡ a₂) × (S₁ ≡ S₂)

-- The kinds and the calls alone fix the answers and the set.
abbrev pub OneReckoning : Type 0
OneReckoning = (h g : History) (S R : Set) → kinds_of h ≡ kinds_of g → calls_of h ≡ calls_of g
    → Reckons h S → Reckons g R → (answers_of h ≡ answers_of g) × (S ≡ R)

-- Rulebooks over the same kinds write the same bytes exactly when they accept the same records, of any length.
abbrev pub SameWritten : Type 0
SameWritten = (h g : History) (b d : Meaning) → Stands h b → Stands g d → kinds_of h ≡ kinds_of g
    → (file b ≡ file d) ↔ ((t : Tree) → Over (kinds_of h) t → accepts b t ≡ accepts d t)

-- Every reduced table that is a ruling of at most 32 states stands after some calls.
abbrev pub SomeCalls : Type 0
SomeCalls = (w : Ruled) → Reduced w.plain.kinds w.plain → w.plain.states ≤ 32 → (h : History) × Stands h w.plain
