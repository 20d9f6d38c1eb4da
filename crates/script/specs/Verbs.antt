-- The words that begin calls.
use Rattle.std.specs.Prelude.{ℕ, List, [], ◌∷◌, codes}
use Rattle.script.specs.declared.call.Verb.{Verb}
use Rattle.script.specs.declared.call.Verb.TheVariants.{Table, Judge, Measure, States, Rank, Target, Mark}

abbrev pub word_of : Verb → List ℕ
word_of Table = codes "table"
word_of Judge = codes "judge"
word_of Measure = codes "measure"
word_of States = codes "states"
word_of Rank = codes "rank"
word_of Target = codes "target"
word_of Mark = codes "mark"

abbrev pub verbs : List Verb
verbs = Table ∷ (Judge ∷ (Measure ∷ (States ∷ (Rank ∷ (Target ∷ (Mark ∷ []))))))
