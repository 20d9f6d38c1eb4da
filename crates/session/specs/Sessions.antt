-- A session keeps the table file that was accepted last; what it answers to a call, and what it keeps after it.
use Rattle.std.specs.Prelude.{ℕ, Bool, List, Some, None, Ok, Err, vec_items, Option, Result}
use Rattle.std.specs.Option.{option_map}
use Rattle.ruling.specs.declared.refusal.Refusal.{Refusal}
use Rattle.ruling.specs.Meanings.{Meaning}
use Rattle.ruling.specs.Questions.{rank_in, targeted, marked}
use Rattle.judging.specs.declared.tally.Size.{Size}
use Rattle.record.specs.Reading.{after, read_record}
use Rattle.judging.specs.Judging.{judged_bytes, measured}
use Rattle.table.specs.TableFiles.{table_fault, file_meaning}
use Rattle.script.specs.declared.answer.Answer.{Answer}
use Rattle.script.specs.declared.answer.Answer.TheVariants.{Kept, Verdict, Measured, Number, Nothing, Refused, NoCall}
use Rattle.session.specs.declared.session.Session.{Session}
use Rattle.script.specs.Calls.{Order, table, judge, measure, states, rank, target, mark, Said, nothing, no_call, order}

-- The file that a session keeps, if any.
abbrev pub file_in : Session → Option (List ℕ)
file_in s = option_map (λ t. vec_items t.bytes) s.kept

-- Answers that may be none.
abbrev pub number_or : Option ℕ → Answer
number_or None = Nothing
number_or (Some n) = Number n

abbrev pub mark_or : Option Bool → Answer
mark_or None = Nothing
mark_or (Some b) = Verdict b

-- The answer to a new table file f, and what is kept after it, by its first fault: a refused file leaves the former.
abbrev pub table_answer : List ℕ → Option Refusal → Answer
table_answer f None = Kept (file_meaning f).states
table_answer f (Some r) = Refused r

abbrev pub table_kept : Option (List ℕ) → List ℕ → Option Refusal → Option (List ℕ)
table_kept kept f None = Some f
table_kept kept f (Some r) = kept

-- The answer to judging, and to measuring a record that is read under the kinds ks.
abbrev pub verdict_or : Result Bool Refusal → Answer
verdict_or (Ok b) = Verdict b
verdict_or (Err r) = Refused r

abbrev pub size_or : Result Size Refusal → Answer
size_or (Ok s) = Measured s.nodes s.height
size_or (Err r) = Refused r

abbrev pub measured_bytes : List ℕ → List ℕ → ℕ → Result Size Refusal
measured_bytes ks bytes room = after (read_record ks 4096 bytes) (λ t. measured t room)

-- The answer of a ruling that means m, where there is one; a new table file asks no ruling.
abbrev pub asked : Meaning → Order → Answer
asked m (table f) = table_answer f (table_fault f)
asked m (judge bytes room) = verdict_or (judged_bytes m bytes room)
asked m (measure bytes room) = size_or (measured_bytes m.kinds bytes room)
asked m states = Number m.states
asked m (rank k) = number_or (rank_in m.kinds k)
asked m (target k a b) = number_or (targeted m k a b)
asked m (mark s) = mark_or (marked m s)

-- The answer where no table is kept: there is nothing to ask.
abbrev pub unasked : Order → Answer
unasked (table f) = table_answer f (table_fault f)
unasked (judge bytes room) = NoCall
unasked (measure bytes room) = NoCall
unasked states = NoCall
unasked (rank k) = NoCall
unasked (target k a b) = NoCall
unasked (mark s) = NoCall

-- The answer to a call, where this file is kept.
abbrev pub answer_to : Option (List ℕ) → Order → Answer
answer_to None o = unasked o
answer_to (Some f) o = asked (file_meaning f) o

-- The file that is kept after a call.
abbrev pub kept_after : Option (List ℕ) → Order → Option (List ℕ)
kept_after kept (table f) = table_kept kept f (table_fault f)
kept_after kept (judge bytes room) = kept
kept_after kept (measure bytes room) = kept
kept_after kept states = kept
kept_after kept (rank k) = kept
kept_after kept (target k a b) = kept
kept_after kept (mark s) = kept

-- The answer to a line, and the file that is kept after it; a line that says nothing is not answered.
abbrev pub line_answer : Option (List ℕ) → Said → Option Answer
line_answer kept nothing = None
line_answer kept no_call = Some NoCall
line_answer kept (order o) = Some (answer_to kept o)

abbrev pub line_kept : Option (List ℕ) → Said → Option (List ℕ)
line_kept kept nothing = kept
line_kept kept no_call = kept
line_kept kept (order o) = kept_after kept o
