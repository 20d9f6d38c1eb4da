-- What a line of a script says.
use Rattle.std.specs.Prelude.{ℕ, List, [], ◌∷◌, Some, None, vec_items, find, Option}
use Rattle.std.specs.Option.{option_map}
use Rattle.script.specs.declared.call.Verb.{Verb}
use Rattle.script.specs.declared.call.Verb.TheVariants.{Table, Judge, Measure, States, Rank, Target, Mark}
use Rattle.script.specs.declared.call.Call.{Call}
use Rattle.script.specs.declared.call.Call.TheVariants as call
use Rattle.script.specs.declared.call.Line.{Line}
use Rattle.script.specs.declared.call.Line.TheVariants as line
use Rattle.script.specs.Verbs.{word_of, verbs}
use Rattle.script.specs.Words.{words_of, same_word}
use Rattle.script.specs.Arguments.{given, one_bytes, one_number, three_numbers, bytes_and_room}

-- A call with what it is given.
pub data Order : Type 0 where
  table : List ℕ → Order
  judge : List ℕ → ℕ → Order
  measure : List ℕ → ℕ → Order
  states : Order
  rank : ℕ → Order
  target : ℕ → ℕ → ℕ → Order
  mark : ℕ → Order

-- A line says nothing, no call, or a call.
pub data Said : Type 0 where
  nothing : Said
  no_call : Said
  order : Order → Said

-- The verb that a word stands for; none where no call begins with it.
abbrev pub verb_of : List ℕ → Option Verb
verb_of w = find (λ v. same_word w (word_of v)) verbs

abbrev pub alone : List (List ℕ) → Order → Option Order
alone [] o = Some o
alone (w ∷ ws) o = None

-- The call of a verb with these words after it.
abbrev pub order_of : Verb → List (List ℕ) → Option Order
order_of Table ws = option_map table (one_bytes ws)
order_of Judge ws = option_map (λ p. judge p.0 p.1) (bytes_and_room ws)
order_of Measure ws = option_map (λ p. measure p.0 p.1) (bytes_and_room ws)
order_of States ws = alone ws states
order_of Rank ws = option_map rank (one_number ws)
order_of Target ws = option_map (λ p. target p.0 p.1 p.2) (three_numbers ws)
order_of Mark ws = option_map mark (one_number ws)

abbrev pub said_in : Option Order → Said
said_in None = no_call
said_in (Some o) = order o

abbrev pub words_say : List (List ℕ) → Said
words_say [] = nothing
words_say (w ∷ ws) = said_in (given (verb_of w) (λ v. order_of v ws))

-- What a line says.
abbrev pub line_says : List ℕ → Said
line_says text = words_say (words_of text)

-- The call that a value of Call stands for, and what a value of Line says.
abbrev pub order_in : Call → Order
order_in (call.Table bytes) = table (vec_items bytes)
order_in (call.Judge bytes room) = judge (vec_items bytes) room
order_in (call.Measure bytes room) = measure (vec_items bytes) room
order_in call.States = states
order_in (call.Rank kind) = rank kind
order_in (call.Target kind a b) = target kind a b
order_in (call.Mark state) = mark state

abbrev pub said_by : Line → Said
said_by line.Blank = nothing
said_by line.NoCall = no_call
said_by (line.Call c) = order (order_in c)
