-- The calls of a rulebook, what they are given, and what they answer.
use Rattle.std.specs.Prelude.{ℕ, Bool, List, Some, None, Ok, Err, Option, Result}
use Rattle.ruling.specs.declared.refusal.Refusal.{Refusal}
use Rattle.ruling.specs.declared.refusal.Notice.{Notice}
use Rattle.ruling.specs.Refusals.{told}
use Rattle.ruling.specs.Trees.{Tree, Over}
use Rattle.ruling.specs.Meanings.{accepts}
use Rattle.ruling.specs.Rulings.{Ruled}
use Rattle.ruling.specs.Sets.{Set, others}

-- A record that was read, under the kinds that it was read with.
pub record Read : Type 0 where
  pub kinds : List ℕ
  pub tree : Tree
  pub over : Over kinds tree

-- A change, with the ruling that it is given. A ruling is well formed.
pub data Change : Type 0 where
  load : Ruled → Change
  turn : Change

-- A call that leaves the set; judge and write with the room of the stack or the buffer that they are lent.
pub data Question : Type 0 where
  judge : Read → ℕ → Question
  write : ℕ → Question
  states : Question
  rank : ℕ → Question
  target : ℕ → ℕ → ℕ → Question
  mark : ℕ → Question

pub data Call : Type 0 where
  change : Change → Call
  ask : Question → Call

-- A call as it is made: reading what it is given finds the call, or a fault.
abbrev pub Made : Type 0
Made = Result Call Refusal

-- What a call answers: the number of states, a verdict, bytes, what a question finds, or a refusal with its number, layer and place.
pub data Answer : Type 0 where
  count : ℕ → Answer
  verdict : Bool → Answer
  wrote : List ℕ → Answer
  found : Option ℕ → Answer
  marked : Option Bool → Answer
  refused : Notice → Answer

-- The answer that a result gives.
abbrev pub answered : {A : Type 0} → (A → Answer) → Result A Refusal → Answer
answered f (Ok x) = f x
answered f (Err r) = refused (told r)

-- The changed set.
abbrev pub changed : Set → Change → Set
changed S (load w) = accepts w.plain
changed S turn = others S

-- The kind list that comes with a change.
abbrev pub kinds_in : Change → Option (List ℕ)
kinds_in (load w) = Some w.plain.kinds
kinds_in turn = None

-- The number of states of the ruling that a change pairs the rulebook with; load and turn do not pair.
abbrev pub partner : Change → Option ℕ
partner (load w) = None
partner turn = None
