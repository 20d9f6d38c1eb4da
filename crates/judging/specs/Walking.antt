-- What a walk does: it reads the nodes of a record and keeps a value for each part that stands.
use Rattle.std.specs.Prelude.{◌≡◌, ℕ, ◌≤◌, cond, List, [], map, length, Ok, Err, Result, nat_lt}
use Rattle.ruling.specs.declared.refusal.Refusal.{Refusal}
use Rattle.ruling.specs.declared.refusal.Refusal.TheVariants.{BufferTooShort}
use Rattle.ruling.specs.Trees.{Tree}
use Rattle.record.specs.Reading.{node_read, read_from}

-- One step, where `room` values have room: values of the parts that stand become those of the parts after the node.
abbrev pub Steps : {V : Type 0} → (Tree → V) → List ℕ → ℕ → ℕ → ℕ → List V → List V → Result (Unit {0}) Refusal → Type 0
Steps value ks at kind room before after r =
    (parts next : List Tree) → node_read ks at parts kind ≡ Ok next → length next ≤ room → before ≡ map value parts → (r ≡ Ok tt) × (after ≡ map value next)

-- All steps, where there is room for as many values as bytes: the record's value.
abbrev pub Works : {V : Type 0} → (Tree → V) → List ℕ → List ℕ → ℕ → Result V Refusal → Type 0
Works value ks bytes room r = (t : Tree) → read_from ks 0 [] bytes ≡ Ok t → length bytes ≤ room → r ≡ Ok (value t)

-- The answer of a walk that needs `need` slots of `room`: 13, or the value.
abbrev pub walked : {V : Type 0} → V → ℕ → ℕ → Result V Refusal
walked value need room = cond (nat_lt room need) (Err (BufferTooShort need)) (Ok value)
