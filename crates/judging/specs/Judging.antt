-- What judging and measuring a record answer.
use Rattle.std.specs.Prelude.{ℕ, Bool, List, Result}
use Rattle.ruling.specs.declared.refusal.Refusal.{Refusal}
use Rattle.ruling.specs.Trees.{Tree, node_count}
use Rattle.ruling.specs.Meanings.{Meaning, accepts}
use Rattle.ruling.specs.Checks.{unless}
use Rattle.ruling.specs.KindLists.{kinds_fault}
use Rattle.judging.specs.declared.tally.Size.{Size}
use Rattle.record.specs.Reading.{after, read_record}
use Rattle.judging.specs.Walking.{walked}
use Rattle.judging.specs.Tallies.{size_of}

-- Judging the record t, read under the kinds ks, with `room` slots: 7, then 13, then whether it is accepted.
abbrev pub judged : Meaning → List ℕ → Tree → ℕ → Result Bool Refusal
judged m ks t room = unless (kinds_fault m.kinds ks) (walked (accepts m t) (node_count t) room)

-- Judging bytes, read under the ruling's kinds: 8, 9, 10, 11, then 13, then whether the record is accepted.
abbrev pub judged_bytes : Meaning → List ℕ → ℕ → Result Bool Refusal
judged_bytes m bytes room = after (read_record m.kinds 4096 bytes) (λ t. walked (accepts m t) (node_count t) room)

-- Measuring the record t: 13, then its number of nodes and its height.
abbrev pub measured : Tree → ℕ → Result Size Refusal
measured t room = walked (size_of t) (node_count t) room
