-- What the rules reckon for one call: the answer, and the set afterwards.
use Rattle.std.specs.Prelude.{◌≡◌, ℕ, ◌*◌, cond, List, length, Some, None, Ok, Err, Option, nat_le, nat_lt}
use Rattle.ruling.specs.declared.refusal.Refusal.{Refusal}
use Rattle.ruling.specs.declared.refusal.Refusal.TheVariants.{TooManyStates, PairTooLarge}
use Rattle.ruling.specs.Refusals.{told}
use Rattle.ruling.specs.Trees.{node_count}
use Rattle.ruling.specs.Meanings.{Meaning}
use Rattle.ruling.specs.Questions.{rank_in, targeted, marked}
use Rattle.ruling.specs.Checks.{first}
use Rattle.ruling.specs.KindLists.{kinds_fault}
use Rattle.ruling.specs.Sets.{Set, Rules, Need}
use Rattle.ruling.specs.ReducedTables.{Reduced}
use Rattle.ruling.specs.Written.{file}
use Rattle.encoder.specs.Encodings.{room_fault}
use Rattle.rulebook.specs.Calls as calls
use Rattle.rulebook.specs.Calls.{Change, Question, judge, write, states, rank, target, mark, change, ask, Made, Answer, count, verdict, wrote, found, refused, changed, kinds_in, partner}

-- Fault 7: the call comes with another kind list.
abbrev pub list_fault : List ℕ → Option (List ℕ) → Option Refusal
list_fault ks None = None
list_fault ks (Some ls) = kinds_fault ls ks

-- Fault 14: n states paired with p are more than 1,089.
abbrev pub pair_fault : ℕ → Option ℕ → Option Refusal
pair_fault n None = None
pair_fault n (Some p) = cond (nat_lt 1089 (n * p)) (Some (PairTooLarge (n * p))) None

-- The first fault of a change before the changed set is looked at, where the set needs n states: 7, then 14. No change is lent a
-- buffer, so 13, whose place is between them, is none of these.
abbrev pub early_fault : List ℕ → ℕ → Change → Option Refusal
early_fault ks n c = first (list_fault ks (kinds_in c)) (pair_fault n (partner c))

-- The answer, unless a check before it finds a fault.
abbrev pub unless_fault : Option Refusal → Answer → Answer
unless_fault None a = a
unless_fault (Some r) a = refused (told r)

-- The answer to a question about the set S with the table t.
abbrev pub reply : Set → Meaning → Question → Answer
reply S t (judge r room) = unless_fault (first (kinds_fault t.kinds r.kinds) (room_fault (node_count r.tree) room)) (verdict (S r.tree))
reply S t (write room) = unless_fault (room_fault (length (file t)) room) (wrote (file t))
reply S t states = count t.states
reply S t (rank k) = found (rank_in t.kinds k)
reply S t (target k a b) = found (targeted t k a b)
reply S t (mark s) = calls.marked (marked t s)

-- t is the table of the set S: complete, numbered in the order of discovery, no two states of one class.
pub record TableFor (ks : List ℕ) (S : Set) (t : Meaning) : Type 0 where
  pub rules : Rules ks S t
  pub reduced : Reduced ks t

-- The answer is the one said, and the set after the call is the set S before it.
pub record Stays (S : Set) (said a : Answer) (after : Set) : Type 0 where
  pub answer : a ≡ said
  pub set : after ≡ S

-- A change that passed the earlier checks: it answers the need of the changed set, or is refused by number 12 with that need, above 32.
pub record Changes (ks : List ℕ) (S : Set) (c : Change) (a : Answer) (after : Set) : Type 0 where
  pub need : ℕ
  pub needed : Need ks (changed S c) need
  pub answer : a ≡ cond (nat_le need 32) (count need) (refused (told (TooManyStates need)))
  pub set : after ≡ cond (nat_le need 32) (changed S c) S

-- A change of a set by the first fault of the earlier checks.
abbrev pub Checked : List ℕ → Set → Change → Option Refusal → Answer → Set → Type 0
Checked ks S c (Some r) a after = Stays S (refused (told r)) a after
Checked ks S c None a after = Changes ks S c a after

-- What becomes of a call on the set S, over the kinds ks: its answer a, and the set after it.
abbrev pub Outcome : List ℕ → Set → Made → Answer → Set → Type 0
Outcome ks S (Err r) a after = Stays S (refused (told r)) a after
Outcome ks S (Ok (change c)) a after = (n : ℕ) × Need ks S n × Checked ks S c (early_fault ks n c) a after
Outcome ks S (Ok (ask q)) a after = (t : Meaning) × TableFor ks S t × Stays S (reply S t q) a after
