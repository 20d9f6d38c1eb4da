-- The calls of a rulebook since it was opened, the set that the rules reckon from them, and what is promised of the rulebook.
use Rattle.std.specs.Prelude.{◌≡◌, ℕ, ◌<◌, ◌≤◌, ◌↔◌, List, [], ◌∷◌, None, Ok, Err}
use Rattle.ruling.specs.declared.refusal.Notice.{Notice}
use Rattle.ruling.specs.Meanings.{Meaning}
use Rattle.ruling.specs.Sets.{Set, empty, Rules, Need}
use Rattle.ruling.specs.Written.{file}
use Rattle.ruling.specs.WrittenTables.{WrittenTable}
use Rattle.rulebook.specs.Calls.{change, ask, Made, Answer, refused, changed}
use Rattle.rulebook.specs.Outcomes.{early_fault, Outcome}

pub data History : Type 0 where
  opened : List ℕ → History
  called : History → Made → Answer → History

-- The kind list that the rulebook was opened with.
abbrev pub kinds_of : History → List ℕ
kinds_of (opened ks) = ks
kinds_of (called h c a) = kinds_of h

-- The calls, the last one first, and their answers.
abbrev pub calls_of : History → List Made
calls_of (opened ks) = []
calls_of (called h c a) = c ∷ calls_of h

abbrev pub answers_of : History → List Answer
answers_of (opened ks) = []
answers_of (called h c a) = a ∷ answers_of h

-- The rules reckon the set S from the calls: empty after opening, then the outcome of each call. Each answer is the reckoned one.
abbrev pub Reckons : History → Set → Type 0
Reckons (opened ks) S = S ≡ empty
Reckons (called h c a) after = (S : Set) × Reckons h S × Outcome (kinds_of h) S c a after

-- Each change that passed the earlier checks was refused by number 12 exactly when every complete ruling over the kinds for the
-- changed set has more than 32 states.
abbrev pub Twelves : History → Type 0
Twelves (opened ks) = Unit {0}
Twelves (called h (Err r) a) = Twelves h
Twelves (called h (Ok (ask q)) a) = Twelves h
Twelves (called h (Ok (change c)) a) = Twelves h
    × ((S : Set) (n : ℕ) → Reckons h S → Need (kinds_of h) S n → early_fault (kinds_of h) n c ≡ None
    → ((p : Notice) × (a ≡ refused p) × (p.number ≡ 12)) ↔ ((m : Meaning) → Rules (kinds_of h) (changed S c) m → 32 < m.states))

-- The rulebook b is as the rules have it after the calls of h.
pub record Stands (h : History) (b : Meaning) : Type 0 where
  pub set : Set
  -- The set is reckoned from the calls, and each answer is the reckoned one.
  pub reckoned : Reckons h set
  -- b is over the kinds that it was opened with, and accepts exactly that set.
  pub exact : Rules (kinds_of h) set b
  -- What it writes is the written table of every ruling over its kinds that accepts exactly that set.
  pub written : (m : Meaning) → Rules (kinds_of h) set m → WrittenTable (kinds_of h) m (file b)
  -- Every complete ruling over its kinds with that set has at least as many states.
  pub fewest : (m : Meaning) → Rules (kinds_of h) set m → b.states ≤ m.states
  pub twelves : Twelves h

-- Whatever calls the rulebook b had met: with this call and its answer it is the rulebook d.
abbrev pub Follows : Meaning → Made → Answer → Meaning → Type 0
Follows b c a d = (h : History) → Stands h b → Stands (called h c a) d
