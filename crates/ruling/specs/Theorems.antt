-- What is proved of these definitions alone. Each statement is a clause of the contract of `reduce`.
use Rattle.std.specs.Prelude.{◌≡◌, ℕ, ◌<◌, ◌≤◌, ◌↔◌, List}
use Rattle.ruling.specs.Trees.{Tree, Over}
use Rattle.ruling.specs.Meanings.{Meaning, Complete, run, accepts}
use Rattle.ruling.specs.Surroundings.{Surrounding, plug, around}
use Rattle.ruling.specs.Classes.{Reached, Same, Divides, Classes}
use Rattle.ruling.specs.Sets.{Set, Agree, Need}
use Rattle.ruling.specs.ReducedTables.{Reduced, Equal}
use Rattle.ruling.specs.Written.{file}
use Rattle.ruling.specs.WrittenTables.{TableOf, WrittenTable}
use Rattle.ruling.specs.Approximations.{SameAt, Settled}

-- A surrounding with a record in its gap runs as the surrounding does with that record's state there.
abbrev pub Plugging : Type 0
Plugging = (m : Meaning) (s : Surrounding) (t : Tree) → run m (plug s t) ≡ around m s (run m t)

-- Every state of a reduced table is reached.
abbrev pub AllReached : Type 0
AllReached = (t : Meaning) → Reduced t.kinds t → (s : ℕ) → s < t.states → Reached t.kinds t s

-- No complete ruling with the same set has fewer states than a reduced table.
abbrev pub Smallest : Type 0
Smallest = (t m : Meaning) → Reduced t.kinds t → Complete m.kinds m → Agree t m → t.states ≤ m.states

-- Reduced tables with the same kinds and the same set are equal.
abbrev pub OneTable : Type 0
OneTable = (t u : Meaning) → Reduced t.kinds t → Reduced u.kinds u → Agree t u → Equal t u

-- Reduced tables over the same kinds have equal bytes exactly if they accept the same records, of any length.
abbrev pub SameBytes : Type 0
SameBytes = (t u : Meaning) → Reduced t.kinds t → Reduced u.kinds u → t.kinds ≡ u.kinds
    → (file t ≡ file u) ↔ ((r : Tree) → Over t.kinds r → accepts t r ≡ accepts u r)

-- A reduced table is the table of each ruling with its set, and the table of a ruling is reduced and has the ruling's set.
abbrev pub TableOfEach : Type 0
TableOfEach = (m t : Meaning) → (Reduced t.kinds t × Agree t m) ↔ TableOf m.kinds m t

-- Rulings with the same kinds and the same set have one written table.
abbrev pub OneWritten : Type 0
OneWritten = (m n : Meaning) (xs ys : List ℕ) → Agree m n → WrittenTable m.kinds m xs → WrittenTable n.kinds n ys → xs ≡ ys

-- An approximation after which no more is told apart is the class relation on the reached states.
abbrev pub SettledSame : Type 0
SettledSame = (m : Meaning) (d : ℕ) → Settled m.kinds m d
    → (p q : ℕ) → Reached m.kinds m p → Reached m.kinds m q → SameAt m.kinds m d p q ↔ Same m.kinds m p q

-- The approximations end: one of the first, no more than there are states, divides the reached states into their classes.
abbrev pub ApproximationsEnd : Type 0
ApproximationsEnd = (m : Meaning) (count : ℕ → ℕ) (class : ℕ → ℕ → ℕ) → Complete m.kinds m
    → ((d : ℕ) → Divides m.kinds m (SameAt m.kinds m d) (count d) (class d))
    → (d : ℕ) × (d ≤ m.states) × Classes m.kinds m (count d) (class d)

-- The need of a ruling's set is the number of its classes.
abbrev pub NeedOfClasses : Type 0
NeedOfClasses = (m : Meaning) (c : ℕ) (class : ℕ → ℕ) → Classes m.kinds m c class → Need m.kinds (accepts m) c

-- A set has one need.
abbrev pub OneNeed : Type 0
OneNeed = (ks : List ℕ) (S : Set) (n o : ℕ) → Need ks S n → Need ks S o → n ≡ o
