-- Classes of the reached states while they are divided.
use Rattle.std.specs.Prelude.{◌≡◌, ℕ, ◌+◌, ◌<◌, ◌≤◌, Bool, true, false, ◌⊎◌, List, [], ◌∷◌, length, All, Contains, slice_index, slice_index_or}
use Rattle.ruling.specs.Trees.{Kind}
use Rattle.ruling.specs.Meanings.{Meaning}
use Rattle.ruling.specs.Classes.{Reached, Same}
use Rattle.ruling.specs.Written.{mark_byte}
use Rattle.reduction.specs.declared.context.Context.{Context}
use Rattle.reduction.specs.declared.context.Context.TheVariants.{Under, Left, Right}

-- The kind has the rank of the context, and the brother is reached.
abbrev pub IsContext : Meaning → Context → Type 0
IsContext m (Under k) = Kind m.kinds k 1
IsContext m (Left k r) = Kind m.kinds k 2 × Reached m.kinds m r
IsContext m (Right k r) = Kind m.kinds k 2 × Reached m.kinds m r

-- Where the state p leads in a context.
abbrev pub stepped : Meaning → Context → ℕ → ℕ
stepped m (Under k) p = m.target k p 0
stepped m (Left k r) p = m.target k p r
stepped m (Right k r) p = m.target k r p

-- Each class has its leader, a state's number, as a member.
pub record Parts (class leader : List ℕ) : Type 0 where
  pub some : 0 < length leader
  pub small : (p : ℕ) → slice_index class p < length leader
  pub led : All (λ s. s < 1089) leader
  pub own : (j : ℕ) → j < length leader → slice_index class (slice_index leader j) ≡ j

-- There is one class, and s leads it.
abbrev pub Whole : List ℕ → List ℕ → ℕ → Type 0
Whole class leader s = (leader ≡ s ∷ []) × ((p : ℕ) → slice_index class p ≡ 0)

-- What no surrounding tells apart has one class.
abbrev pub Coarse : Meaning → List ℕ → Type 0
Coarse m class = (p q : ℕ) → Reached m.kinds m p → Reached m.kinds m q → Same m.kinds m p q → slice_index class p ≡ slice_index class q

-- The classes are sound: leaders are reached, members of a class have equal marks, and what no surrounding tells apart is together.
pub record Classed (m : Meaning) (class leader : List ℕ) : Type 0 where
  pub parts : Parts class leader
  pub led : All (Reached m.kinds m) leader
  pub marks : (p q : ℕ) → Reached m.kinds m p → Reached m.kinds m q → slice_index class p ≡ slice_index class q → m.mark p ≡ m.mark q
  pub coarse : Coarse m class

-- p is the only reached state of its class.
abbrev pub Alone : Meaning → List ℕ → ℕ → Type 0
Alone m class p = (q : ℕ) → Reached m.kinds m q → slice_index class q ≡ slice_index class p → q ≡ p

-- The live states are reached, and every other reached state is alone in its class.
pub record Lives (m : Meaning) (class live : List ℕ) : Type 0 where
  pub reached : All (Reached m.kinds m) live
  pub others : (p : ℕ) → Reached m.kinds m p → Contains live p ⊎ Alone m class p

-- A division is sound.
pub record Sorted (m : Meaning) (class leader live : List ℕ) : Type 0 where
  pub classed : Classed m class leader
  pub lives : Lives m class live

-- Each live state has the key that f gives it.
abbrev pub Keys : (ℕ → ℕ) → List ℕ → List ℕ → Type 0
Keys f live key = All (λ p. slice_index key p ≡ f p) live

-- The key of a state is the class that it leads to in the context.
abbrev pub class_key : Meaning → List ℕ → Context → ℕ → ℕ
class_key m class x p = slice_index class (stepped m x p)

-- The key of a state is its mark.
abbrev pub mark_key : Meaning → ℕ → ℕ
mark_key m p = mark_byte (m.mark p)

-- The state p has the key of its class's leader.
abbrev pub LevelAt : List ℕ → List ℕ → List ℕ → ℕ → Type 0
LevelAt key class leader p = slice_index key p ≡ slice_index key (slice_index leader (slice_index class p))

abbrev pub Level : List ℕ → List ℕ → List ℕ → List ℕ → Type 0
Level live key class leader = All (LevelAt key class leader) live

-- Classes divided further: those after lie within those before, live states with one class and one key stay together,
-- leaders stay, and new leaders are live.
pub record Split (live key class leader class' leader' : List ℕ) : Type 0 where
  pub more : length leader ≤ length leader'
  pub finer : (p q : ℕ) → slice_index class' p ≡ slice_index class' q → slice_index class p ≡ slice_index class q
  pub together : (p q : ℕ) → Contains live p → Contains live q → slice_index class p ≡ slice_index class q → slice_index key p ≡ slice_index key q
      → slice_index class' p ≡ slice_index class' q
  pub stay : (j : ℕ) → j < length leader → slice_index leader' j ≡ slice_index leader j
  pub new : (j : ℕ) → length leader ≤ j → j < length leader' → Contains live (slice_index leader' j)

-- The live states of class a with key v have moved to class c, and no other state has moved.
pub record Moved (live key class : List ℕ) (a v c : ℕ) (class' : List ℕ) : Type 0 where
  pub only : (p : ℕ) → (slice_index class' p ≡ slice_index class p) ⊎ ((slice_index class p ≡ a) × (slice_index key p ≡ v) × (slice_index class' p ≡ c))
  pub all : All (λ p. (slice_index class p ≡ a → slice_index key p ≡ v → slice_index class' p ≡ c)) live

-- A live state that does not lead its class has a class that is known to be shared.
abbrev pub Shared : List ℕ → List ℕ → List ℕ → List Bool → Type 0
Shared live class leader shared = All (λ p. (¬ (slice_index leader (slice_index class p) ≡ p) → slice_index_or shared (slice_index class p) false ≡ true)) live

-- Fewer live states: those that are gone were alone of their class among the live ones.
pub record Fewer (live class after : List ℕ) : Type 0 where
  pub from : All (Contains live) after
  pub gone : (p : ℕ) → Contains live p → Contains after p ⊎ ((q : ℕ) → Contains live q → slice_index class q ≡ slice_index class p → q ≡ p)

-- Members of a class lead to one class in the context.
abbrev pub Even : Meaning → List ℕ → Context → Type 0
Even m class x = (p q : ℕ) → Reached m.kinds m p → Reached m.kinds m q → slice_index class p ≡ slice_index class q
    → slice_index class (stepped m x p) ≡ slice_index class (stepped m x q)

-- Below every sign of the first n kinds.
abbrev pub EvenUnder : Meaning → List ℕ → ℕ → Type 0
EvenUnder m class n = (k : ℕ) → k < n → Kind m.kinds k 1 → Even m class (Under k)

-- Beside the brother r below kind k: as the left child, and as the right one where r leads its class.
abbrev pub EvenBoth : Meaning → List ℕ → List ℕ → ℕ → ℕ → Type 0
EvenBoth m class leader k r = Even m class (Left k r) × (slice_index leader (slice_index class r) ≡ r → Even m class (Right k r))

-- Below every join of the first n kinds.
abbrev pub EvenBeside : Meaning → List ℕ → List ℕ → ℕ → ℕ → Type 0
EvenBeside m class leader n r = (k : ℕ) → k < n → Kind m.kinds k 2 → EvenBoth m class leader k r

-- In every context.
abbrev pub AllEven : Meaning → List ℕ → Type 0
AllEven m class = (x : Context) → IsContext m x → Even m class x

-- Of the n brothers in order, taken in a circle, the last `quiet` before `next` divide nothing.
abbrev pub Resting : Meaning → List ℕ → ℕ → List ℕ → List ℕ → ℕ → ℕ → Type 0
Resting m order n class leader quiet next = (j : ℕ) → j < n → ((j < next) × (next ≤ j + quiet)) ⊎ ((next ≤ j) × (next + n ≤ j + quiet))
    → EvenBeside m class leader 16 (slice_index order j)
