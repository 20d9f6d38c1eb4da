-- The classes numbered in the order of discovery.
use Rattle.std.specs.Prelude.{◌≡◌, ℕ, zero, suc, ◌<◌, ◌⊎◌, List, length, get_or, Some, None, Option, slice_index, slice_index_or}
use Rattle.std.specs.Option.{unwrap_or}
use Rattle.ruling.specs.Meanings.{Meaning, Fits}
use Rattle.reduction.specs.declared.argument_list.ArgumentList.{ArgumentList}
use Rattle.ruling.specs.Classes.{Reached}
use Rattle.ruling.specs.ReducedTables.{Before}

-- The target of what stands for the numbers a and b, as far as the rank has them.
abbrev pub aimed_by : Meaning → List ℕ → ℕ → ℕ → ℕ → ℕ → ℕ
aimed_by m rep zero k a b = m.target k 0 0
aimed_by m rep (suc zero) k a b = m.target k (slice_index rep a) 0
aimed_by m rep (suc (suc r)) k a b = m.target k (slice_index rep a) (slice_index rep b)

abbrev pub aimed : Meaning → List ℕ → ℕ → ℕ → ℕ → ℕ
aimed m rep k a b = aimed_by m rep (slice_index m.kinds k) k a b

-- The number of a state's class, if it has one.
abbrev pub number_of : List ℕ → List (Option ℕ) → ℕ → Option ℕ
number_of class number p = slice_index_or number (slice_index class p) None

-- Of kind k, an argument list over s states has its first state below w and its second below v, and all of these are argument lists.
pub record Spans (ks : List ℕ) (s k w v : ℕ) : Type 0 where
  pub inside : (a b : ℕ) → Fits ks s k a b → (a < w) × (b < v)
  pub fits : (a b : ℕ) → a < w → b < v → Fits ks s k a b

-- P holds of each argument list over s states before k a b.
abbrev pub AllBefore : List ℕ → ℕ → (ℕ → ℕ → ℕ → Type 0) → ℕ → ℕ → ℕ → Type 0
AllBefore ks s P k a b = (l x y : ℕ) → Fits ks s l x y → Before l x y k a b → P l x y

-- The target of the argument list has a number.
abbrev pub HasNumber : Meaning → List ℕ → List ℕ → List (Option ℕ) → ℕ → ℕ → ℕ → Type 0
HasNumber m class rep number k a b = ¬ (number_of class number (aimed m rep k a b) ≡ None)

-- The first argument list over the numbered classes whose target has no number, if there is one.
abbrev pub Opened : Meaning → List ℕ → List ℕ → List (Option ℕ) → Option ArgumentList → Type 0
Opened m class rep number None = (l x y : ℕ) → Fits m.kinds (length rep) l x y → HasNumber m class rep number l x y
Opened m class rep number (Some list) = Fits m.kinds (length rep) list.kind list.first list.second
    × (number_of class number (aimed m rep list.kind list.first list.second) ≡ None)
    × AllBefore m.kinds (length rep) (HasNumber m class rep number) list.kind list.first list.second

-- The argument list at which the class numbered i was discovered.
pub record Source (m : Meaning) (class rep : List ℕ) (i : ℕ) : Type 0 where
  pub kind : ℕ
  pub first : ℕ
  pub second : ℕ
  pub fits : Fits m.kinds i kind first second
  pub goes : get_or class (aimed m rep kind first second) 0 ≡ slice_index class (slice_index rep i)
  pub before : (k a b : ℕ) → Fits m.kinds i k a b → Before k a b kind first second
      → (j : ℕ) × (j < i) × (slice_index class (aimed m rep k a b) ≡ slice_index class (slice_index rep j))

-- Classes have numbers, in the order of discovery; rep holds a state of each.
pub record Numbered (m : Meaning) (class rep : List ℕ) (number : List (Option ℕ)) : Type 0 where
  pub reached : (i : ℕ) → i < length rep → Reached m.kinds m (slice_index rep i)
  pub given : (i : ℕ) → i < length rep → number_of class number (slice_index rep i) ≡ Some i
  pub back : (x : ℕ) → x < 32 → (slice_index_or number x None ≡ None)
      ⊎ ((j : ℕ) × (slice_index_or number x None ≡ Some j) × (j < length rep) × (slice_index class (slice_index rep j) ≡ x))
  pub source : (i : ℕ) → i < length rep → Source m class rep i

-- What the numbered classes mean.
abbrev pub numbered_meaning : Meaning → List ℕ → List ℕ → List (Option ℕ) → Meaning
numbered_meaning m class rep number = record {
  kinds = m.kinds;
  states = length rep;
  target = λ k a b. unwrap_or (number_of class number (aimed m rep k a b)) 0;
  mark = λ i. m.mark (slice_index rep i);
}
