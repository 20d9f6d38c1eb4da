-- What every ruling keeps to.
use Rattle.std.proofs.Common.{◌≡◌, ℕ, zero, suc, ◌<◌, List, [], ◌∷◌, ◌++◌, get_or, replicate, sym, subst, ap₂, arith}
use native.Mathlib.Decide.{dec_lt}
use lib.ListN.{length-replicate, get_or-replicate}
use Rattle.std.proofs.lemmas.List.{get_or_past}
use Rattle.ruling.specs.Trees.{leaf, stem, fork}
use Rattle.ruling.specs.Meanings.{Meaning, Fits, none, one, two}
use Rattle.ruling.specs.Rulings.{Ruled}
use Rattle.ruling.specs.Classes.{Reached}
use Rattle.ruling.proofs.Smallest.{run_below}
use Rattle.reduction.specs.Searching as searching

pub reached_below : (w : Ruled) (p : ℕ) → Reached w.plain.kinds w.plain p → p < w.plain.states
reached_below w p h = subst (λ x. x < w.plain.states) h.runs (run_below w.plain.kinds w.plain w.complete h.tree h.over)

pub list_fits : (w : Ruled) (k a b : ℕ) → searching.ReachedList w.plain k a b → Fits w.plain.kinds w.plain.states k a b
list_fits w k a b (searching.none kind x y) = none kind x y
list_fits w k a b (searching.one kind x y) = one kind (reached_below w a x) y
list_fits w k a b (searching.two kind x y) = two kind (reached_below w a x) (reached_below w b y)

pub list_reached : (m : Meaning) (k a b : ℕ) → searching.ReachedList m k a b → Reached m.kinds m (m.target k a b)
list_reached m k a b (searching.none kind x y) = record { tree = leaf k; over = kind; runs = ap₂ (m.target k) (sym x) (sym y) }
list_reached m k a b (searching.one kind x y) = record {
  tree = stem k x.tree;
  over = (kind, x.over);
  runs = ap₂ (m.target k) x.runs (sym y);
}
list_reached m k a b (searching.two kind x y) = record {
  tree = fork k x.tree y.tree;
  over = (kind, x.over, y.over);
  runs = ap₂ (m.target k) x.runs y.runs;
}

-- Every place of a fresh array has its value.
pub fresh : {A : Type 0} (n : ℕ) (a : A) (k : ℕ) → get_or (replicate n a) k a ≡ a
fresh n a k = go (dec_lt k n)
  where
    go : Dec (k < n) → get_or (replicate n a) k a ≡ a
    go (yes h) = get_or-replicate n k a a h
    go (no h) = get_or_past (replicate n a) k a (rw length-replicate (omega arith))

-- One number more below n.
pub below_pushed : (xs : List ℕ) (t n : ℕ) → t < n → ((i : ℕ) → get_or xs i 0 < n) → (i : ℕ) → get_or (xs ++ t ∷ []) i 0 < n
below_pushed [] t n h below zero = h
below_pushed [] t n h below (suc i) = omega (arith, h)
below_pushed (x ∷ xs) t n h below zero = below 0
below_pushed (x ∷ xs) t n h below (suc i) = below_pushed xs t n h (λ j. below (suc j)) i
