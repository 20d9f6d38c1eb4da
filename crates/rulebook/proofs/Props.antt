-- There is at most one proof that a table is reduced, so a truncated one gives it back.
use Rattle.std.proofs.Common.{◌≡◌, ℕ, ◌<◌, ◌≤◌, ◌⊎◌, List, length, get_or, inl, inr, arith}
use mathlib.Core.HLevel.{Π_prop, ×_prop, is_prop→PathP}
use mathlib.Core.Logic.{∥∥₁_elim}
use native.Mathlib.Bridge.{le_prop}
use native.Mathlib.Nat.{ℕ_set}
use Rattle.ruling.proofs.Uniqueness.{order}
use Rattle.ruling.specs.Trees.{Kind}
use Rattle.ruling.specs.KindLists.{KindList}
use Rattle.ruling.specs.Rulings.{Ruled}
use Rattle.ruling.specs.Meanings.{Meaning, Complete, Fits, none, one, two}
use Rattle.ruling.specs.Classes.{Same}
use Rattle.ruling.specs.ReducedTables.{Next, Before}
use Rattle.ruling.specs.ReducedTables.{Reduced}

kind_prop : (ks : List ℕ) (k r : ℕ) → IsProp (Kind ks k r)
kind_prop ks k r = ×_prop le_prop (ℕ_set (get_or ks k 0) r)

fits_prop : (ks : List ℕ) (s k a b : ℕ) → IsProp (Fits ks s k a b)
fits_prop ks s k a b (none x y z) (none u v w) = λ i. none (kind_prop ks k 0 x u i) (ℕ_set a 0 y v i) (ℕ_set b 0 z w i)
fits_prop ks s k a b (none x y z) (one u v w) = absurd (omega arith)
fits_prop ks s k a b (none x y z) (two u v w) = absurd (omega arith)
fits_prop ks s k a b (one x y z) (none u v w) = absurd (omega arith)
fits_prop ks s k a b (one x y z) (one u v w) = λ i. one (kind_prop ks k 1 x u i) (le_prop y v i) (ℕ_set b 0 z w i)
fits_prop ks s k a b (one x y z) (two u v w) = absurd (omega arith)
fits_prop ks s k a b (two x y z) (none u v w) = absurd (omega arith)
fits_prop ks s k a b (two x y z) (one u v w) = absurd (omega arith)
fits_prop ks s k a b (two x y z) (two u v w) = λ i. two (kind_prop ks k 2 x u i) (le_prop y v i) (le_prop z w i)

first_prop : (ks : List ℕ) (m : Meaning) (s : ℕ) → IsProp (Next ks m s)
first_prop ks m s f g = go (order f.kind f.first f.second g.kind g.first g.second)
  where
    -- a list with the target s is not before the first such list
    late : (f g : Next ks m s) → Before f.kind f.first f.second g.kind g.first g.second → ⊥
    late f g h = let l = g.before f.kind f.first f.second f.fits h in let e = f.goes in omega arith

    same : (f.kind ≡ g.kind) → (f.first ≡ g.first) → (f.second ≡ g.second) → f ≡ g
    same x y z = λ i. record {
      kind = x i;
      first = y i;
      second = z i;
      fits = is_prop→PathP (λ i. Fits ks s (x i) (y i) (z i)) (λ i. fits_prop ks s (x i) (y i) (z i)) f.fits g.fits i;
      goes = is_prop→PathP (λ i. m.target (x i) (y i) (z i) ≡ s) (λ i. ℕ_set (m.target (x i) (y i) (z i)) s) f.goes g.goes i;
      before = is_prop→PathP (λ i. (k a b : ℕ) → Fits ks s k a b → Before k a b (x i) (y i) (z i) → m.target k a b < s)
          (λ i. Π_prop (λ k. Π_prop (λ a. Π_prop (λ b. Π_prop (λ _. Π_prop (λ _. le_prop)))))) f.before g.before i;
    }

    go : Before f.kind f.first f.second g.kind g.first g.second
        ⊎ (((f.kind ≡ g.kind) × (f.first ≡ g.first) × (f.second ≡ g.second)) ⊎ Before g.kind g.first g.second f.kind f.first f.second)
        → f ≡ g
    go (inl h) = absurd (late f g h)
    go (inr (inl e)) = same e.0 e.1 e.2
    go (inr (inr h)) = absurd (late g f h)

pub reduced_prop : (ks : List ℕ) (m : Meaning) → IsProp (Reduced ks m)
reduced_prop ks m r q = λ i. record {
  complete = Π_prop {B = λ k. (a b : ℕ) → Fits ks m.states k a b → m.target k a b < m.states}
      (λ k. Π_prop (λ a. Π_prop (λ b. Π_prop (λ _. le_prop)))) r.complete q.complete i;
  numbered = Π_prop {B = λ s. s < m.states → Next ks m s} (λ s. Π_prop (λ _. first_prop ks m s)) r.numbered q.numbered i;
  distinct = Π_prop {B = λ p. (q : ℕ) → p < m.states → q < m.states → Same ks m p q → p ≡ q}
      (λ p. Π_prop (λ q. Π_prop (λ _. Π_prop (λ _. Π_prop (λ _. ℕ_set p q))))) r.distinct q.distinct i;
}

pub reduced_had : (ks : List ℕ) (m : Meaning) → ∥ Reduced ks m ∥₁ → Reduced ks m
reduced_had ks m h = ∥∥₁_elim h (reduced_prop ks m) (λ r. r)

list_prop : (ks : List ℕ) → IsProp (KindList ks)
list_prop ks x y = λ i. (
  le_prop x.0 y.0 i,
  le_prop x.1 y.1 i,
  Π_prop {B = λ k. k < length ks → get_or ks k 0 ≤ 2} (λ k. Π_prop (λ _. le_prop)) x.2 y.2 i,
)

complete_prop : (ks : List ℕ) (m : Meaning) → IsProp (Complete ks m)
complete_prop ks m = Π_prop {B = λ k. (a b : ℕ) → Fits ks m.states k a b → m.target k a b < m.states} (λ k. Π_prop (λ a. Π_prop (λ b. Π_prop (λ _. le_prop))))

-- Rulings that mean the same are the same.
pub ruled_same : (v w : Ruled) → v.plain ≡ w.plain → v ≡ w
ruled_same v w e = λ i. record {
  plain = e i;
  list = is_prop→PathP (λ i. KindList (e i).kinds) (λ i. list_prop (e i).kinds) v.list w.list i;
  some = is_prop→PathP (λ i. 0 < (e i).states) (λ i. le_prop) v.some w.some i;
  few = is_prop→PathP (λ i. (e i).states ≤ 1089) (λ i. le_prop) v.few w.few i;
  complete = is_prop→PathP (λ i. Complete (e i).kinds (e i)) (λ i. complete_prop (e i).kinds (e i)) v.complete w.complete i;
}
