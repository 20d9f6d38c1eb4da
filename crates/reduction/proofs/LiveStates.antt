-- The live states after a division: the classes that are shared, and the states that are kept.
use Rattle.std.proofs.Common.{◌≡◌, ℕ, Bool, true, false, cond, ◌⊎◌, List, [], ◌∷◌, All, Contains, filter, get_or, sym, refl, ap, ◌∙◌, subst, inl, inr, arith}
use native.Mathlib.Decide.{ℕ_discrete}
use Rattle.std.proofs.lemmas.List.Elements.{All-cons, All-contains, All-filter, All-contains_itself, Contains-append_right}
use Rattle.reduction.specs.Dividing.{Shared, Fewer}
use Rattle.reduction.proofs.Searching.{true_false}

abbrev Noted : List ℕ → List ℕ → List Bool → ℕ → Type 0
Noted class leader shared p = ¬ (get_or leader (get_or class p 0) 0 ≡ p) → get_or shared (get_or class p 0) false ≡ true

-- What passes a test stands in the filtered list.
pub filter_holds : (test : ℕ → Bool) (xs : List ℕ) → All (λ x. (test x ≡ true → Contains (filter test xs) x)) xs
filter_holds test [] = λ k d h. absurd (omega arith)
filter_holds test (x ∷ xs) = All-cons (λ z. (test z ≡ true → Contains (filter test (x ∷ xs)) z)) x xs (λ e. subst (λ b. Contains (cond b (x ∷ filter test xs) (filter test xs)) x) (sym e) (0, omega arith, refl))
    (λ k d h e. more (get_or xs k d) (filter_holds test xs k d h e))
  where
    more : (y : ℕ) → Contains (filter test xs) y → Contains (cond (test x) (x ∷ filter test xs) (filter test xs)) y
    more y h = elim (test x) as (λ b. Contains (cond b (x ∷ filter test xs) (filter test xs)) y) [ true ↦ Contains-append_right (x ∷ []) (filter test xs) y h | false ↦ h ]

abbrev pub In : List ℕ → List Bool → ℕ → Bool
In class shared s = get_or shared (get_or class s 0) false

-- Those that are gone led their classes, so two of one class are one.
pub fewer_live : (live class leader : List ℕ) (shared : List Bool) → Shared live class leader shared
    → Fewer live class (filter (In class shared) live)
fewer_live live class leader shared marked = record { from = All-filter (In class shared) (Contains live) live (All-contains_itself live); gone = gone }
  where
    leads : (p : ℕ) → Contains live p → get_or shared (get_or class p 0) false ≡ false → Dec (get_or leader (get_or class p 0) 0 ≡ p)
        → get_or leader (get_or class p 0) 0 ≡ p
    leads p h e (yes d) = d
    leads p h e (no d) = absurd (true_false (get_or shared (get_or class p 0) false) (All-contains (Noted class leader shared) live p marked h d) e)

    gone : (p : ℕ) → Contains live p → Contains (filter (In class shared) live) p
        ⊎ ((q : ℕ) → Contains live q → get_or class q 0 ≡ get_or class p 0 → q ≡ p)
    gone p h = go (get_or shared (get_or class p 0) false) refl
      where
        go : (b : Bool) → get_or shared (get_or class p 0) false ≡ b → Contains (filter (In class shared) live) p
            ⊎ ((q : ℕ) → Contains live q → get_or class q 0 ≡ get_or class p 0 → q ≡ p)
        go true e = inl (All-contains (λ z. (In class shared z ≡ true → Contains (filter (In class shared) live) z)) live p (filter_holds (In class shared) live) h e)
        go false e = inr (λ q l f. sym (leads q l (ap (λ i. get_or shared i false) f ∙ e) (ℕ_discrete _ _))
            ∙ (ap (λ i. get_or leader i 0) f ∙ leads p h e (ℕ_discrete _ _)))
