-- Numbers at most so many, where each is there once.
use Rattle.std.proofs.Common.{◌≡◌, ℕ, zero, suc, ◌<◌, ◌≤◌, ◌⊎◌, sym, refl, ◌∙◌, inl, inr, arith}
use native.Mathlib.Decide.{ℕ_discrete}

-- y is x, or v where x is m
abbrev Moved : ℕ → ℕ → ℕ → ℕ → Type 0
Moved m v x y = ((x ≡ m) × (y ≡ v)) ⊎ (¬ (x ≡ m) × (y ≡ x))

move : (m v x : ℕ) → (y : ℕ) × Moved m v x y
move m v x = go (ℕ_discrete x m)
  where
    go : Dec (x ≡ m) → (y : ℕ) × Moved m v x y
    go (yes e) = (v, inl (e, refl))
    go (no n) = (x, inr (n, refl))

-- numbers that are moved to one place were at one, or one of them is v
moved_from : (m v x y p q : ℕ) → Moved m v x p → Moved m v y q → p ≡ q → (x ≡ y) ⊎ ((v ≡ x) ⊎ (v ≡ y))
moved_from m v x y p q (inl f) (inl g) e = inl (omega arith)
moved_from m v x y p q (inl f) (inr g) e = inr (inr (omega arith))
moved_from m v x y p q (inr f) (inl g) e = inr (inl (omega arith))
moved_from m v x y p q (inr f) (inr g) e = inl (omega arith)

-- n numbers below m, no two of them equal: n is at most m
pub pigeons : (n m : ℕ) (f : (i : ℕ) → i < n → ℕ) → ((i : ℕ) (h : i < n) → f i h < m)
    → ((i j : ℕ) (h : i < n) (g : j < n) → f i h ≡ f j g → i ≡ j) → n ≤ m
pigeons zero m f small once = omega arith
pigeons (suc n) zero f small once = absurd (let h = small n (omega arith) in omega arith)
pigeons (suc n) (suc m) f small once =
    let shorter : n ≤ m = pigeons n m (λ i h. (move m v (f i (up i h))).0) small' once' in
    omega arith
  where
    up : (i : ℕ) → i < n → i < suc n
    up i h = omega arith

    last : n < suc n
    last = omega arith

    v : ℕ
    v = f n last

    small' : (i : ℕ) (h : i < n) → (move m v (f i (up i h))).0 < m
    small' i h = go (move m v (f i (up i h))).1
      where
        go : {y : ℕ} → Moved m v (f i (up i h)) y → y < m
        go (inl e) =
            let k : ¬ (v ≡ m) = (λ z. let w = once i n (up i h) last (e.0 ∙ sym z) in omega arith) in
            let b = small n last in omega arith
        go (inr e) = let b = small i (up i h) in omega arith

    once' : (i j : ℕ) (h : i < n) (g : j < n) → (move m v (f i (up i h))).0 ≡ (move m v (f j (up j g))).0 → i ≡ j
    once' i j h g e = go (moved_from m v (f i (up i h)) (f j (up j g)) _ _ (move m v (f i (up i h))).1 (move m v (f j (up j g))).1 e)
      where
        go : (f i (up i h) ≡ f j (up j g)) ⊎ ((v ≡ f i (up i h)) ⊎ (v ≡ f j (up j g))) → i ≡ j
        go (inl z) = once i j (up i h) (up j g) z
        go (inr (inl z)) = let w = once n i last (up i h) z in omega arith
        go (inr (inr z)) = let w = once n j last (up j g) z in omega arith
