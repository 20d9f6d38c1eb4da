-- The cells and marks of a table, filled one after the other.
use Rattle.std.proofs.Common.{◌≡◌, ℕ, ◌+◌, ◌/◌, ◌%◌, ◌<◌, ◌≤◌, Bool, true, false, cond, ◌&&◌, ltb, ◌⊎◌, List, length, get_or, set, Some, None, unwrap_or, sym, refl, ap, ◌∙◌, subst, ap₂, inl, inr, arith, get_or-set_other, get_or-set_same}
use native.Mathlib.Decide.{ℕ_discrete}
use Rattle.ruling.specs.Meanings.{Meaning, Fits}
use Rattle.ruling.specs.Questions.{fitting, targeted}
use Rattle.ruling.specs.Rulings.{Ruled}
use Rattle.encoder.specs.Tables.{cell_place}
use Rattle.encoder.proofs.Copies.{fits_small}
use Rattle.reduction.specs.Numbering.{Spans}
use Rattle.reduction.specs.Filling.{cell_at, CellFilled, Filling, AllFilled}
use Rattle.ruling.proofs.ArgumentLists.{fits_kind, told_fits, fits_targeted}
use Rattle.reduction.proofs.Numbers.{before_cell, before_row, before_block}

-- The kind and the children of a place.
pub place_parts : (c : Meaning) (k a b : ℕ) → a < 32 → b < 32 → cell_at c (cell_place k a b) ≡ unwrap_or (targeted c k a b) 0
place_parts c k a b p q =
    let x : cell_place k a b / 1024 ≡ k = omega arith in
    let y : cell_place k a b / 32 % 32 ≡ a = omega arith in
    let z : cell_place k a b % 32 ≡ b = omega arith in
    ap (λ i. unwrap_or (targeted c i (cell_place k a b / 32 % 32) (cell_place k a b % 32)) 0) x ∙ ap₂ (λ i j. unwrap_or (targeted c k i j) 0) y z

-- The cell of an argument list is its target.
pub cell_target : (c : Meaning) (k a b : ℕ) → c.states ≤ 32 → Fits c.kinds c.states k a b → cell_at c (cell_place k a b) ≡ c.target k a b
cell_target c k a b few f = let w = fits_small c.kinds c.states k a b few f in
    place_parts c k a b w.0 w.1 ∙ ap (λ o. unwrap_or o 0) (fits_targeted c k a b f)

pub cell_room : (w : Ruled) (s k a b n : ℕ) → n ≡ 16384 → s ≤ 32 → Fits w.plain.kinds s k a b → cell_place k a b < n
cell_room w s k a b n e few f = let v = fits_small w.plain.kinds s k a b few f in
    omega (arith, v.0, v.1, w.list.1, fits_kind w.plain.kinds s k a b f)

-- One cell more.
pub filling_cell : (c : Meaning) (cells : List ℕ) (k a b v : ℕ) → cell_place k a b < length cells → v ≡ cell_at c (cell_place k a b)
    → Filling c cells k a b → Filling c (set cells (cell_place k a b) v) k a (b + 1)
filling_cell c cells k a b v room e before = record {
  sound = λ i. sound i (ℕ_discrete i (cell_place k a b));
  done = before_cell c.kinds c.states (CellFilled c (set cells (cell_place k a b) v)) k a b here
      (λ l x y f h. kept l x y (before.done l x y f h) (ℕ_discrete (cell_place l x y) (cell_place k a b)));
}
  where
    here : get_or (set cells (cell_place k a b) v) (cell_place k a b) 0 ≡ cell_at c (cell_place k a b)
    here = get_or-set_same cells (cell_place k a b) v 0 room ∙ e

    sound : (i : ℕ) → Dec (i ≡ cell_place k a b) → (get_or (set cells (cell_place k a b) v) i 0 ≡ cell_at c i) ⊎ (get_or (set cells (cell_place k a b) v) i 0 ≡ 0)
    sound i (yes d) = inl (subst (λ j. get_or (set cells (cell_place k a b) v) j 0 ≡ cell_at c j) (sym d) here)
    sound i (no d) = go (before.sound i)
      where
        go : (get_or cells i 0 ≡ cell_at c i) ⊎ (get_or cells i 0 ≡ 0) → (get_or (set cells (cell_place k a b) v) i 0 ≡ cell_at c i) ⊎ (get_or (set cells (cell_place k a b) v) i 0 ≡ 0)
        go (inl x) = inl (get_or-set_other cells (cell_place k a b) i v 0 d ∙ x)
        go (inr x) = inr (get_or-set_other cells (cell_place k a b) i v 0 d ∙ x)

    kept : (l x y : ℕ) → CellFilled c cells l x y → Dec (cell_place l x y ≡ cell_place k a b) → CellFilled c (set cells (cell_place k a b) v) l x y
    kept l x y h (yes d) = subst (λ j. get_or (set cells (cell_place k a b) v) j 0 ≡ cell_at c j) (sym d) here
    kept l x y h (no d) = get_or-set_other cells (cell_place k a b) (cell_place l x y) v 0 d ∙ h

pub filling_row : (c : Meaning) (cells : List ℕ) (k a b w v : ℕ) → Spans c.kinds c.states k w v → v ≤ b → Filling c cells k a b → Filling c cells k (a + 1) 0
filling_row c cells k a b w v sp h f = record { sound = f.sound; done = before_row c.kinds c.states (CellFilled c cells) k a b w v sp h f.done }

pub filling_block : (c : Meaning) (cells : List ℕ) (k a w v : ℕ) → Spans c.kinds c.states k w v → w ≤ a → Filling c cells k a 0 → Filling c cells (k + 1) 0 0
filling_block c cells k a w v sp h f = record { sound = f.sound; done = before_block c.kinds c.states (CellFilled c cells) k a w v sp h f.done }

-- A table of a kind list with at most 16 kinds, which is that of a ruling, is filled after kind 16.
module _ (w : Ruled) (c : Meaning) (same : c.kinds ≡ w.plain.kinds) (few : c.states ≤ 32) (cells : List ℕ) (k : ℕ) (h : 16 ≤ k) (f : Filling c cells k 0 0) where
  pub filled_all : AllFilled c cells
  filled_all i l = go (f.sound i) (ltb (i / 1024) (length c.kinds) && fitting c.states (get_or c.kinds (i / 1024) 0) (i / 32 % 32) (i % 32)) refl
    where
      back : cell_place (i / 1024) (i / 32 % 32) (i % 32) ≡ i
      back = omega arith

      go : (get_or cells i 0 ≡ cell_at c i) ⊎ (get_or cells i 0 ≡ 0)
          → (t : Bool) → (ltb (i / 1024) (length c.kinds) && fitting c.states (get_or c.kinds (i / 1024) 0) (i / 32 % 32) (i % 32)) ≡ t → get_or cells i 0 ≡ cell_at c i
      go (inl x) t e = x
      go (inr x) false e = x ∙ sym (ap (λ z. unwrap_or (cond z (Some (c.target (i / 1024) (i / 32 % 32) (i % 32))) None) 0) e)
      go (inr x) true e = subst (λ j. get_or cells j 0 ≡ cell_at c j) back
          (f.done (i / 1024) (i / 32 % 32) (i % 32) (told_fits c.kinds c.states (i / 1024) (i / 32 % 32) (i % 32) e) (inl (omega (arith, fits_kind c.kinds c.states _ _ _ (told_fits c.kinds c.states (i / 1024) (i / 32 % 32) (i % 32) e), ap length same, w.list.1))))

-- The place may be given as it was reckoned.
pub filling_at : (c : Meaning) (cells : List ℕ) (k a b v i : ℕ) → i ≡ cell_place k a b → cell_place k a b < length cells → v ≡ cell_at c (cell_place k a b)
    → Filling c cells k a b → Filling c (set cells i v) k a (b + 1)
filling_at c cells k a b v i e room f before = subst (λ j. Filling c (set cells j v) k a (b + 1)) (sym e) (filling_cell c cells k a b v room f before)
