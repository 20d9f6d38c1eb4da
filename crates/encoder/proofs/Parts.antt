-- The parts of a file, byte by byte and one after another.
use Rattle.std.proofs.Common.{◌≡◌, ℕ, zero, suc, ◌+◌, ◌<◌, List, [], ◌∷◌, ◌++◌, length, get_or, take, sum_by, sym, refl, ap, ◌∙◌, ap₂, add-zero, arith, length-append, append_assoc, append-nil}
use Rattle.std.specs.List.{range_with_len}
use Rattle.std.proofs.lemmas.List.{ext_get_or}
use Rattle.std.proofs.lemmas.List.Sums.{sum_by-cons}
use Rattle.ruling.specs.Written.{row, joined}
use Rattle.ruling.proofs.Rows.{row_length, row_at}
use Rattle.encoder.proofs.Blocks.{joined_take}

-- a list with what a row has at each place is the row
pub row_of : (n : ℕ) (f : ℕ → ℕ) (xs : List ℕ) → length xs ≡ n → ((k : ℕ) → k < n → get_or xs k 0 ≡ f k) → xs ≡ row n f
row_of n f xs e h = ext_get_or 0 xs (row n f) (e ∙ sym (row_length n f)) (λ k l. let u : k < n = omega arith in h k u ∙ sym (row_at n f k 0 u))

-- the length of what is joined, added up
pub length_so_far : (bs : List (List ℕ)) (j : ℕ) → j < length bs → length (joined (take (j + 1) bs)) ≡ length (joined (take j bs)) + length (get_or bs j [])
length_so_far bs j l = ap length (joined_take bs j l) ∙ length-append (joined (take j bs)) (get_or bs j [])

pub lengths_added : (bs : List (List ℕ)) (a : ℕ) (h : ℕ → ℕ) → ((k : ℕ) → k < length bs → h (a + k) ≡ length (get_or bs k []))
    → sum_by h (range_with_len a (length bs)) ≡ length (joined bs)
lengths_added [] a h e = refl
lengths_added (b ∷ bs) a h e =
    let r = lengths_added bs (a + 1) h (λ k l. ap h (arrange a k) ∙ e (suc k) (omega arith)) in
    let c : h a ≡ length b = ap h (sym (add-zero a)) ∙ e 0 (omega arith) in
    sum_by-cons h a (range_with_len (a + 1) (length bs)) ∙ (ap₂ (λ x y. x + y) c r ∙ sym (length-append b (joined bs)))
  where
    arrange : (a k : ℕ) → a + 1 + k ≡ a + suc k
    arrange a k = omega arith

-- rows one after another, one more
pub rows_more : (n : ℕ) (g : ℕ → List ℕ) → joined (row (n + 1) g) ≡ joined (row n g) ++ g n
rows_more n g = ap (λ j. joined (row j g)) (next n) ∙ more n g
  where
    next : (n : ℕ) → n + 1 ≡ suc n
    next n = omega arith

    more : (n : ℕ) (g : ℕ → List ℕ) → joined (row (suc n) g) ≡ joined (row n g) ++ g n
    more zero g = append-nil (g 0)
    more (suc n) g = ap (λ xs. g 0 ++ xs) (more n (λ i. g (suc i))) ∙ sym (append_assoc (g 0) (joined (row n (λ i. g (suc i)))) (g (suc n)))
