-- Rows, joined blocks and the directory of a file, one more at a time and read at a place.
use Rattle.std.proofs.Common.{◌≡◌, ℕ, zero, suc, ◌+◌, ◌-◌, ◌*◌, ◌/◌, ◌%◌, ◌^◌, ◌<◌, ◌≤◌, cond, leb, List, [], ◌∷◌, ◌++◌, length, get_or, take, sym, refl, ap, ◌∙◌, subst, ap₂, append_assoc, append-nil, add-zero, zero-add, mul-suc, arith, length-append}
use native.Mathlib.Decide.{dec_lt}
use Rattle.std.proofs.lemmas.List.{take_more, get_or_append_left, get_or-append-add, get_or-append_right}
use Rattle.ruling.specs.Meanings.{Fits, none, one, two}
use Rattle.ruling.specs.Written.{row, joined, low_high, block, directory}
use Rattle.ruling.proofs.Rows.{row_length, row_at, grid_length, grid_at}
use Rattle.table.specs.TableFiles.{cell_number}
use Rattle.table.specs.FileRuled.{pow_0, pow_1, pow_2}

-- joined lists
pub joined_more : (bs : List (List ℕ)) (b : List ℕ) → joined (bs ++ (b ∷ [])) ≡ joined bs ++ b
joined_more [] b = append-nil b
joined_more (x ∷ bs) b = ap (λ zs. x ++ zs) (joined_more bs b) ∙ sym (append_assoc x (joined bs) b)

pub joined_take : (bs : List (List ℕ)) (j : ℕ) → j < length bs → joined (take (j + 1) bs) ≡ joined (take j bs) ++ get_or bs j []
joined_take bs j l = ap joined (take_more bs j [] l) ∙ joined_more (take j bs) (get_or bs j [])

-- the length up to a list, with it, is within the whole
pub joined_within : (bs : List (List ℕ)) (j : ℕ) → j < length bs → length (joined (take j bs)) + length (get_or bs j []) ≤ length (joined bs)
joined_within [] j l = absurd (omega arith)
joined_within (b ∷ bs) zero l = let e = length-append b (joined bs) in omega arith
joined_within (b ∷ bs) (suc j) l =
    let r = joined_within bs j (omega arith) in
    let e = length-append b (joined bs) in
    let g = length-append b (joined (take j bs)) in omega arith

-- a block as rows: of so many first children, each with so many second ones
pub singles : (n : ℕ) (f : ℕ → ℕ) → joined (row n (λ a. f a ∷ [])) ≡ row n f
singles zero f = refl
singles (suc n) f = ap (λ xs. f 0 ∷ xs) (singles n (λ i. f (suc i)))

pub block_grid : (n r : ℕ) (f : ℕ → ℕ → ℕ) → r ≤ 2 → joined (row (cond (leb 1 r) n 1) (λ a. row (cond (leb 2 r) n 1) (f a))) ≡ block n r f
block_grid n zero f l = refl
block_grid n (suc zero) f l = singles n (λ a. f a 0)
block_grid n (suc (suc zero)) f l = refl
block_grid n (suc (suc (suc r))) f l = absurd (omega arith)

pub block_length : (n r : ℕ) (f : ℕ → ℕ → ℕ) → r ≤ 2 → length (block n r f) ≡ n ^ r
block_length n zero f l = pow_0 n 0 refl
block_length n (suc zero) f l = row_length n (λ a. f a 0) ∙ pow_1 n 1 refl
block_length n (suc (suc zero)) f l = grid_length n n f ∙ pow_2 n 2 refl
block_length n (suc (suc (suc r))) f l = absurd (omega arith)

-- the directory
pub directory_more : (at : ℕ) (bs : List (List ℕ)) (b : List ℕ)
    → directory at (bs ++ (b ∷ [])) ≡ directory at bs ++ (low_high (at + length (joined bs)) ++ low_high (length b))
directory_more at [] b = ap (λ x. low_high x ++ low_high (length b)) (sym (add-zero at))
directory_more at (x ∷ bs) b =
    let l : at + length x + length (joined bs) ≡ at + length (x ++ joined bs) = let e = length-append x (joined bs) in omega arith in
    ap (λ zs. low_high at ++ (low_high (length x) ++ zs))
    (directory_more (at + length x) bs b ∙ ap (λ y. directory (at + length x) bs ++ (low_high y ++ low_high (length b))) l)

-- what stands in a joined list
pub joined_at : (bs : List (List ℕ)) (j c : ℕ) → j < length bs → c < length (get_or bs j [])
    → get_or (joined bs) (length (joined (take j bs)) + c) 0 ≡ get_or (get_or bs j []) c 0
joined_at [] j c l u = absurd (omega arith)
joined_at (b ∷ bs) zero c l u = ap (λ i. get_or (b ++ joined bs) i 0) (zero-add c) ∙ get_or_append_left b (joined bs) 0 c u
joined_at (b ∷ bs) (suc j) c l u =
    let e : length (b ++ joined (take j bs)) + c ≡ length b + (length (joined (take j bs)) + c) = let g = length-append b (joined (take j bs)) in omega arith in
    ap (λ i. get_or (b ++ joined bs) i 0) e ∙ (get_or-append-add b (joined bs) (length (joined (take j bs)) + c) 0 ∙ joined_at bs j c (omega arith) u)

pub joined_few : (bs : List (List ℕ)) (m : ℕ) → ((j : ℕ) → j < length bs → length (get_or bs j []) ≤ m) → length (joined bs) ≤ m * length bs
joined_few [] m h = omega arith
joined_few (b ∷ bs) m h =
    let r = joined_few bs m (λ j l. h (suc j) (omega arith)) in
    let e = length-append b (joined bs) in
    let w = h 0 (omega arith) in
    let s = mul-suc m (length bs) in omega arith

-- each cell of a block is a state
grid_below : (p q n c : ℕ) (f : ℕ → ℕ → ℕ) → ((a b : ℕ) → a < p → b < q → f a b < n) → c < length (joined (row p (λ a. row q (f a))))
    → get_or (joined (row p (λ a. row q (f a)))) c 0 < n
grid_below zero q n c f h l = absurd (omega arith)
grid_below (suc p) q n c f h l = go (dec_lt c q) (λ u. grid_below p q n (c - q) (λ a. f (suc a)) (λ a b x y. h (suc a) b (omega arith) y) u)
  where
    go : Dec (c < q) → (c - q < length (joined (row p (λ a. row q (f (suc a))))) → get_or (joined (row p (λ a. row q (f (suc a))))) (c - q) 0 < n)
        → get_or (row q (f 0) ++ joined (row p (λ a. row q (f (suc a))))) c 0 < n
    go (yes u) rest =
        let w = row_length q (f 0) in
        let e = get_or_append_left (row q (f 0)) (joined (row p (λ a. row q (f (suc a))))) 0 c (omega arith) ∙ row_at q (f 0) c 0 u in
        let v = h 0 c (omega arith) u in omega arith
    go (no u) rest =
        let w = row_length q (f 0) in
        let g = length-append (row q (f 0)) (joined (row p (λ a. row q (f (suc a))))) in
        let e = get_or-append_right (row q (f 0)) (joined (row p (λ a. row q (f (suc a))))) q c 0 w (omega arith) in
        let v = rest (omega arith) in omega arith

-- a and b are the children of a kind of rank r; the unused are 0
pub block_at : (ks : List ℕ) (n k a b : ℕ) (f : ℕ → ℕ → ℕ) → Fits ks n k a b → get_or (block n (get_or ks k 0) f) (cell_number n (get_or ks k 0) a b) 0 ≡ f a b
block_at ks n k a b f (none x y z) = subst (λ r. get_or (block n r f) (cell_number n r a b) 0 ≡ f a b) (sym x.1) (sym (ap₂ f y z))
block_at ks n k a b f (one x y z) = subst (λ r. get_or (block n r f) (cell_number n r a b) 0 ≡ f a b) (sym x.1)
    (row_at n (λ a. f a 0) a 0 y ∙ ap (f a) (sym z))
block_at ks n k a b f (two x y z) = subst (λ r. get_or (block n r f) (cell_number n r a b) 0 ≡ f a b) (sym x.1) (grid_at n n a b f y z)

pub block_below : (ks : List ℕ) (n k c : ℕ) (f : ℕ → ℕ → ℕ) → k < length ks → ((a b : ℕ) → Fits ks n k a b → f a b < n)
    → (r : ℕ) → get_or ks k 0 ≡ r → c < length (block n r f) → get_or (block n r f) c 0 < n
block_below ks n k c f l h zero e u = let z : c ≡ 0 = omega arith in subst (λ i. get_or (f 0 0 ∷ []) i 0 < n) (sym z) (h 0 0 (none (l, e) refl refl))
block_below ks n k c f l h (suc zero) e u =
    let w = row_length n (λ a. f a 0) in
    let v : c < n = omega arith in
    subst (λ x. x < n) (sym (row_at n (λ a. f a 0) c 0 v)) (h c 0 (one (l, e) v refl))
block_below ks n k c f l h (suc (suc zero)) e u = grid_below n n n c f (λ a b x y. h a b (two (l, e) x y)) u
block_below ks n k c f l h (suc (suc (suc r))) e u = absurd (omega arith)

-- past four bytes
pub past_four : (w x y z : ℕ) (xs : List ℕ) (i j : ℕ) → i ≡ 4 + j → get_or (w ∷ (x ∷ (y ∷ (z ∷ xs)))) i 0 ≡ get_or xs j 0
past_four w x y z xs i j e = let g : i ≡ suc (suc (suc (suc j))) = omega arith in ap (λ k. get_or (w ∷ (x ∷ (y ∷ (z ∷ xs)))) k 0) g

-- what stands in the directory
pub pair_offset : (at : ℕ) (bs : List (List ℕ)) (j : ℕ) → j < length bs
    → get_or (directory at bs) (4 * j) 0 + 256 * get_or (directory at bs) (4 * j + 1) 0 ≡ at + length (joined (take j bs))
pair_offset at [] j l = absurd (omega arith)
pair_offset at (b ∷ bs) zero l = omega arith
pair_offset at (b ∷ bs) (suc j) l =
    let d = directory (at + length b) bs in
    let g = length-append b (joined (take j bs)) in
    let r = pair_offset (at + length b) bs j (omega arith) in
    let e = past_four (at % 256) (at / 256) (length b % 256) (length b / 256) d (4 * suc j) (4 * j) (omega arith) in
    let h = past_four (at % 256) (at / 256) (length b % 256) (length b / 256) d (4 * suc j + 1) (4 * j + 1) (omega arith) in
    omega arith

pub pair_length : (at : ℕ) (bs : List (List ℕ)) (j : ℕ) → j < length bs
    → get_or (directory at bs) (4 * j + 2) 0 + 256 * get_or (directory at bs) (4 * j + 2 + 1) 0 ≡ length (get_or bs j [])
pair_length at [] j l = absurd (omega arith)
pair_length at (b ∷ bs) zero l = omega arith
pair_length at (b ∷ bs) (suc j) l =
    let d = directory (at + length b) bs in
    let r = pair_length (at + length b) bs j (omega arith) in
    let e = past_four (at % 256) (at / 256) (length b % 256) (length b / 256) d (4 * suc j + 2) (4 * j + 2) (omega arith) in
    let h = past_four (at % 256) (at / 256) (length b % 256) (length b / 256) d (4 * suc j + 2 + 1) (4 * j + 2 + 1) (omega arith) in
    omega arith
