-- Rows, blocks, the directory and the marks of a file: their lengths, and what stands in them.
use Rattle.std.proofs.Common.{◌≡◌, ℕ, zero, suc, ◌+◌, ◌*◌, ◌<◌, Bool, true, false, eqb, List, [], ◌∷◌, ◌++◌, length, get_or, sym, refl, ap, ◌∙◌, suc-mul, zero-mul, arith, length-append}
use Rattle.std.proofs.lemmas.List.{get_or_append_left, get_or-append-add}
use Rattle.ruling.specs.Written.{row, joined, block, blocks, directory, mark_byte}

-- rows
pub row_length : {A : Type 0} (n : ℕ) (f : ℕ → A) → length (row n f) ≡ n
row_length zero f = refl
row_length (suc n) f = ap suc (row_length n (λ i. f (suc i)))

pub row_at : {A : Type 0} (n : ℕ) (f : ℕ → A) (i : ℕ) (d : A) → i < n → get_or (row n f) i d ≡ f i
row_at zero f i d l = absurd (omega arith)
row_at (suc n) f zero d l = refl
row_at (suc n) f (suc i) d l = row_at n (λ i. f (suc i)) i d (omega arith)

-- rows of equal length, one after another
pub grid_length : (p q : ℕ) (f : ℕ → ℕ → ℕ) → length (joined (row p (λ a. row q (f a)))) ≡ p * q
grid_length zero q f = sym (zero-mul q)
grid_length (suc p) q f =
    let r = grid_length p q (λ a. f (suc a)) in
    let e = length-append (row q (f 0)) (joined (row p (λ a. row q (f (suc a))))) in
    let l = row_length q (f 0) in
    let m = suc-mul p q in omega arith

pub grid_at : (p q a b : ℕ) (f : ℕ → ℕ → ℕ) → a < p → b < q → get_or (joined (row p (λ a. row q (f a)))) (a * q + b) 0 ≡ f a b
grid_at zero q a b f l u = absurd (omega arith)
grid_at (suc p) q zero b f l u =
    let n = row_length q (f 0) in
    let z : zero * q + b ≡ b = let e = zero-mul q in omega arith in
    ap (λ i. get_or (row q (f 0) ++ joined (row p (λ a. row q (f (suc a))))) i 0) z
    ∙ (get_or_append_left (row q (f 0)) (joined (row p (λ a. row q (f (suc a))))) 0 b (omega arith) ∙ row_at q (f 0) b 0 u)
grid_at (suc p) q (suc a) b f l u =
    let n = row_length q (f 0) in
    let z : suc a * q + b ≡ length (row q (f 0)) + (a * q + b) = let e = suc-mul a q in omega arith in
    ap (λ i. get_or (row q (f 0) ++ joined (row p (λ a. row q (f (suc a))))) i 0) z
    ∙ (get_or-append-add (row q (f 0)) (joined (row p (λ a. row q (f (suc a))))) (a * q + b) 0 ∙ grid_at p q a b (λ a. f (suc a)) (omega arith) u)

-- blocks
pub blocks_length : (n : ℕ) (ks : List ℕ) (f : ℕ → ℕ → ℕ → ℕ) → length (blocks n ks f) ≡ length ks
blocks_length n [] f = refl
blocks_length n (r ∷ ks) f = ap suc (blocks_length n ks (λ k. f (suc k)))

pub blocks_at : (n : ℕ) (ks : List ℕ) (f : ℕ → ℕ → ℕ → ℕ) (k : ℕ) → k < length ks → get_or (blocks n ks f) k [] ≡ block n (get_or ks k 0) (f k)
blocks_at n [] f k l = absurd (omega arith)
blocks_at n (r ∷ ks) f zero l = refl
blocks_at n (r ∷ ks) f (suc k) l = blocks_at n ks (λ k. f (suc k)) k (omega arith)

-- the directory
pub directory_length : (at : ℕ) (bs : List (List ℕ)) → length (directory at bs) ≡ 4 * length bs
directory_length at [] = refl
directory_length at (b ∷ bs) = let r = directory_length (at + length b) bs in omega arith

-- a mark byte tells the mark
pub mark_told : (b : Bool) → eqb (mark_byte b) 1 ≡ b
mark_told true = refl
mark_told false = refl
