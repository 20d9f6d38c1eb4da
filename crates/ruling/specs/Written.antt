-- The file of a table: edition, states, kinds, 0; ranks, marks, directory and blocks, with no gaps.
use Rattle.std.specs.Prelude.{ℕ, zero, suc, ◌+◌, ◌*◌, ◌/◌, ◌%◌, Bool, cond, List, [], ◌∷◌, ◌++◌, length}
use Rattle.ruling.specs.Meanings.{Meaning}

-- f 0, f 1, .. up to f (n - 1)
abbrev pub row : {A : Type 0} → ℕ → (ℕ → A) → List A
row zero f = []
row (suc n) f = f 0 ∷ row n (λ i. f (suc i))

abbrev pub joined : List (List ℕ) → List ℕ
joined [] = []
joined (b ∷ bs) = b ++ joined bs

-- A number in two bytes, the low byte first.
abbrev pub low_high : ℕ → List ℕ
low_high x = (x % 256) ∷ ((x / 256) ∷ [])

-- The cells of a kind of rank r over n states; of rank 2, cell a × n + b is that of the children a and b.
abbrev pub block : ℕ → ℕ → (ℕ → ℕ → ℕ) → List ℕ
block n zero f = f 0 0 ∷ []
block n (suc zero) f = row n (λ a. f a 0)
block n (suc (suc zero)) f = joined (row n (λ a. row n (λ b. f a b)))
block n (suc (suc (suc r))) f = []

-- The blocks of the kinds, in order.
abbrev pub blocks : ℕ → List ℕ → (ℕ → ℕ → ℕ → ℕ) → List (List ℕ)
blocks n [] f = []
blocks n (r ∷ rs) f = block n r (f 0) ∷ blocks n rs (λ k. f (suc k))

-- The pairs of the directory: each block's offset and length.
abbrev pub directory : ℕ → List (List ℕ) → List ℕ
directory at [] = []
directory at (b ∷ bs) = low_high at ++ (low_high (length b) ++ directory (at + length b) bs)

-- A mark byte: 1 is yes, 0 is no.
abbrev pub mark_byte : Bool → ℕ
mark_byte b = cond b 1 0

-- The first four bytes of a file of n states and k kinds; the edition is 1.
abbrev pub head : ℕ → ℕ → List ℕ
head n k = 1 ∷ (n ∷ (k ∷ (0 ∷ [])))

-- Where the first block of a file without gaps begins.
abbrev pub body_at : ℕ → ℕ → ℕ
body_at n k = 4 + 5 * k + n

abbrev pub file : Meaning → List ℕ
file t = head t.states (length t.kinds) ++ (t.kinds ++ (row t.states (λ s. mark_byte (t.mark s))
    ++ (directory (body_at t.states (length t.kinds)) (blocks t.states t.kinds t.target)
    ++ joined (blocks t.states t.kinds t.target))))
