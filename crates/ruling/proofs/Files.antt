-- The file of a table holds the table, and no more.
use Rattle.std.proofs.Common.{◌≡◌, ℕ, zero, suc, ◌+◌, ◌*◌, ◌<◌, Bool, eqb, List, [], ◌∷◌, ◌++◌, length, get_or, sym, refl, ap, ◌∙◌, subst, ap₂, arith}
use Rattle.std.proofs.lemmas.List.{ext_get_or}
use Rattle.ruling.specs.Meanings.{Meaning, Fits, none, one, two}
use Rattle.ruling.specs.ReducedTables.{Equal}
use Rattle.ruling.specs.Written.{row, joined, block, blocks, directory, mark_byte, head, body_at, file}
use Rattle.ruling.specs.Theorems.{SameBytes}
use Rattle.ruling.proofs.Uniqueness.{one_table, equal_agree}
use Rattle.ruling.proofs.Rows.{row_length, row_at, grid_length, grid_at, blocks_length, blocks_at, directory_length, mark_told}

-- from equal marks and targets to equal parts of the files
row_same : {A : Type 0} (n : ℕ) (f g : ℕ → A) → ((i : ℕ) → i < n → f i ≡ g i) → row n f ≡ row n g
row_same zero f g h = refl
row_same (suc n) f g h = ap₂ ◌∷◌ (h 0 (omega arith)) (row_same n (λ i. f (suc i)) (λ i. g (suc i)) (λ i l. h (suc i) (omega arith)))

module _ (n : ℕ) (ks : List ℕ) (k : ℕ) (f g : ℕ → ℕ → ℕ) where
  block_same : k < length ks → ((a b : ℕ) → Fits ks n k a b → f a b ≡ g a b) → (r : ℕ) → get_or ks k 0 ≡ r → block n r f ≡ block n r g
  block_same l h zero e = ap (λ x. x ∷ []) (h 0 0 (none (l, e) refl refl))
  block_same l h (suc zero) e = row_same n (λ a. f a 0) (λ a. g a 0) (λ a i. h a 0 (one (l, e) i refl))
  block_same l h (suc (suc zero)) e =
      ap joined (row_same n (λ a. row n (f a)) (λ a. row n (g a)) (λ a i. row_same n (f a) (g a) (λ b j. h a b (two (l, e) i j))))
  block_same l h (suc (suc (suc r))) e = refl

  -- and back: equal blocks have equal cells
  same_block : (k < length ks → block n (get_or ks k 0) f ≡ block n (get_or ks k 0) g) → (a b : ℕ) → Fits ks n k a b → f a b ≡ g a b
  same_block p a b (none x y z) =
      let q : block n 0 f ≡ block n 0 g = subst (λ r. block n r f ≡ block n r g) x.1 (p x.0) in
      ap₂ f y z ∙ (ap (λ xs. get_or xs 0 0) q ∙ sym (ap₂ g y z))
  same_block p a b (one x y z) =
      let q : block n 1 f ≡ block n 1 g = subst (λ r. block n r f ≡ block n r g) x.1 (p x.0) in
      ap (f a) z ∙ (sym (row_at n (λ i. f i 0) a 0 y) ∙ (ap (λ xs. get_or xs a 0) q ∙ (row_at n (λ i. g i 0) a 0 y ∙ sym (ap (g a) z))))
  same_block p a b (two x y z) =
      let q : block n 2 f ≡ block n 2 g = subst (λ r. block n r f ≡ block n r g) x.1 (p x.0) in
      sym (grid_at n n a b f y z) ∙ (ap (λ xs. get_or xs (a * n + b) 0) q ∙ grid_at n n a b g y z)

blocks_same : (n : ℕ) (ks : List ℕ) (f g : ℕ → ℕ → ℕ → ℕ) → ((k a b : ℕ) → Fits ks n k a b → f k a b ≡ g k a b) → blocks n ks f ≡ blocks n ks g
blocks_same n ks f g h = ext_get_or [] (blocks n ks f) (blocks n ks g) (blocks_length n ks f ∙ sym (blocks_length n ks g)) (λ k i.
    let l : k < length ks = omega (arith, blocks_length n ks f) in
    blocks_at n ks f k l ∙ (block_same n ks k (f k) (g k) l (h k) (get_or ks k 0) refl ∙ sym (blocks_at n ks g k l)))

abbrev bytes_of : List ℕ → ℕ → List ℕ → List (List ℕ) → List ℕ
bytes_of ks n marks bs = head n (length ks) ++ (ks ++ (marks ++ (directory (body_at n (length ks)) bs ++ joined bs)))

-- equal tables have one file
pub same_file : (t u : Meaning) → Equal t u → file t ≡ file u
same_file t u e =
    ap₂ (bytes_of t.kinds t.states)
    (row_same t.states (λ s. mark_byte (t.mark s)) (λ s. mark_byte (u.mark s)) (λ s l. ap mark_byte (e.mark s l)))
    (blocks_same t.states t.kinds t.target u.target e.target)
    ∙ ap₂ (λ ks n. bytes_of ks n (row n (λ s. mark_byte (u.mark s))) (blocks n ks u.target)) e.kinds e.states

-- the first parts of equal lists are equal if they are of one length, and so are the rests
split : (xs ys us vs : List ℕ) → length xs ≡ length ys → xs ++ us ≡ ys ++ vs → (xs ≡ ys) × (us ≡ vs)
split [] [] us vs e h = (refl, h)
split [] (y ∷ ys) us vs e h = absurd (omega arith)
split (x ∷ xs) [] us vs e h = absurd (omega arith)
split (x ∷ xs) (y ∷ ys) us vs e h =
    let p : x ≡ y = cc in
    let q : xs ++ us ≡ ys ++ vs = cc in
    let l : length xs ≡ length ys = omega arith in
    let r = split xs ys us vs l q in
    (ap₂ ◌∷◌ p r.0, r.1)

-- the length of a block does not depend on its cells
block_long : (n r : ℕ) (f g : ℕ → ℕ → ℕ) → length (block n r f) ≡ length (block n r g)
block_long n zero f g = refl
block_long n (suc zero) f g = row_length n (λ a. f a 0) ∙ sym (row_length n (λ a. g a 0))
block_long n (suc (suc zero)) f g = grid_length n n f ∙ sym (grid_length n n g)
block_long n (suc (suc (suc r))) f g = refl

-- so joined blocks can be taken apart again
same_blocks : (n : ℕ) (ks : List ℕ) (f g : ℕ → ℕ → ℕ → ℕ) → joined (blocks n ks f) ≡ joined (blocks n ks g) → blocks n ks f ≡ blocks n ks g
same_blocks n [] f g e = refl
same_blocks n (r ∷ ks) f g e =
    let s = split (block n r (f 0)) (block n r (g 0)) (joined (blocks n ks (λ k. f (suc k)))) (joined (blocks n ks (λ k. g (suc k))))
    (block_long n r (f 0) (g 0)) e in
    ap₂ ◌∷◌ s.0 (same_blocks n ks (λ k. f (suc k)) (λ k. g (suc k)) s.1)

same_mark : (x y : Bool) → mark_byte x ≡ mark_byte y → x ≡ y
same_mark x y e = sym (mark_told x) ∙ (ap (λ n. eqb n 1) e ∙ mark_told y)

module _ (ks : List ℕ) (n : ℕ) (f g : ℕ → Bool) (t u : ℕ → ℕ → ℕ → ℕ) where
  abbrev marks_of : (ℕ → Bool) → List ℕ
  marks_of h = row n (λ s. mark_byte (h s))

  abbrev pairs_of : (ℕ → ℕ → ℕ → ℕ) → List ℕ
  pairs_of h = directory (body_at n (length ks)) (blocks n ks h)

  pairs_long : length (pairs_of t) ≡ length (pairs_of u)
  pairs_long =
      let a = directory_length (body_at n (length ks)) (blocks n ks t) in
      let b = directory_length (body_at n (length ks)) (blocks n ks u) in
      let c = blocks_length n ks t in
      let d = blocks_length n ks u in omega arith

  same_parts : bytes_of ks n (marks_of f) (blocks n ks t) ≡ bytes_of ks n (marks_of g) (blocks n ks u)
      → ((s : ℕ) → s < n → f s ≡ g s) × ((k a b : ℕ) → Fits ks n k a b → t k a b ≡ u k a b)
  same_parts e =
      let w = (split (head n (length ks)) (head n (length ks)) (ks ++ (marks_of f ++ (pairs_of t ++ joined (blocks n ks t))))
      (ks ++ (marks_of g ++ (pairs_of u ++ joined (blocks n ks u)))) refl e).1 in
      let x = (split ks ks (marks_of f ++ (pairs_of t ++ joined (blocks n ks t))) (marks_of g ++ (pairs_of u ++ joined (blocks n ks u))) refl w).1 in
      let y = split (marks_of f) (marks_of g) (pairs_of t ++ joined (blocks n ks t)) (pairs_of u ++ joined (blocks n ks u))
      (row_length n (λ s. mark_byte (f s)) ∙ sym (row_length n (λ s. mark_byte (g s)))) x in
      let z = (split (pairs_of t) (pairs_of u) (joined (blocks n ks t)) (joined (blocks n ks u)) pairs_long y.1).1 in
      let bs = same_blocks n ks t u z in (
        (λ s l. same_mark (f s) (g s)
            (sym (row_at n (λ s. mark_byte (f s)) s 0 l) ∙ (ap (λ xs. get_or xs s 0) y.0 ∙ row_at n (λ s. mark_byte (g s)) s 0 l))),
        (λ k. same_block n ks k (t k) (u k) (λ l. sym (blocks_at n ks t k l) ∙ (ap (λ xs. get_or xs k []) bs ∙ blocks_at n ks u k l))),
      )

-- tables over the same kinds with one file are equal
pub file_same : (t u : Meaning) → t.kinds ≡ u.kinds → file t ≡ file u → Equal t u
file_same t u k e =
    let n : t.states ≡ u.states = cc in
    let p = same_parts t.kinds t.states t.mark u.mark t.target u.target
    (e ∙ ap₂ (λ ks n. bytes_of ks n (row n (λ s. mark_byte (u.mark s))) (blocks n ks u.target)) (sym k) (sym n)) in
    record { kinds = k; states = n; mark = p.0; target = p.1 }

pub same_bytes : SameBytes
same_bytes t u rt ru k = (
  (λ e. (equal_agree t u rt.complete (file_same t u k e)).trees),
  (λ h. same_file t u (one_table t u rt ru (record { kinds = k; trees = h }))),
)
