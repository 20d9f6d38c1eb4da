-- The first word of a text, and what is left after it.
use Rattle.std.proofs.Common.{◌≡◌, ◌≢◌, ℕ, ◌+◌, ◌-◌, ◌<◌, ◌≤◌, Bool, true, false, cond, not, eqb, List, [], ◌∷◌, ◌++◌, length, get_or, take, drop, Some, None, Option, unwrap_or, sym, refl, ap, ◌∙◌, append_assoc, append-nil, length-drop, ne_eqb, add-zero, one-add, arith}
use Rattle.std.proofs.lemmas.List.Sums.{prefix_len-le-length}
use Rattle.std.proofs.lemmas.List.{drop_all, take_rest, length-take-le, get_or-drop}
use Rattle.std.proofs.lemmas.List.Quantifiers.{position-Some}
use Rattle.std.specs.List.{position, position_or_len, before_first}
use Rattle.script.specs.Words.{is_blank, not_blank, is_comment, ends_word, words_after, words_of}

-- the first place that passes, or the length
first_place : (p : ℕ → Bool) (xs : List ℕ) → unwrap_or (position p xs) (length xs) ≡ position_or_len p xs
first_place p xs = let l = prefix_len-le-length (λ x. not (p x)) xs in grind arith

-- no blank begins a comment
plain_blank : (c : ℕ) → is_blank c ≡ true → is_comment c ≡ false
plain_blank c h = ne_eqb c 35 (λ e. let z : is_blank 35 ≡ true = ap is_blank (sym e) ∙ h in cc)

-- one byte more
drop_one : (n x : ℕ) (xs : List ℕ) → drop (1 + n) (x ∷ xs) ≡ drop n xs
drop_one n x xs = ap (λ (i : ℕ). drop i (x ∷ xs)) (one-add n)

take_one : (n x : ℕ) (xs : List ℕ) → take (1 + n) (x ∷ xs) ≡ x ∷ take n xs
take_one n x xs = ap (λ (i : ℕ). take i (x ∷ xs)) (one-add n)

-- blanks are passed over
over_blanks : (text : List ℕ) → words_of text ≡ words_of (drop (position_or_len not_blank text) text)
over_blanks [] = refl
over_blanks (x ∷ xs) =
    let h = over_blanks xs in
    let p = plain_blank x in
    let d = drop_one (position_or_len not_blank xs) x xs in grind arith

-- a word goes on to the first byte that ends it
to_end : (w text : List ℕ) → 0 < length w
    → words_after w text ≡ (w ++ before_first ends_word text) ∷ words_of (drop (position_or_len ends_word text) text)
to_end [] text l = absurd (omega arith)
to_end (c ∷ w) [] l = grind (arith, append-nil)
to_end (c ∷ w) (x ∷ xs) l =
    let h = to_end (c ∷ (w ++ x ∷ [])) xs (omega arith) in
    let d = drop_one (position_or_len ends_word xs) x xs in
    let t = take_one (position_or_len ends_word xs) x xs in grind (arith, append-nil, append_assoc)

-- only blanks are left
pub no_word : (rest : List ℕ) → None ≡ position not_blank rest → words_of rest ≡ []
no_word rest e =
    let l = prefix_len-le-length (λ x. not (not_blank x)) rest in
    let n : length rest ≤ position_or_len not_blank rest = grind arith in
    over_blanks rest ∙ ap words_of (drop_all (position_or_len not_blank rest) rest n)

-- a text that begins with no blank begins with a word, or a comment
front : (text : List ℕ) → 0 < length text → not_blank (get_or text 0 0) ≡ true
    → words_of text ≡ cond (eqb (position_or_len ends_word text) 0) [] (before_first ends_word text ∷ words_of (drop (position_or_len ends_word text) text))
front [] l h = absurd (omega arith)
front (x ∷ xs) l h =
    let e = to_end (x ∷ []) xs (omega arith) in
    let d = drop_one (position_or_len ends_word xs) x xs in
    let t = take_one (position_or_len ends_word xs) x xs in grind arith

-- what is left begins with a word, which goes on to its end, or with a comment
pub next_word : (rest text word left : List ℕ) (start end : ℕ) (stop : Option ℕ) → Some start ≡ position not_blank rest
    → text ≡ take (length rest - start) (drop start rest) → stop ≡ position ends_word text → end ≡ unwrap_or stop (length text)
    → word ≡ take end text → left ≡ drop end text
    → (length word ≡ 0 → (words_of rest ≡ []) × (words_of left ≡ [])) × (length word ≢ 0 → words_of rest ≡ word ∷ words_of left)
next_word rest text word left start end stop s t o e f b =
    let d : text ≡ drop start rest = t ∙ take_rest rest start in
    let p = position-Some not_blank rest start 0 (sym s) in
    let a : start ≡ position_or_len not_blank rest = grind arith in
    let same : words_of rest ≡ words_of text = over_blanks rest ∙ ap (λ (i : ℕ). words_of (drop i rest)) (sym a) ∙ ap words_of (sym d) in
    let first : get_or text 0 0 ≡ get_or rest start 0 = rw d (simp (get_or-drop, add-zero)) in
    let n : end ≡ position_or_len ends_word text = e ∙ ap (λ q. unwrap_or q (length text)) o ∙ first_place ends_word text in
    let l = prefix_len-le-length (λ x. not (ends_word x)) text in
    let w : length word ≡ end = ap length f ∙ length-take-le end text (omega arith) in
    let some : 0 < length text = omega (arith, ap length d, length-drop start rest, p.0) in
    let g = front text some (ap not_blank first ∙ p.1) in (
      (λ z. grind arith),
      (λ z. grind arith),
    )
