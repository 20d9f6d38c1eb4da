-- Numbers and bytes, digit by digit.
use Rattle.std.proofs.Common.{◌≡◌, ℕ, ◌+◌, ◌*◌, ◌<◌, ◌≤◌, min, Bool, true, cond, List, [], ◌∷◌, ◌++◌, length, get_or, drop, Some, None, Option, sym, refl, ap, ◌∙◌, append_assoc, inl, inr, arith}
use Rattle.std.proofs.lemmas.Bool.{cases_lt}
use native.Mathlib.Nat.{min-eq_left, min-eq_right}
use Rattle.std.specs.Char.{digit_value, IsDigitOf, NotDecimalDigitIn}
use Rattle.std.specs.Option.{option_map, SomeIff, MatchOption}
use Rattle.std.proofs.lemmas.List.{drop_more}
use Rattle.script.specs.Arguments.{given, between, digit, hex_digit, numeral, hex_byte, hex_bytes}

-- what the library reads as a digit is one
pub digit_is : (c : ℕ) (r : Option ℕ) → SomeIff r (digit_value c < 10) (digit_value c) → r ≡ digit c
digit_is c None h = grind arith
digit_is c (Some d) h = grind arith

hex_some : (c d : ℕ) → d < 16 → IsDigitOf c d → hex_digit c ≡ Some d
hex_some c d l (inl k) = grind arith
hex_some c d l (inr (inl k)) = grind arith
hex_some c d l (inr (inr k)) = grind arith

-- a byte between the ends of one of these rows is a digit
value_figure : (c : ℕ) → between 48 c 57 ≡ true → digit_value c < 16
value_figure c h = grind arith

value_small : (c : ℕ) → between 97 c 102 ≡ true → digit_value c < 16
value_small c h = grind arith

value_capital : (c : ℕ) → between 65 c 70 ≡ true → digit_value c < 16
value_capital c h = grind arith

none_of : (v x y z : ℕ) (a b d : Bool) → (v < 16 → ⊥) → (a ≡ true → v < 16) → (b ≡ true → v < 16) → (d ≡ true → v < 16)
    → None ≡ cond a (Some x) (cond b (Some y) (cond d (Some z) None))
none_of v x y z a b d n p q r = grind arith

pub hex_digit_is : (c : ℕ) (r : Option ℕ) → SomeIff r (digit_value c < 16) (digit_value c) → MatchOption r (NotDecimalDigitIn 16 c) (IsDigitOf c) → r ≡ hex_digit c
hex_digit_is c None h k = none_of (digit_value c) _ _ _ _ _ _ h (value_figure c) (value_small c) (value_capital c)
hex_digit_is c (Some d) h k = sym (hex_some c d (omega arith) k)

abbrev capped : ℕ → ℕ
capped n = min n 65536

-- above the widest number all are read alike
wide : (n : ℕ) (cs : List ℕ) → 65536 ≤ n → option_map capped (numeral n cs) ≡ option_map capped (numeral 65536 cs)
wide n [] h = ap (λ (x : ℕ). Some x) (min-eq_right h)
wide n (c ∷ cs) h = go (digit c) (λ d. wide (n * 10 + d) cs (omega arith)) (λ d. wide (655360 + d) cs (omega arith))
  where
    go : (o : Option ℕ) → ((d : ℕ) → option_map capped (numeral (n * 10 + d) cs) ≡ option_map capped (numeral 65536 cs))
        → ((d : ℕ) → option_map capped (numeral (655360 + d) cs) ≡ option_map capped (numeral 65536 cs))
        → option_map capped (given o (λ d. numeral (n * 10 + d) cs)) ≡ option_map capped (given o (λ d. numeral (655360 + d) cs))
    go None p q = refl
    go (Some d) p q = p d ∙ sym (q d)

pub cap_read : (n : ℕ) (cs : List ℕ) → option_map capped (numeral n cs) ≡ option_map capped (numeral (capped n) cs)
cap_read n cs =
    elim (cases_lt n 65536) [
      | inl l ↦ ap (λ (x : ℕ). option_map capped (numeral x cs)) (sym (min-eq_left (omega arith)))
      | inr l ↦ wide n cs l ∙ ap (λ (x : ℕ). option_map capped (numeral x cs)) (sym (min-eq_right l))
    ]

-- one digit more, or a byte that is none
pub digit_more : (word : List ℕ) (i n : ℕ) (o : Option ℕ) → i < length word → digit (get_or word i 0) ≡ o
    → numeral n (drop i word) ≡ given o (λ d. numeral (n * 10 + d) (drop (i + 1) word))
digit_more word i n o l e = ap (numeral n) (drop_more word i 0 l) ∙ ap (λ x. given x (λ d. numeral (n * 10 + d) (drop (i + 1) word))) e

-- these bytes before those
abbrev pub onto : List ℕ → Option (List ℕ) → Option (List ℕ)
onto xs None = None
onto xs (Some ys) = Some (xs ++ ys)

pub onto_more : (xs : List ℕ) (b : ℕ) (o : Option (List ℕ)) → onto xs (given o (λ bs. Some (b ∷ bs))) ≡ onto (xs ++ (b ∷ [])) o
onto_more xs b None = refl
onto_more xs b (Some ys) = ap (λ (zs : List ℕ). Some zs) (sym (append_assoc xs (b ∷ []) ys))

-- a pair of digits more
pub pair_more : (left pair rest : List ℕ) → left ≡ pair ++ rest → length pair ≡ 2
    → hex_bytes left ≡ given (hex_byte (get_or pair 0 0) (get_or pair 1 0)) (λ b. given (hex_bytes rest) (λ bs. Some (b ∷ bs)))
pair_more left [] rest e l = absurd (omega arith)
pair_more left (h ∷ []) rest e l = absurd (omega arith)
pair_more left (h ∷ (k ∷ [])) rest e l = ap hex_bytes e
pair_more left (h ∷ (k ∷ (x ∷ xs))) rest e l = absurd (omega arith)
