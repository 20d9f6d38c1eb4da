-- The arguments of a call: numbers and bytes, as a script writes them. No word is empty.
use Rattle.std.specs.Prelude.{ℕ, ◌+◌, ◌-◌, ◌*◌, min, Bool, cond, ◌&&◌, List, [], ◌∷◌, Some, None, Option, nat_le}
use Rattle.std.specs.Option.{option_map}
use Rattle.script.specs.Words.{same_word}

-- What a value leads to, where there is one.
abbrev pub given : {A B : Type 0} → Option A → (A → Option B) → Option B
given None f = None
given (Some x) f = f x

abbrev pub between : ℕ → ℕ → ℕ → Bool
between low c high = nat_le low c && nat_le c high

-- A decimal digit, 0 to 9.
abbrev pub digit : ℕ → Option ℕ
digit c = cond (between 48 c 57) (Some (c - 48)) None

-- A decimal number, where n has been read.
abbrev pub numeral : ℕ → List ℕ → Option ℕ
numeral n [] = Some n
numeral n (c ∷ cs) = given (digit c) (λ d. numeral (n * 10 + d) cs)

-- A number of any width. Above 65,536 all are the same: no question has an answer there, and no more than that is ever lent.
abbrev pub number_in : List ℕ → Option ℕ
number_in w = option_map (λ n. min n 65536) (numeral 0 w)

-- A hexadecimal digit: 0 to 9, a to f or A to F.
abbrev pub hex_digit : ℕ → Option ℕ
hex_digit c = cond (between 48 c 57) (Some (c - 48)) (cond (between 97 c 102) (Some (c - 87)) (cond (between 65 c 70) (Some (c - 55)) None))

-- A byte from its two digits.
abbrev pub hex_byte : ℕ → ℕ → Option ℕ
hex_byte h l = given (hex_digit h) (λ x. given (hex_digit l) (λ y. Some (x * 16 + y)))

abbrev pub hex_bytes : List ℕ → Option (List ℕ)
hex_bytes [] = Some []
hex_bytes (h ∷ []) = None
hex_bytes (h ∷ (l ∷ cs)) = given (hex_byte h l) (λ b. given (hex_bytes cs) (λ bs. Some (b ∷ bs)))

-- Bytes: two hexadecimal digits each, or the sign - for none.
abbrev pub bytes_in : List ℕ → Option (List ℕ)
bytes_in w = cond (same_word w (45 ∷ [])) (Some []) (hex_bytes w)

-- The arguments of a call that takes one word of bytes, one number, three numbers, or bytes and the length of a lent stack.
abbrev pub one_bytes : List (List ℕ) → Option (List ℕ)
one_bytes [] = None
one_bytes (w ∷ []) = bytes_in w
one_bytes (w ∷ (v ∷ ws)) = None

abbrev pub one_number : List (List ℕ) → Option ℕ
one_number [] = None
one_number (w ∷ []) = number_in w
one_number (w ∷ (v ∷ ws)) = None

abbrev pub three_numbers : List (List ℕ) → Option (ℕ × ℕ × ℕ)
three_numbers [] = None
three_numbers (u ∷ []) = None
three_numbers (u ∷ (v ∷ ws)) = given (number_in u) (λ k. given (number_in v) (λ a. given (one_number ws) (λ b. Some (k, a, b))))

-- The length of a lent stack; where none is given, it is long enough for every record.
abbrev pub room_in : List (List ℕ) → Option ℕ
room_in [] = Some 4096
room_in (w ∷ ws) = one_number (w ∷ ws)

abbrev pub bytes_and_room : List (List ℕ) → Option (List ℕ × ℕ)
bytes_and_room [] = None
bytes_and_room (w ∷ ws) = given (room_in ws) (λ room. given (bytes_in w) (λ bs. Some (bs, room)))
