-- The words of a script's line.
use Rattle.std.specs.Prelude.{ℕ, Bool, not, cond, ◌||◌, List, [], ◌∷◌, ◌++◌, ◌==◌}
use Rattle.std.specs.Str.{bytes_eq}

-- Space, tab, line feed and carriage return are blank.
abbrev pub is_blank : ℕ → Bool
is_blank c = c == 32 || (c == 9 || (c == 10 || c == 13))

-- What follows the sign # is a comment.
abbrev pub is_comment : ℕ → Bool
is_comment c = c == 35

-- Blanks stand before a word; it ends before a blank or a comment.
abbrev pub not_blank : ℕ → Bool
not_blank c = not (is_blank c)

abbrev pub ends_word : ℕ → Bool
ends_word c = is_blank c || is_comment c

-- A word that ends before these words; no word is empty.
abbrev pub ended : List ℕ → List (List ℕ) → List (List ℕ)
ended [] ws = ws
ended (c ∷ cs) ws = (c ∷ cs) ∷ ws

-- The words of a text, where w is the front of its first word.
abbrev pub words_after : List ℕ → List ℕ → List (List ℕ)
words_after w [] = ended w []
words_after w (c ∷ cs) = cond (is_comment c) (ended w []) (cond (is_blank c) (ended w (words_after [] cs)) (words_after (w ++ (c ∷ [])) cs))

-- The words of a line: what stands between blanks, up to the comment.
abbrev pub words_of : List ℕ → List (List ℕ)
words_of line = words_after [] line

-- Two words are the same.
abbrev pub same_word : List ℕ → List ℕ → Bool
same_word = bytes_eq
