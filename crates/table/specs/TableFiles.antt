-- The table file, byte by byte: what its parts are, when bytes are a table file, and its first fault.
use Rattle.std.specs.Prelude.{◌≡◌, ℕ, zero, suc, ◌+◌, ◌*◌, ◌^◌, ◌<◌, ◌≤◌, Bool, true, false, cond, not, ◌&&◌, ◌||◌, ◌⊎◌, List, length, take, drop, is_some, Some, None, Option, ◌==◌, nat_eq, nat_le, nat_lt, slice_index}
use Rattle.std.specs.Option.{option_map}
use Rattle.ruling.specs.declared.refusal.Refusal.{Refusal}
use Rattle.ruling.specs.declared.refusal.Refusal.TheVariants.{TableHead, TableDirectory, TableByte}
use Rattle.ruling.specs.Checks.{lowest, first}
use Rattle.ruling.specs.KindLists.{Ranks, has_leaf, rank_fault, leaf_fault}
use Rattle.ruling.specs.Written.{body_at}
use Rattle.ruling.specs.Meanings.{Meaning}

abbrev pub byte_at : List ℕ → ℕ → ℕ
byte_at f i = slice_index f i

-- n, the number of states that the file writes, and k, its number of kinds
abbrev pub states_in : List ℕ → ℕ
states_in f = byte_at f 1

abbrev pub kind_count_in : List ℕ → ℕ
kind_count_in f = byte_at f 2

-- the ranks, one byte a kind, follow the first four bytes
abbrev pub ranks_in : List ℕ → List ℕ
ranks_in f = take (kind_count_in f) (drop 4 f)

abbrev pub rank_at : List ℕ → ℕ → ℕ
rank_at f k = slice_index (ranks_in f) k

-- then the marks, one byte a state
abbrev pub mark_place : List ℕ → ℕ → ℕ
mark_place f s = 4 + kind_count_in f + s

-- then the directory, a pair for each kind: offset and length of its block, each in two bytes, low byte first
abbrev pub pair_place : List ℕ → ℕ → ℕ
pair_place f k = 4 + kind_count_in f + states_in f + 4 * k

abbrev pub word_at : List ℕ → ℕ → ℕ
word_at f p = byte_at f p + 256 * byte_at f (p + 1)

abbrev pub offset_at : List ℕ → ℕ → ℕ
offset_at f k = word_at f (pair_place f k)

abbrev pub length_at : List ℕ → ℕ → ℕ
length_at f k = word_at f (pair_place f k + 2)

-- the place of a cell within its block; of rank 2 it is a × n + b
abbrev pub cell_number : ℕ → ℕ → ℕ → ℕ → ℕ
cell_number n zero a b = 0
cell_number n (suc zero) a b = a
cell_number n (suc (suc r)) a b = a * n + b

abbrev pub cell_at : List ℕ → ℕ → ℕ → ℕ → ℕ
cell_at f k a b = byte_at f (offset_at f k + cell_number (states_in f) (rank_at f k) a b)

-- The bytes are a table file.
pub record TableFile (f : List ℕ) : Type 0 where
  pub size : length f ≤ 65535
  pub edition : byte_at f 0 ≡ 1
  pub states : (1 ≤ states_in f) × (states_in f ≤ 32)
  pub kinds : (1 ≤ kind_count_in f) × (kind_count_in f ≤ 16)
  pub zero_byte : byte_at f 3 ≡ 0
  pub whole : body_at (states_in f) (kind_count_in f) ≤ length f
  pub ranks : Ranks (ranks_in f)
  pub leaf : has_leaf (ranks_in f) ≡ true
  pub marks : (s : ℕ) → s < states_in f → byte_at f (mark_place f s) ≤ 1
  -- the first block starts at 4 + 5k + n or later, each other at the end of the one before or later
  pub begins : body_at (states_in f) (kind_count_in f) ≤ offset_at f 0
  pub follows : (k : ℕ) → suc k < kind_count_in f → offset_at f k + length_at f k ≤ offset_at f (suc k)
  -- a block has n to the power of its rank cells
  pub lengths : (k : ℕ) → k < kind_count_in f → length_at f k ≡ states_in f ^ rank_at f k
  -- the file ends where the last block ends
  pub ends : (k : ℕ) → suc k ≡ kind_count_in f → offset_at f k + length_at f k ≡ length f
  -- a cell is a state below n, or 255 for a missing rule
  pub cells : (k c : ℕ) → k < kind_count_in f → c < length_at f k → (byte_at f (offset_at f k + c) < states_in f) ⊎ (byte_at f (offset_at f k + c) ≡ 255)

-- Fault 4: too long, too short, the four bytes, and the length again.
abbrev pub head_fault : List ℕ → Option Refusal
head_fault f = cond (nat_lt 65535 (length f)) (Some (TableHead 65535))
    (cond (nat_lt (length f) 4) (Some (TableHead (length f)))
    (cond (not (byte_at f 0 == 1)) (Some (TableHead 0))
    (cond (not (nat_le 1 (states_in f) && nat_le (states_in f) 32)) (Some (TableHead 1))
    (cond (not (nat_le 1 (kind_count_in f) && nat_le (kind_count_in f) 16)) (Some (TableHead 2))
    (cond (not (byte_at f 3 == 0)) (Some (TableHead 3))
    (cond (nat_lt (length f) (body_at (states_in f) (kind_count_in f))) (Some (TableHead (length f))) None))))))

-- Fault 6 among the marks: the first that is neither 0 nor 1.
abbrev pub mark_fault : List ℕ → Option Refusal
mark_fault f = option_map (λ p. TableByte p) (lowest (λ p. nat_lt 1 (byte_at f p)) (mark_place f 0) (states_in f))

-- Fault 5 of one pair, where the block before ends at `from`: offset, length, end of file.
abbrev pub pair_fault : List ℕ → ℕ → ℕ → Option Refusal
pair_fault f from k = cond (nat_lt (offset_at f k) from) (Some (TableDirectory (pair_place f k)))
    (cond (not (length_at f k == states_in f ^ rank_at f k)) (Some (TableDirectory (pair_place f k + 2)))
    (cond (nat_lt (length f) (offset_at f k + length_at f k)) (Some (TableDirectory (pair_place f k))) None))

-- Fault 5 of the c pairs from pair k on; after the last, bytes that follow the block's end.
abbrev pub pairs_fault : List ℕ → ℕ → ℕ → ℕ → Option Refusal
pairs_fault f from k zero = cond (nat_lt from (length f)) (Some (TableDirectory from)) None
pairs_fault f from k (suc c) = first (pair_fault f from k) (pairs_fault f (offset_at f k + length_at f k) (suc k) c)

abbrev pub directory_fault : List ℕ → Option Refusal
directory_fault f = pairs_fault f (body_at (states_in f) (kind_count_in f)) 0 (kind_count_in f)

-- Fault 6 among the cells of the c kinds from kind k on: the first that is neither a state nor 255.
abbrev pub wrong_cell : ℕ → ℕ → Bool
wrong_cell n x = nat_le n x && not (x == 255)

abbrev pub cells_fault : List ℕ → ℕ → ℕ → Option Refusal
cells_fault f k zero = None
cells_fault f k (suc c) = first (option_map (λ p. TableByte p) (lowest (λ p. wrong_cell (states_in f) (byte_at f p)) (offset_at f k) (length_at f k)))
    (cells_fault f (suc k) c)

-- The first fault of a table file: 4, 2, 3, marks, 5, cells.
abbrev pub table_fault : List ℕ → Option Refusal
table_fault f = first (head_fault f) (first (rank_fault (ranks_in f)) (first (leaf_fault (ranks_in f))
    (first (mark_fault f) (first (directory_fault f) (cells_fault f 0 (kind_count_in f))))))

-- Some cell of the c kinds from kind k on is 255, a missing rule.
abbrev pub missing_from : List ℕ → ℕ → ℕ → Bool
missing_from f k zero = false
missing_from f k (suc c) = is_some (lowest (λ p. nat_eq (byte_at f p) 255) (offset_at f k) (length_at f k)) || missing_from f (suc k) c

abbrev pub missing : List ℕ → Bool
missing f = missing_from f 0 (kind_count_in f)

-- Where missing rules lead: a state after those that the file writes.
abbrev pub dead_in : List ℕ → ℕ
dead_in f = states_in f

-- Where a cell leads.
abbrev pub led : ℕ → ℕ → ℕ
led dead x = cond (x == 255) dead x

-- What a table file means: n states, or n + 1 where a rule is missing. Missing rules lead to state n, which is marked no,
-- and every argument list that holds n leads to n.
abbrev pub file_meaning : List ℕ → Meaning
file_meaning f = record {
  kinds = ranks_in f;
  states = cond (missing f) (suc (states_in f)) (states_in f);
  target = λ k a b. cond (nat_le (states_in f) a || nat_le (states_in f) b) (dead_in f) (led (dead_in f) (cell_at f k a b));
  mark = λ s. nat_lt s (states_in f) && (byte_at f (mark_place f s) == 1);
}
