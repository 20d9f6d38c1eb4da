-- Reading a record from its bytes, under a kind list.
use Rattle.std.specs.Prelude.{◌≡◌, ℕ, zero, suc, ◌≤◌, cond, List, [], ◌∷◌, length, Some, None, Ok, Err, Option, Result, nat_le, nat_lt, slice_index}
use Rattle.std.specs.Result.{result_unwrap_or}
use Rattle.ruling.specs.declared.refusal.Refusal.{Refusal}
use Rattle.ruling.specs.declared.refusal.Refusal.TheVariants.{RecordLength, NoKind, TooFewParts, SeveralParts}
use Rattle.ruling.specs.Checks.{unless}
use Rattle.ruling.specs.Trees.{Tree, leaf, stem, fork, Over, postorder, node_count}

-- A node of rank r and kind b, read at place `at`, takes its children from the parts that stand, the last part first.
abbrev pub closed : ℕ → ℕ → ℕ → List Tree → Result (List Tree) Refusal
closed zero b at parts = Ok (leaf b ∷ parts)
closed (suc zero) b at [] = Err (TooFewParts at)
closed (suc zero) b at (t ∷ parts) = Ok (stem b t ∷ parts)
closed (suc (suc zero)) b at [] = Err (TooFewParts at)
closed (suc (suc zero)) b at (u ∷ []) = Err (TooFewParts at)
closed (suc (suc zero)) b at (u ∷ (t ∷ parts)) = Ok (fork b t u ∷ parts)
closed (suc (suc (suc r))) b at parts = Err (TooFewParts at)

-- The parts that stand after the byte b at place `at`: 9, then 10.
abbrev pub node_read : List ℕ → ℕ → List Tree → ℕ → Result (List Tree) Refusal
node_read ks at parts b = cond (nat_lt b (length ks)) (closed (slice_index ks b) b at parts) (Err (NoKind at))

-- The record that stands at the end, at place `at`: 11 where it is not alone.
abbrev pub ended : ℕ → List Tree → Result Tree Refusal
ended at [] = Err (SeveralParts at)
ended at (t ∷ []) = Ok t
ended at (t ∷ (u ∷ parts)) = Err (SeveralParts at)

abbrev pub after : {A B : Type 0} → Result A Refusal → (A → Result B Refusal) → Result B Refusal
after (Ok x) f = f x
after (Err e) f = Err e

-- The bytes from place `at` on are read, byte by byte, where these parts stand.
abbrev pub read_from : List ℕ → ℕ → List Tree → List ℕ → Result Tree Refusal
read_from ks at parts [] = ended at parts
read_from ks at parts (b ∷ bs) = after (node_read ks at parts b) (λ next. read_from ks (suc at) next bs)

-- Fault 8: n bytes are none, or more than the limit.
abbrev pub length_fault : ℕ → ℕ → Option Refusal
length_fault n limit = cond (nat_lt 0 n) (cond (nat_le n limit) None (Some (RecordLength limit))) (Some (RecordLength 0))

-- The record in these bytes, or the first fault: 8, then byte by byte 9 and 10, then 11.
abbrev pub read_record : List ℕ → ℕ → List ℕ → Result Tree Refusal
read_record ks limit bytes = unless (length_fault (length bytes) limit) (read_from ks 0 [] bytes)

abbrev pub fault_in : {A : Type 0} → Result A Refusal → Option Refusal
fault_in (Ok x) = None
fault_in (Err e) = Some e

-- The bytes are the postorder of one record over the kinds, of at most `limit` nodes, and of no other.
pub record OneRecord (ks : List ℕ) (limit : ℕ) (bytes : List ℕ) : Type 0 where
  pub tree : Tree
  pub over : Over ks tree
  pub written : postorder tree ≡ bytes
  pub few : node_count tree ≤ limit
  pub only : (t : Tree) → Over ks t → postorder t ≡ bytes → t ≡ tree

-- The record in these bytes, of at most 4,096 nodes; a leaf where there is none.
abbrev pub tree_in : List ℕ → List ℕ → Tree
tree_in ks bytes = result_unwrap_or (read_record ks 4096 bytes) (leaf 0)
