-- Reading the parts of a file whose head is right.
use Rattle.std.proofs.Common.{◌≡◌, ℕ, suc, ◌+◌, ◌-◌, ◌<◌, ◌≤◌, cond, List, length, Some, None, Option, sym, ap, ◌∙◌, add-one, arith, le-ltb}
use Rattle.std.specs.Option.{option_map}
use Rattle.ruling.specs.declared.refusal.Refusal.{Refusal}
use Rattle.ruling.specs.declared.refusal.Refusal.TheVariants.{TableDirectory, TableByte}
use Rattle.ruling.specs.Checks.{lowest, first}
use Rattle.table.specs.TableFiles.{byte_at, states_in, offset_at, length_at, pair_fault, pairs_fault, wrong_cell, cells_fault}
use Rattle.table.specs.Faults.{decides}

-- loops over the kinds: what is left decides
left : (c k : ℕ) → k < c → c - k ≡ suc (c - (k + 1))
left c k l = omega arith

module _ (f : List ℕ) (from k c : ℕ) (l : k < c) where
  pairs_split : pairs_fault f from k (c - k) ≡ first (pair_fault f from k) (pairs_fault f (offset_at f k + length_at f k) (k + 1) (c - (k + 1)))
  pairs_split = ap (pairs_fault f from k) (left c k l)
      ∙ ap (λ j. first (pair_fault f from k) (pairs_fault f (offset_at f k + length_at f k) j (c - (k + 1)))) (sym (add-one k))

  pub pairs_on : (to : ℕ) → pair_fault f from k ≡ None → to ≡ offset_at f k + length_at f k
      → pairs_fault f to (k + 1) (c - (k + 1)) ≡ pairs_fault f from k (c - k)
  pairs_on to p e = ap (λ x. pairs_fault f x (k + 1) (c - (k + 1))) e
      ∙ (sym (ap (λ o. first o (pairs_fault f (offset_at f k + length_at f k) (k + 1) (c - (k + 1)))) p) ∙ sym pairs_split)

  pub pairs_stop : (x : Refusal) → pair_fault f from k ≡ Some x → pairs_fault f from k (c - k) ≡ Some x
  pairs_stop x p = pairs_split ∙ decides (pair_fault f from k) _ x p

-- the fault of one kind's cells
abbrev pub block_fault : List ℕ → ℕ → Option Refusal
block_fault f k = option_map (λ p. TableByte p) (lowest (λ p. wrong_cell (states_in f) (byte_at f p)) (offset_at f k) (length_at f k))

module _ (f : List ℕ) (k c : ℕ) (l : k < c) where
  cells_split : cells_fault f k (c - k) ≡ first (block_fault f k) (cells_fault f (k + 1) (c - (k + 1)))
  cells_split = ap (cells_fault f k) (left c k l) ∙ ap (λ j. first (block_fault f k) (cells_fault f j (c - (k + 1)))) (sym (add-one k))

  pub cells_on : block_fault f k ≡ None → cells_fault f (k + 1) (c - (k + 1)) ≡ cells_fault f k (c - k)
  cells_on p = sym (ap (λ o. first o (cells_fault f (k + 1) (c - (k + 1)))) p) ∙ sym cells_split

  pub cells_stop : (x : Refusal) → block_fault f k ≡ Some x → cells_fault f k (c - k) ≡ Some x
  cells_stop x p = cells_split ∙ decides (block_fault f k) _ x p

-- no kind is left
none_left : (c k : ℕ) → c ≤ k → c - k ≡ 0
none_left c k l = omega arith

pub pairs_done : (f : List ℕ) (from k c : ℕ) → c ≤ k → length f ≤ from → pairs_fault f from k (c - k) ≡ None
pairs_done f from k c l u = ap (pairs_fault f from k) (none_left c k l) ∙ ap (λ b. cond b (Some (TableDirectory from)) None) (le-ltb from (length f) u)
