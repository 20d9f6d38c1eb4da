-- The blocks of a table in memory.
use Rattle.std.proofs.Common.{◌≡◌, ℕ, ◌+◌, ◌*◌, ◌^◌, ◌<◌, ◌≤◌, cond, leb, [], length, take, drop, get_or, sym, ap, ◌∙◌, ap₂, arith, get_or-take}
use Rattle.std.proofs.lemmas.List.{get_or-drop, length-drop, length-take-le}
use Rattle.ruling.specs.KindLists.{Ranks}
use Rattle.ruling.specs.Written.{row, joined, block}
use Rattle.encoder.specs.declared.table_data.TableData.{TableData}
use Rattle.encoder.specs.Tables.{cell_place, kinds_held, table_meaning}
use Rattle.encoder.specs.Encodings.{table_blocks}
use Rattle.ruling.proofs.Rows.{grid_length, blocks_length, blocks_at}
use Rattle.encoder.proofs.Blocks.{block_grid, block_length}
use Rattle.encoder.proofs.Parts.{row_of}

module _ (t : TableData) (counted : length (kinds_held t) ≡ t.count) where
  pub held_rank : (k : ℕ) → k < t.count → get_or (kinds_held t) k 0 ≡ get_or t.ranks k 0
  held_rank k l = get_or-take t.count t.ranks k 0 l

  pub held_blocks : length (table_blocks t) ≡ t.count
  held_blocks = blocks_length t.states (kinds_held t) (table_meaning t).target ∙ counted

  pub held_block : (k : ℕ) → k < t.count → get_or (table_blocks t) k [] ≡ block t.states (get_or t.ranks k 0) ((table_meaning t).target k)
  held_block k l = blocks_at t.states (kinds_held t) (table_meaning t).target k (omega arith)
      ∙ ap (λ r. block t.states r ((table_meaning t).target k)) (held_rank k l)

  pub rank_few : Ranks (kinds_held t) → (k : ℕ) → k < t.count → get_or t.ranks k 0 ≤ 2
  rank_few h k l = let e = held_rank k l in let w = h k (omega arith) in omega arith

  pub block_cells : Ranks (kinds_held t) → (k : ℕ) → k < t.count → length (get_or (table_blocks t) k []) ≡ t.states ^ get_or t.ranks k 0
  block_cells h k l = ap length (held_block k l) ∙ block_length t.states (get_or t.ranks k 0) ((table_meaning t).target k) (rank_few h k l)

  -- the block of a kind, row by row
  module _ (h : Ranks (kinds_held t)) (k p q : ℕ) (l : k < t.count)
      (e : p ≡ cond (leb 1 (get_or t.ranks k 0)) t.states 1) (g : q ≡ cond (leb 2 (get_or t.ranks k 0)) t.states 1) where
    pub block_rows : joined (row p (λ a. row q (λ b. (table_meaning t).target k a b))) ≡ get_or (table_blocks t) k []
    block_rows = ap₂ (λ x y. joined (row x (λ a. row y (λ b. (table_meaning t).target k a b)))) e g
        ∙ (block_grid t.states (get_or t.ranks k 0) ((table_meaning t).target k) (rank_few h k l) ∙ sym (held_block k l))

    pub block_size : p * q ≡ length (get_or (table_blocks t) k [])
    block_size = sym (grid_length p q ((table_meaning t).target k)) ∙ ap length block_rows

  -- the cells of a kind with one first child
  pub held_row : (k a at q w : ℕ) → at ≡ cell_place k a 0 → w ≡ q → at + q ≤ length t.cells
      → take w (drop at t.cells) ≡ row q (λ b. (table_meaning t).target k a b)
  held_row k a at q w e g l = row_of q _ _ (omega (arith, length-take-le w (drop at t.cells), length-drop at t.cells))
      (λ b u. get_or-take w (drop at t.cells) b 0 (omega arith) ∙ (get_or-drop at t.cells b 0 ∙ ap (λ j. get_or t.cells j 0) (omega arith)))
