-- The parts of a table's file: their lengths, and what is read where.
use Rattle.std.proofs.Common.{◌≡◌, ℕ, zero, suc, ◌+◌, ◌-◌, ◌*◌, ◌^◌, ◌<◌, ◌≤◌, Bool, true, false, cond, ◌&&◌, eqb, leb, List, [], ◌++◌, length, get_or, take, is_some, sym, refl, ap, ◌∙◌, subst, ap₂, inl, add-one, arith, length-append, lt-ltb, ne_eqb}
use lib.Seq.{take-append_seam}
use borrow.Author.Tests.{lt-leb}
use Rattle.std.proofs.lemmas.List.{get_or_append_left, get_or-append-add, take_all}
use Rattle.std.proofs.lemmas.Bool.{or_from}
use Rattle.ruling.specs.KindLists.{Ranks, has_leaf}
use Rattle.ruling.specs.Meanings.{Meaning, Fits}
use Rattle.ruling.proofs.Lowest.{lowest_none}
use Rattle.ruling.proofs.Rows.{row_length, row_at, blocks_length, blocks_at, directory_length, mark_told}
use Rattle.ruling.specs.ReducedTables.{Equal}
use Rattle.ruling.specs.Written.{row, joined, blocks, directory, mark_byte, body_at, file}
use Rattle.table.specs.TableFiles.{byte_at, ranks_in, rank_at, mark_place, pair_place, offset_at, length_at, cell_number, cell_at, TableFile, missing_from, missing, led, file_meaning}
use Rattle.encoder.specs.Encodings.{Tabled, FilesRead}
use Rattle.table.specs.Faults.{file_faultless}
use Rattle.table.specs.FileRuled.{fits_kind, fits_below, cell_inside, power_few}
use Rattle.encoder.proofs.Blocks.{block_length, block_at, block_below, joined_take, joined_at, joined_few, past_four, pair_offset, pair_length}

-- the blocks of a meaning, its marks and its directory
abbrev pub blocks_of : Meaning → List (List ℕ)
blocks_of m = blocks m.states m.kinds m.target

abbrev pub marks_of : Meaning → List ℕ
marks_of m = row m.states (λ s. mark_byte (m.mark s))

abbrev pub pairs_of : Meaning → List ℕ
pairs_of m = directory (body_at m.states (length m.kinds)) (blocks_of m)

pub file_length : (m : Meaning) → length (file m) ≡ body_at m.states (length m.kinds) + length (joined (blocks_of m))
file_length m =
    let a = length-append m.kinds (marks_of m ++ (pairs_of m ++ joined (blocks_of m))) in
    let b = length-append (marks_of m) (pairs_of m ++ joined (blocks_of m)) in
    let c = length-append (pairs_of m) (joined (blocks_of m)) in
    let d = row_length m.states (λ s. mark_byte (m.mark s)) in
    let e = directory_length (body_at m.states (length m.kinds)) (blocks_of m) in
    let f = blocks_length m.states m.kinds m.target in
    omega arith

-- the ranks
pub ranks_read : (m : Meaning) → ranks_in (file m) ≡ m.kinds
ranks_read m = take-append_seam m.kinds (marks_of m ++ (pairs_of m ++ joined (blocks_of m)))

-- past the head and the ranks
past_ranks : (m : Meaning) (p i : ℕ) → p ≡ 4 + length m.kinds + i → byte_at (file m) p ≡ get_or (marks_of m ++ (pairs_of m ++ joined (blocks_of m))) i 0
past_ranks m p i e =
    past_four 1 m.states (length m.kinds) 0 (m.kinds ++ (marks_of m ++ (pairs_of m ++ joined (blocks_of m)))) p (length m.kinds + i) (omega arith)
    ∙ get_or-append-add m.kinds (marks_of m ++ (pairs_of m ++ joined (blocks_of m))) i 0

pub mark_read : (m : Meaning) (s : ℕ) → s < m.states → byte_at (file m) (mark_place (file m) s) ≡ mark_byte (m.mark s)
mark_read m s l =
    let w = row_length m.states (λ s. mark_byte (m.mark s)) in
    past_ranks m (mark_place (file m) s) s refl
    ∙ (get_or_append_left (marks_of m) (pairs_of m ++ joined (blocks_of m)) 0 s (omega arith) ∙ row_at m.states (λ s. mark_byte (m.mark s)) s 0 l)

-- past the marks
past_marks : (m : Meaning) (p i : ℕ) → p ≡ 4 + length m.kinds + m.states + i → byte_at (file m) p ≡ get_or (pairs_of m ++ joined (blocks_of m)) i 0
past_marks m p i e =
    let w = row_length m.states (λ s. mark_byte (m.mark s)) in
    past_ranks m p (length (marks_of m) + i) (omega arith) ∙ get_or-append-add (marks_of m) (pairs_of m ++ joined (blocks_of m)) i 0

pairs_size : (m : Meaning) → length (pairs_of m) ≡ 4 * length m.kinds
pairs_size m =
    let a = directory_length (body_at m.states (length m.kinds)) (blocks_of m) in
    let b = blocks_length m.states m.kinds m.target in omega arith

pair_byte : (m : Meaning) (p i : ℕ) → i < 4 * length m.kinds → p ≡ 4 + length m.kinds + m.states + i → byte_at (file m) p ≡ get_or (pairs_of m) i 0
pair_byte m p i l e = let w = pairs_size m in past_marks m p i e ∙ get_or_append_left (pairs_of m) (joined (blocks_of m)) 0 i (omega arith)

pub offset_read : (m : Meaning) (k : ℕ) → k < length m.kinds
    → offset_at (file m) k ≡ body_at m.states (length m.kinds) + length (joined (take k (blocks_of m)))
offset_read m k l =
    let b = blocks_length m.states m.kinds m.target in
    let x = pair_byte m (pair_place (file m) k) (4 * k) (omega arith) refl in
    let y = pair_byte m (pair_place (file m) k + 1) (4 * k + 1) (omega arith) (omega arith) in
    let z = pair_offset (body_at m.states (length m.kinds)) (blocks_of m) k (omega arith) in omega arith

pub length_read : (m : Meaning) (k : ℕ) → k < length m.kinds → length_at (file m) k ≡ length (get_or (blocks_of m) k [])
length_read m k l =
    let b = blocks_length m.states m.kinds m.target in
    let x = pair_byte m (pair_place (file m) k + 2) (4 * k + 2) (omega arith) (omega arith) in
    let y = pair_byte m (pair_place (file m) k + 2 + 1) (4 * k + 2 + 1) (omega arith) (omega arith) in
    let z = pair_length (body_at m.states (length m.kinds)) (blocks_of m) k (omega arith) in omega arith

pub cell_read : (m : Meaning) (k c : ℕ) → k < length m.kinds → c < length (get_or (blocks_of m) k [])
    → byte_at (file m) (offset_at (file m) k + c) ≡ get_or (get_or (blocks_of m) k []) c 0
cell_read m k c l u =
    let b = blocks_length m.states m.kinds m.target in
    let o = offset_read m k l in
    let w = pairs_size m in
    past_marks m (offset_at (file m) k + c) (length (pairs_of m) + (length (joined (take k (blocks_of m))) + c)) (omega arith)
    ∙ (get_or-append-add (pairs_of m) (joined (blocks_of m)) (length (joined (take k (blocks_of m))) + c) 0 ∙ joined_at (blocks_of m) k c (omega arith) u)

module _ (m : Meaning) (t : Tabled m) where
  rank_small : (k : ℕ) → k < length m.kinds → get_or m.kinds k 0 ≤ 2
  rank_small k l = t.list.2 k l

  -- a block has n to the power of its rank cells
  block_size : (k : ℕ) → k < length m.kinds → length (get_or (blocks_of m) k []) ≡ m.states ^ get_or m.kinds k 0
  block_size k l = ap length (blocks_at m.states m.kinds m.target k l) ∙ block_length m.states (get_or m.kinds k 0) (m.target k) (rank_small k l)

  -- each is a state
  cell_below : (k c : ℕ) → k < length m.kinds → c < length (get_or (blocks_of m) k []) → get_or (get_or (blocks_of m) k []) c 0 < m.states
  cell_below k c l u =
      let e = blocks_at m.states m.kinds m.target k l in
      subst (λ xs. get_or xs c 0 < m.states) (sym e)
      (block_below m.kinds m.states k c (m.target k) l (λ a b w. t.complete k a b w) (get_or m.kinds k 0) refl (subst (λ xs. c < length xs) e u))

  pub all_length : length (joined (blocks_of m)) ≤ 1024 * length m.kinds
  all_length =
      let b = blocks_length m.states m.kinds m.target in
      let w = joined_few (blocks_of m) 1024 (λ j l. let v : j < length m.kinds = omega arith in
      let s = block_size j v in let p = power_few m.states (get_or m.kinds j 0) t.few (rank_small j v) in omega arith) in omega arith

  byte_below : (k c : ℕ) → k < length m.kinds → c < length_at (file m) k → byte_at (file m) (offset_at (file m) k + c) < m.states
  byte_below k c l u =
      let n = length_read m k l in
      let e = cell_read m k c l (omega arith) in
      let w = cell_below k c l (omega arith) in omega arith

  pub table_file : TableFile (file m)
  table_file =
      let b = blocks_length m.states m.kinds m.target in
      let f = file_length m in
      let a = all_length in
      record {
        size = omega (arith, t.list.1, t.few);
        edition = refl;
        states = (t.some, t.few);
        kinds = (t.list.0, t.list.1);
        zero_byte = refl;
        whole = omega arith;
        ranks = subst Ranks (sym (ranks_read m)) t.list.2;
        leaf = subst (λ ks. has_leaf ks ≡ true) (sym (ranks_read m)) t.leaf;
        marks = λ s l. subst (λ x. x ≤ 1) (sym (mark_read m s l)) (mark_small (m.mark s));
        begins = omega (arith, offset_read m 0 t.list.0);
        follows = λ k l. let n : k < length m.kinds = omega arith in
            let j = ap length (joined_suc k (omega arith)) ∙ length-append (joined (take k (blocks_of m))) (get_or (blocks_of m) k []) in
            omega (arith, offset_read m k n, length_read m k n, offset_read m (suc k) l, j);
        lengths = λ k l. length_read m k l ∙ (block_size k l ∙ ap (λ r. m.states ^ r) (sym (ap (λ ks. get_or ks k 0) (ranks_read m))));
        ends = λ k l. let n : k < length m.kinds = omega arith in
            let j = ap length (joined_suc k (omega arith)) ∙ length-append (joined (take k (blocks_of m))) (get_or (blocks_of m) k []) in
            let w = ap (λ bs. length (joined bs)) (take_all (suc k) (blocks_of m) (omega arith)) in
            omega (arith, offset_read m k n, length_read m k n, j, w);
        cells = λ k c l u. inl (byte_below k c l u);
      }
    where
      mark_small : (b : Bool) → mark_byte b ≤ 1
      mark_small true = omega arith
      mark_small false = omega arith

      joined_suc : (k : ℕ) → k < length (blocks_of m) → joined (take (suc k) (blocks_of m)) ≡ joined (take k (blocks_of m)) ++ get_or (blocks_of m) k []
      joined_suc k l = ap (λ i. joined (take i (blocks_of m))) (sym (add-one k)) ∙ joined_take (blocks_of m) k l

-- no cell is 255
not_missing : (f : List ℕ) (k c : ℕ) → ((j p : ℕ) → k ≤ j → j < k + c → offset_at f j ≤ p → p < offset_at f j + length_at f j → eqb (byte_at f p) 255 ≡ false)
    → missing_from f k c ≡ false
not_missing f k zero h = refl
not_missing f k (suc c) h = or_from _ _
    (ap is_some (lowest_none (λ p. eqb (byte_at f p) 255) (offset_at f k) (length_at f k) (λ p l u. h k p (omega arith) (omega arith) l u)))
    (not_missing f (suc k) c (λ j p l u. h j p (omega arith) (omega arith)))

module _ (m : Meaning) (t : Tabled m) where
  none_missing : missing (file m) ≡ false
  none_missing = not_missing (file m) 0 (length m.kinds) (λ j p l u x y.
      let v : j < length m.kinds = omega arith in
      let e : offset_at (file m) j + (p - offset_at (file m) j) ≡ p = omega arith in
      let w = byte_below m t j (p - offset_at (file m) j) v (omega arith) in
      let g = ap (byte_at (file m)) e in
      let n = t.few in
      ne_eqb (byte_at (file m) p) 255 (λ z. omega arith))

  states_read : (file_meaning (file m)).states ≡ m.states
  states_read = ap (λ b. cond b (suc m.states) m.states) none_missing

  marks_read : (s : ℕ) → s < (file_meaning (file m)).states → (file_meaning (file m)).mark s ≡ m.mark s
  marks_read s l =
      let e = states_read in
      let u : s < m.states = omega arith in
      ap₂ (λ x y. x && y) (lt-ltb s m.states u) (ap (λ x. eqb x 1) (mark_read m s u) ∙ mark_told (m.mark s))

  targets_read : (k a b : ℕ) → Fits m.kinds m.states k a b → (file_meaning (file m)).target k a b ≡ m.target k a b
  targets_read k a b w =
      let l = fits_kind m.kinds m.states k a b w in
      let u = fits_below m.kinds m.states k a b t.some w in
      let r : rank_at (file m) k ≡ get_or m.kinds k 0 = ap (λ ks. get_or ks k 0) (ranks_read m) in
      let i : cell_number m.states (get_or m.kinds k 0) a b < length (get_or (blocks_of m) k []) =
      let s = block_size m t k l in let v = cell_inside m.states (get_or m.kinds k 0) a b (t.list.2 k l) u.0 u.1 in omega arith in
      let e : cell_at (file m) k a b ≡ m.target k a b =
      ap (λ x. byte_at (file m) (offset_at (file m) k + cell_number m.states x a b)) r
      ∙ (cell_read m k (cell_number m.states (get_or m.kinds k 0) a b) l i
      ∙ (ap (λ xs. get_or xs (cell_number m.states (get_or m.kinds k 0) a b) 0) (blocks_at m.states m.kinds m.target k l)
      ∙ block_at m.kinds m.states k a b (m.target k) w)) in
      let s = t.complete k a b w in
      let n = t.few in
      let g : eqb (m.target k a b) 255 ≡ false = ne_eqb (m.target k a b) 255 (λ z. omega arith) in
      let o = or_from (leb m.states a) (leb m.states b) (lt-leb m.states a u.0) (lt-leb m.states b u.1) in
      ap (λ x. cond x m.states (led m.states (cell_at (file m) k a b))) o
      ∙ (ap (led m.states) e ∙ ap (λ x. cond x m.states (m.target k a b)) g)

  pub table_read : Equal (file_meaning (file m)) m
  table_read = record {
    kinds = ranks_read m;
    states = states_read;
    mark = marks_read;
    target = λ k a b w. targets_read k a b (subst (λ n. Fits m.kinds n k a b) states_read (subst (λ ks. Fits ks (file_meaning (file m)).states k a b) (ranks_read m) w));
  }

pub files_read : FilesRead
files_read m t = (file_faultless (file m) (table_file m t), table_read m t)
