-- A file has no fault exactly where it is a table file.
use Rattle.std.specs.Prelude.{◌≡◌, ℕ, zero, suc, ◌+◌, ◌-◌, ◌^◌, ◌<◌, ◌≤◌, Bool, true, false, cond, not, ◌&&◌, ◌⊎◌, List, length, Some, None, Option, ◌==◌, nat_le, nat_lt, refl}
use Rattle.std.proofs.Common.{◌∙◌, ap, ap₂, subst, inl, inr, arith, ltb-false, leb-true, leb-false, eqb-true, le-ltb, le-leb, eq-eqb}
use Rattle.std.proofs.Math.Decide.{ℕ_discrete}
use Rattle.std.specs.Option.{option_map}
use Rattle.std.proofs.lemmas.Bool.{and_parts, not-false, lt-leb}
use Rattle.ruling.specs.declared.refusal.Refusal.TheVariants.{TableByte, NoLeafKind}
use Rattle.ruling.specs.Checks.{lowest, first}
use Rattle.ruling.specs.KindLists.{has_leaf, rank_fault, leaf_fault}
use Rattle.ruling.specs.Written.{body_at}
use Rattle.ruling.proofs.Lowest.{lowest_none, none_lowest}
use Rattle.ruling.proofs.Lists.{none_above, small_ranks}
use Rattle.table.specs.TableFiles.{byte_at, states_in, kind_count_in, ranks_in, rank_at, mark_place, offset_at, length_at, TableFile, head_fault, mark_fault, pair_fault, pairs_fault, directory_fault, wrong_cell, cells_fault, table_fault}
use Rattle.table.specs.FileParts.{BlocksInside, FaultsTold}

pub first_none : {A : Type 0} (o p : Option A) → first o p ≡ None → (o ≡ None) × (p ≡ None)
first_none None p e = (refl, e)
first_none (Some x) p e = cc

-- a check that finds nothing leaves the answer to those that follow; one that finds a fault decides
pub leaves : {A : Type 0} (o p q : Option A) → o ≡ None → p ≡ q → first o p ≡ q
leaves o p q a b = ap (λ x. first x p) a ∙ b

pub decides : {A : Type 0} (o p : Option A) (x : A) → o ≡ Some x → first o p ≡ Some x
decides o p x e = ap (λ z. first z p) e

both_none : {A : Type 0} (o p : Option A) → o ≡ None → p ≡ None → first o p ≡ None
both_none o p a b = leaves o p None a b

first_assoc : {A : Type 0} (o p q : Option A) → first o (first p q) ≡ first (first o p) q
first_assoc None p q = refl
first_assoc (Some x) p q = refl

-- the ranks' two faults as one check
pub staged : (f : List ℕ) → table_fault f ≡ first (head_fault f) (first (first (rank_fault (ranks_in f)) (leaf_fault (ranks_in f)))
    (first (mark_fault f) (first (directory_fault f) (cells_fault f 0 (kind_count_in f)))))
staged f = ap (first (head_fault f)) (first_assoc (rank_fault (ranks_in f)) (leaf_fault (ranks_in f)) _)

-- a test that finds no fault, and one that passes on
passed : {A : Type 0} (b : Bool) (x : A) (o : Option A) → cond b (Some x) o ≡ None → (b ≡ false) × (o ≡ None)
passed true x o e = cc
passed false x o e = (refl, e)

passing : {A : Type 0} (b : Bool) (x : A) (o : Option A) → b ≡ false → o ≡ None → cond b (Some x) o ≡ None
passing b x o e f = ap (λ (t : Bool). cond t (Some x) o) e ∙ f

mapped_none : {A B : Type 0} (f : A → B) (o : Option A) → option_map f o ≡ None → o ≡ None
mapped_none f None e = refl
mapped_none f (Some x) e = cc

within : (x m : ℕ) → not (nat_le 1 x && nat_le x m) ≡ false → (1 ≤ x) × (x ≤ m)
within x m e = let w = and_parts (nat_le 1 x) (nat_le x m) (not-false (nat_le 1 x && nat_le x m) e) in (leb-true 1 x w.0, leb-true x m w.1)

inside_test : (x m : ℕ) → (1 ≤ x) × (x ≤ m) → not (nat_le 1 x && nat_le x m) ≡ false
inside_test x m h = ap₂ (λ a b. not (a && b)) (le-leb 1 x h.0) (le-leb x m h.1)

same_test : (x y : ℕ) → x ≡ y → not (x == y) ≡ false
same_test x y e = ap not (eq-eqb x y e)

-- the head
record Head (f : List ℕ) : Type 0 where
  pub size : length f ≤ 65535
  pub edition : byte_at f 0 ≡ 1
  pub states : (1 ≤ states_in f) × (states_in f ≤ 32)
  pub kinds : (1 ≤ kind_count_in f) × (kind_count_in f ≤ 16)
  pub zero_byte : byte_at f 3 ≡ 0
  pub whole : body_at (states_in f) (kind_count_in f) ≤ length f

head_right : (f : List ℕ) → head_fault f ≡ None → Head f
head_right f e =
    let a = passed (nat_lt 65535 (length f)) _ _ e in
    let b = passed (nat_lt (length f) 4) _ _ a.1 in
    let c = passed (not (byte_at f 0 == 1)) _ _ b.1 in
    let d = passed (not (nat_le 1 (states_in f) && nat_le (states_in f) 32)) _ _ c.1 in
    let g = passed (not (nat_le 1 (kind_count_in f) && nat_le (kind_count_in f) 16)) _ _ d.1 in
    let h = passed (not (byte_at f 3 == 0)) _ _ g.1 in
    let i = passed (nat_lt (length f) (body_at (states_in f) (kind_count_in f))) _ _ h.1 in
    record {
      size = ltb-false 65535 (length f) a.0;
      edition = eqb-true (byte_at f 0) 1 (not-false (byte_at f 0 == 1) c.0);
      states = within (states_in f) 32 d.0;
      kinds = within (kind_count_in f) 16 g.0;
      zero_byte = eqb-true (byte_at f 3) 0 (not-false (byte_at f 3 == 0) h.0);
      whole = ltb-false (length f) (body_at (states_in f) (kind_count_in f)) i.0;
    }

head_faultless : (f : List ℕ) → Head f → head_fault f ≡ None
head_faultless f h =
    passing (nat_lt 65535 (length f)) _ _ (le-ltb 65535 (length f) h.size)
    (passing (nat_lt (length f) 4) _ _ (le-ltb (length f) 4 (omega (arith, h.whole)))
    (passing (not (byte_at f 0 == 1)) _ _ (same_test (byte_at f 0) 1 h.edition)
    (passing (not (nat_le 1 (states_in f) && nat_le (states_in f) 32)) _ _ (inside_test (states_in f) 32 h.states)
    (passing (not (nat_le 1 (kind_count_in f) && nat_le (kind_count_in f) 16)) _ _ (inside_test (kind_count_in f) 16 h.kinds)
    (passing (not (byte_at f 3 == 0)) _ _ (same_test (byte_at f 3) 0 h.zero_byte)
    (passing (nat_lt (length f) (body_at (states_in f) (kind_count_in f))) _ _ (le-ltb (length f) (body_at (states_in f) (kind_count_in f)) h.whole) refl))))))

-- a kind of rank 0
leaf_right : (ks : List ℕ) → leaf_fault ks ≡ None → has_leaf ks ≡ true
leaf_right ks e = go (has_leaf ks) e
  where
    go : (b : Bool) → cond b None (Some NoLeafKind) ≡ None → b ≡ true
    go true f = refl
    go false f = cc

leaf_faultless : (ks : List ℕ) → has_leaf ks ≡ true → leaf_fault ks ≡ None
leaf_faultless ks e = ap (λ b. cond b None (Some NoLeafKind)) e

-- the marks
marks_right : (f : List ℕ) → mark_fault f ≡ None → (s : ℕ) → s < states_in f → byte_at f (mark_place f s) ≤ 1
marks_right f e s l = ltb-false 1 (byte_at f (mark_place f s))
    (none_lowest (λ p. nat_lt 1 (byte_at f p)) (mark_place f 0) (states_in f) (mapped_none (λ p. TableByte p) _ e) (mark_place f s) (omega arith) (omega arith))

marks_faultless : (f : List ℕ) → ((s : ℕ) → s < states_in f → byte_at f (mark_place f s) ≤ 1) → mark_fault f ≡ None
marks_faultless f h = ap (option_map (λ p. TableByte p)) (lowest_none (λ p. nat_lt 1 (byte_at f p)) (mark_place f 0) (states_in f)
    (λ i l u. le-ltb 1 (byte_at f i) (at_place i l u)))
  where
    at_place : (i : ℕ) → mark_place f 0 ≤ i → i < mark_place f 0 + states_in f → byte_at f i ≤ 1
    at_place i l u =
        let e : mark_place f (i - mark_place f 0) ≡ i = omega arith in
        subst (λ p. byte_at f p ≤ 1) e (h (i - mark_place f 0) (omega arith))

-- where the block of kind k ends
abbrev pub end_at : List ℕ → ℕ → ℕ
end_at f k = offset_at f k + length_at f k

-- one pair
record Paired (f : List ℕ) (from k : ℕ) : Type 0 where
  pub begins : from ≤ offset_at f k
  pub sized : length_at f k ≡ states_in f ^ rank_at f k
  pub inside : end_at f k ≤ length f

pair_right : (f : List ℕ) (from k : ℕ) → pair_fault f from k ≡ None → Paired f from k
pair_right f from k e =
    let a = passed (nat_lt (offset_at f k) from) _ _ e in
    let b = passed (not (length_at f k == states_in f ^ rank_at f k)) _ _ a.1 in
    let c = passed (nat_lt (length f) (end_at f k)) _ _ b.1 in
    record {
      begins = ltb-false (offset_at f k) from a.0;
      sized = eqb-true (length_at f k) (states_in f ^ rank_at f k) (not-false (length_at f k == states_in f ^ rank_at f k) b.0);
      inside = ltb-false (length f) (end_at f k) c.0;
    }

pair_faultless : (f : List ℕ) (from k : ℕ) → Paired f from k → pair_fault f from k ≡ None
pair_faultless f from k h =
    passing (nat_lt (offset_at f k) from) _ _ (le-ltb (offset_at f k) from h.begins)
    (passing (not (length_at f k == states_in f ^ rank_at f k)) _ _ (same_test (length_at f k) (states_in f ^ rank_at f k) h.sized)
    (passing (nat_lt (length f) (end_at f k)) _ _ (le-ltb (length f) (end_at f k) h.inside) refl))

-- the c pairs from pair k on
record Chained (f : List ℕ) (from k c : ℕ) : Type 0 where
  pub begins : 0 < c → from ≤ offset_at f k
  pub over : c ≡ 0 → length f ≤ from
  pub inside : (j : ℕ) → k ≤ j → j < k + c → end_at f j ≤ length f
  pub sized : (j : ℕ) → k ≤ j → j < k + c → length_at f j ≡ states_in f ^ rank_at f j
  pub follows : (j : ℕ) → k ≤ j → suc j < k + c → end_at f j ≤ offset_at f (suc j)
  pub ends : (j : ℕ) → k ≤ j → suc j ≡ k + c → end_at f j ≡ length f

chain_more : (f : List ℕ) (from k c : ℕ) → Paired f from k → Chained f (end_at f k) (suc k) c → Chained f from k (suc c)
chain_more f from k c p r = record {
  begins = λ _. p.begins;
  over = λ e. absurd (omega arith);
  inside = λ j l u. pick j l (λ q. end_at f q ≤ length f) p.inside (λ g. r.inside j g (omega arith));
  sized = λ j l u. pick j l (λ q. length_at f q ≡ states_in f ^ rank_at f q) p.sized (λ g. r.sized j g (omega arith));
  follows = λ j l u. follow j l u (ℕ_discrete k j);
  ends = λ j l u. end j l u (ℕ_discrete k j);
}
  where
    pick : (j : ℕ) → k ≤ j → (P : ℕ → Type 0) → P k → (suc k ≤ j → P j) → P j
    pick j l P here later = go (ℕ_discrete k j)
      where
        go : Dec (k ≡ j) → P j
        go (yes e) = subst P e here
        go (no n) = later (omega arith)

    follow : (j : ℕ) → k ≤ j → suc j < k + suc c → Dec (k ≡ j) → end_at f j ≤ offset_at f (suc j)
    follow j l u (yes e) = subst (λ q. end_at f q ≤ offset_at f (suc q)) e (r.begins (omega arith))
    follow j l u (no n) = r.follows j (omega arith) (omega arith)

    end : (j : ℕ) → k ≤ j → suc j ≡ k + suc c → Dec (k ≡ j) → end_at f j ≡ length f
    end j l u (yes e) = subst (λ q. end_at f q ≡ length f) e (let a = r.over (omega arith) in let b = p.inside in omega arith)
    end j l u (no n) = r.ends j (omega arith) (omega arith)

pairs_right : (f : List ℕ) (from k c : ℕ) → pairs_fault f from k c ≡ None → Chained f from k c
pairs_right f from k zero e = record {
  begins = λ z. absurd (omega arith);
  over = λ _. ltb-false from (length f) (passed (nat_lt from (length f)) _ _ e).0;
  inside = λ j l u. absurd (omega arith);
  sized = λ j l u. absurd (omega arith);
  follows = λ j l u. absurd (omega arith);
  ends = λ j l u. absurd (omega arith);
}
pairs_right f from k (suc c) e =
    let w = first_none (pair_fault f from k) (pairs_fault f (end_at f k) (suc k) c) e in
    chain_more f from k c (pair_right f from k w.0) (pairs_right f (end_at f k) (suc k) c w.1)

-- of a table file, each block lies in the file
inside_from : (f : List ℕ) → TableFile f → (d k : ℕ) → suc k + d ≡ kind_count_in f → end_at f k ≤ length f
inside_from f t zero k e = let w = t.ends k (omega arith) in omega arith
inside_from f t (suc d) k e =
    let a = t.follows k (omega arith) in
    let b = inside_from f t d (suc k) (omega arith) in omega arith

pub file_inside : (f : List ℕ) → TableFile f → BlocksInside f
file_inside f t k l = inside_from f t (kind_count_in f - suc k) k (omega arith)

pairs_faultless : (f : List ℕ) → TableFile f → (c k from : ℕ) → k + c ≡ kind_count_in f → (0 < c → from ≤ offset_at f k) → (c ≡ 0 → length f ≤ from)
    → pairs_fault f from k c ≡ None
pairs_faultless f t zero k from e b o = passing (nat_lt from (length f)) _ _ (le-ltb from (length f) (o refl)) refl
pairs_faultless f t (suc c) k from e b o =
    both_none (pair_fault f from k) (pairs_fault f (end_at f k) (suc k) c)
    (pair_faultless f from k (record { begins = b (omega arith); sized = t.lengths k (omega arith); inside = file_inside f t k (omega arith) }))
    (pairs_faultless f t c (suc k) (end_at f k) (omega arith) (λ z. t.follows k (omega arith))
    (λ z. let w = t.ends k (omega arith) in omega arith))

-- the cells
right_cell : (n x : ℕ) → wrong_cell n x ≡ false → (x < n) ⊎ (x ≡ 255)
right_cell n x e = go (nat_le n x) refl (x == 255) refl e
  where
    go : (a : Bool) → nat_le n x ≡ a → (b : Bool) → (x == 255) ≡ b → (a && not b) ≡ false → (x < n) ⊎ (x ≡ 255)
    go false p b q g = inl (leb-false n x p)
    go true p true q g = inr (eqb-true x 255 q)
    go true p false q g = cc

cell_right : (n x : ℕ) → (x < n) ⊎ (x ≡ 255) → wrong_cell n x ≡ false
cell_right n x (inl l) = ap (λ a. a && not (x == 255)) (lt-leb n x l)
cell_right n x (inr e) = go (nat_le n x)
  where
    go : (a : Bool) → (a && not (x == 255)) ≡ false
    go true = ap not (eq-eqb x 255 e)
    go false = refl

cells_right : (f : List ℕ) (k c : ℕ) → cells_fault f k c ≡ None → (j i : ℕ) → k ≤ j → j < k + c → i < length_at f j
    → (byte_at f (offset_at f j + i) < states_in f) ⊎ (byte_at f (offset_at f j + i) ≡ 255)
cells_right f k zero e j i l u g = absurd (omega arith)
cells_right f k (suc c) e j i l u g =
    let w = first_none (option_map (λ p. TableByte p) (lowest (λ p. wrong_cell (states_in f) (byte_at f p)) (offset_at f k) (length_at f k))) (cells_fault f (suc k) c) e in
    go w (ℕ_discrete k j) (λ o v. cells_right f (suc k) c o j i v (omega arith) g)
  where
    go : (option_map (λ p. TableByte p) (lowest (λ p. wrong_cell (states_in f) (byte_at f p)) (offset_at f k) (length_at f k)) ≡ None) × (cells_fault f (suc k) c ≡ None)
        → Dec (k ≡ j) → (cells_fault f (suc k) c ≡ None → suc k ≤ j → (byte_at f (offset_at f j + i) < states_in f) ⊎ (byte_at f (offset_at f j + i) ≡ 255))
        → (byte_at f (offset_at f j + i) < states_in f) ⊎ (byte_at f (offset_at f j + i) ≡ 255)
    go w (yes q) later = right_cell (states_in f) (byte_at f (offset_at f j + i))
        (none_lowest (λ p. wrong_cell (states_in f) (byte_at f p)) (offset_at f j) (length_at f j)
        (subst (λ m. lowest (λ p. wrong_cell (states_in f) (byte_at f p)) (offset_at f m) (length_at f m) ≡ None) q (mapped_none (λ p. TableByte p) _ w.0))
        (offset_at f j + i) (omega arith) (omega arith))
    go w (no q) later = later w.1 (omega arith)

cells_faultless : (f : List ℕ) → TableFile f → (c k : ℕ) → k + c ≡ kind_count_in f → cells_fault f k c ≡ None
cells_faultless f t zero k e = refl
cells_faultless f t (suc c) k e = both_none _ (cells_fault f (suc k) c)
    (ap (option_map (λ p. TableByte p)) (lowest_none (λ p. wrong_cell (states_in f) (byte_at f p)) (offset_at f k) (length_at f k)
    (λ p l u. cell_right (states_in f) (byte_at f p) (here p l u))))
    (cells_faultless f t c (suc k) (omega arith))
  where
    here : (p : ℕ) → offset_at f k ≤ p → p < offset_at f k + length_at f k → (byte_at f p < states_in f) ⊎ (byte_at f p ≡ 255)
    here p l u =
        let q : offset_at f k + (p - offset_at f k) ≡ p = omega arith in
        subst (λ x. (byte_at f x < states_in f) ⊎ (byte_at f x ≡ 255)) q (t.cells k (p - offset_at f k) (omega arith) (omega arith))

-- the whole file
pub faultless_file : (f : List ℕ) → table_fault f ≡ None → TableFile f
faultless_file f e =
    let a = first_none (head_fault f) _ e in
    let b = first_none (rank_fault (ranks_in f)) _ a.1 in
    let c = first_none (leaf_fault (ranks_in f)) _ b.1 in
    let d = first_none (mark_fault f) _ c.1 in
    let g = first_none (directory_fault f) _ d.1 in
    let h = head_right f a.0 in
    let p = pairs_right f (body_at (states_in f) (kind_count_in f)) 0 (kind_count_in f) g.0 in
    let n = h.kinds.0 in
    record {
      size = h.size;
      edition = h.edition;
      states = h.states;
      kinds = h.kinds;
      zero_byte = h.zero_byte;
      whole = h.whole;
      ranks = small_ranks (ranks_in f) b.0;
      leaf = leaf_right (ranks_in f) c.0;
      marks = marks_right f d.0;
      begins = p.begins (omega arith);
      follows = λ k l. p.follows k (omega arith) (omega arith);
      lengths = λ k l. p.sized k (omega arith) (omega arith);
      ends = λ k l. p.ends k (omega arith) (omega arith);
      cells = λ k i l u. cells_right f 0 (kind_count_in f) g.1 k i (omega arith) (omega arith) u;
    }

pub file_faultless : (f : List ℕ) → TableFile f → table_fault f ≡ None
file_faultless f t =
    let n = t.kinds.0 in
    both_none (head_fault f) _ (head_faultless f (record { size = t.size; edition = t.edition; states = t.states; kinds = t.kinds; zero_byte = t.zero_byte; whole = t.whole }))
    (both_none (rank_fault (ranks_in f)) _ (none_above (ranks_in f) t.ranks)
    (both_none (leaf_fault (ranks_in f)) _ (leaf_faultless (ranks_in f) t.leaf)
    (both_none (mark_fault f) _ (marks_faultless f t.marks)
    (both_none (directory_fault f) _ (pairs_faultless f t (kind_count_in f) 0 (body_at (states_in f) (kind_count_in f)) (omega arith) (λ _. t.begins) (λ z. absurd (omega arith)))
    (cells_faultless f t (kind_count_in f) 0 (omega arith))))))

pub faults_told : FaultsTold
faults_told f = (faultless_file f, file_faultless f)

-- the directory has no fault: the blocks lie in the file
pub blocks_inside : (f : List ℕ) → directory_fault f ≡ None → BlocksInside f
blocks_inside f e k l = (pairs_right f (body_at (states_in f) (kind_count_in f)) 0 (kind_count_in f) e).inside k (omega arith) (omega arith)
