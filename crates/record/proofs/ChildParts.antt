-- The children of a record in its bytes.
use Rattle.std.proofs.Common.{◌≡◌, ℕ, zero, suc, ◌+◌, ◌-◌, ◌<◌, ◌≤◌, ltb, List, [], ◌∷◌, ◌++◌, length, get_or, take, drop, is_some, Some, None, sym, refl, ap, ◌∙◌, subst, ap₂, append_assoc, arith, length-append, le-ltb, lt-ltb}
use native.Mathlib.Decide.{dec_lt}
use Rattle.std.proofs.lemmas.List.{take_at, drop_at, get_or_push, length_push}
use Rattle.ruling.specs.Trees.{Tree, leaf, stem, fork, Over, postorder, node_count}
use Rattle.record.specs.declared.children.Span.{Span}
use Rattle.record.specs.Laws.{Written}
use Rattle.record.specs.Children.{root_kind, children_of, child_tree, span_in, child_span}
use Rattle.record.proofs.Exact.{count_length}

-- a part of the bytes is written for the child
pub record Part (ks : List ℕ) (limit : ℕ) (bytes : List ℕ) (t : Tree) (span : Span) : Type 0 where
  pub inside : span.start + span.len ≤ length bytes
  pub written : Written ks limit (take span.len (drop span.start bytes)) t

module _ (ks : List ℕ) (limit : ℕ) where
  part_at : (xs ys bytes : List ℕ) (t : Tree) (span : Span) → Over ks t → xs ++ (postorder t ++ ys) ≡ bytes → length bytes ≤ limit
      → length xs ≡ span.start → node_count t ≡ span.len → Part ks limit bytes t span
  part_at xs ys bytes t span o e few a b =
      let n = count_length t in
      let l = ap length e in
      let m = length-append xs (postorder t ++ ys) in
      let k = length-append (postorder t) ys in
      record {
        inside = omega arith;
        written = record {
          over = o;
          written = sym (ap (λ bs. take span.len (drop span.start bs)) (sym e) ∙ ap (take span.len) (drop_at xs (postorder t ++ ys) span.start a) ∙ take_at (postorder t) ys span.len (sym n ∙ b));
          few = omega arith;
        };
      }

  pub child_part : (bytes : List ℕ) (t : Tree) → Written ks limit bytes t → (n : ℕ) (span : Span) → Some span ≡ child_span t n → Part ks limit bytes (child_tree t n) span
  child_part bytes t w n span e =
      let l : length bytes ≤ limit = subst (λ (k : ℕ). k ≤ limit) (count_length t ∙ ap length w.written) w.few in
      go t n w.over w.written e l
    where
      go : (t : Tree) (n : ℕ) → Over ks t → postorder t ≡ bytes → Some span ≡ child_span t n → length bytes ≤ limit → Part ks limit bytes (child_tree t n) span
      go (leaf k) n o q f l = cc
      go (stem k t) zero o q f l =
          let s : span ≡ record { start = 0; len = node_count t } = cc in
          part_at [] (k ∷ []) bytes t span o.1 q l (sym (ap (λ (p : Span). p.start) s)) (sym (ap (λ (p : Span). p.len) s))
      go (stem k t) (suc n) o q f l = cc
      go (fork k t u) zero o q f l =
          let s : span ≡ record { start = 0; len = node_count t } = cc in
          part_at [] (postorder u ++ (k ∷ [])) bytes t span o.1 q l (sym (ap (λ (p : Span). p.start) s)) (sym (ap (λ (p : Span). p.len) s))
      go (fork k t u) (suc zero) o q f l =
          let s : span ≡ record { start = 0 + node_count t; len = node_count u } = cc in
          part_at (postorder t) (k ∷ []) bytes u span o.2 q l (sym (ap (λ (p : Span). p.start) s ∙ (let c = count_length t in omega arith))) (sym (ap (λ (p : Span). p.len) s))
      go (fork k t u) (suc (suc n)) o q f l = cc

-- past the last child there is none
pub no_child : (from : ℕ) (ts : List Tree) (n : ℕ) → length ts ≤ n → None ≡ span_in from ts n
no_child from [] n l = refl
no_child from (t ∷ ts) zero l = absurd (omega arith)
no_child from (t ∷ ts) (suc n) l = no_child (from + node_count t) ts n (omega arith)

-- there is a child just where the number is below the root's rank
pub some_child : (from : ℕ) (ts : List Tree) (n : ℕ) → is_some (span_in from ts n) ≡ ltb n (length ts)
some_child from [] n = sym (le-ltb n 0 (omega arith))
some_child from (t ∷ ts) zero = sym (lt-ltb 0 (suc (length ts)) (omega arith))
some_child from (t ∷ ts) (suc n) = some_child (from + node_count t) ts n ∙ same (dec_lt n (length ts))
  where
    same : Dec (n < length ts) → ltb n (length ts) ≡ ltb (suc n) (suc (length ts))
    same (yes l) = lt-ltb n (length ts) l ∙ sym (lt-ltb (suc n) (suc (length ts)) (omega arith))
    same (no l) = le-ltb n (length ts) (omega arith) ∙ sym (le-ltb (suc n) (suc (length ts)) (omega arith))

pub rank_children : (ks : List ℕ) (t : Tree) → Over ks t → length (children_of t) ≡ get_or ks (root_kind t) 0
rank_children ks (leaf k) o = sym o.1
rank_children ks (stem k t) o = sym o.0.1
rank_children ks (fork k t u) o = sym o.0.1

-- the rank of the last byte is the number of children
pub root_rank : (ks bytes : List ℕ) (t : Tree) → Over ks t → postorder t ≡ bytes → get_or ks (get_or bytes (length bytes - 1) 0) 0 ≡ length (children_of t)
root_rank ks bytes t o e = subst (λ bs. get_or ks (get_or bs (length bs - 1) 0) 0 ≡ length (children_of t)) e (go t o)
  where
    last : (xs : List ℕ) (k : ℕ) → get_or (xs ++ (k ∷ [])) (length (xs ++ (k ∷ [])) - 1) 0 ≡ k
    last xs k = get_or_push xs k 0 (length (xs ++ (k ∷ [])) - 1) (let l = length_push xs k in omega arith)

    go : (t : Tree) → Over ks t → get_or ks (get_or (postorder t) (length (postorder t) - 1) 0) 0 ≡ length (children_of t)
    go (leaf k) o = o.1
    go (stem k t) o = ap (λ (j : ℕ). get_or ks j 0) (last (postorder t) k) ∙ o.0.1
    go (fork k t u) o =
        ap (λ xs. get_or ks (get_or xs (length xs - 1) 0) 0) (sym (append_assoc (postorder t) (postorder u) (k ∷ [])))
        ∙ ap (λ (j : ℕ). get_or ks j 0) (last (postorder t ++ postorder u) k) ∙ o.0.1

-- the last child stands right before the root, and the other one before it
pub record LastChild (ks bytes : List ℕ) (t : Tree) : Type 0 where
  pub before : List ℕ
  pub last : Tree
  pub over : Over ks last
  pub split : take (length bytes - 1) bytes ≡ before ++ postorder last
  pub span : (n : ℕ) → n + 1 ≡ length (children_of t) → Some (record { start = length before; len = length bytes - 1 - length before }) ≡ child_span t n
  pub other : (n : ℕ) → n + 1 < length (children_of t) → Some (record { start = 0; len = length before }) ≡ child_span t n

pub last_child : (ks bytes : List ℕ) (t : Tree) → Over ks t → postorder t ≡ bytes → 0 < length (children_of t) → LastChild ks bytes t
last_child ks bytes t o e h = subst (λ bs. LastChild ks bs t) e (go t o h)
  where
    front : (xs : List ℕ) (k : ℕ) → take (length (xs ++ (k ∷ [])) - 1) (xs ++ (k ∷ [])) ≡ xs
    front xs k = take_at xs (k ∷ []) (length (xs ++ (k ∷ [])) - 1) (let l = length_push xs k in omega arith)

    go : (t : Tree) → Over ks t → 0 < length (children_of t) → LastChild ks (postorder t) t
    go (leaf k) o h = absurd (omega arith)
    go (stem k t) o h = record {
      before = [];
      last = t;
      over = o.1;
      split = front (postorder t) k;
      span = λ n q. let z : n ≡ 0 = omega arith in
          let c = count_length t in
          let l = length_push (postorder t) k in
          let m : length (postorder t ++ (k ∷ [])) - 1 - 0 ≡ node_count t = omega arith in
          ap (λ (j : ℕ). Some (record { start = 0; len = j })) m ∙ ap (λ (j : ℕ). child_span (stem k t) j) (sym z);
      other = λ n q. absurd (omega arith);
    }
    go (fork k t u) o h = record {
      before = postorder t;
      last = u;
      over = o.2;
      split = ap (λ xs. take (length xs - 1) xs) (sym (append_assoc (postorder t) (postorder u) (k ∷ []))) ∙ front (postorder t ++ postorder u) k;
      span = λ n q. let z : n ≡ 1 = omega arith in
          let c = count_length t in
          let d = count_length u in
          let l = length-append (postorder t) (postorder u ++ (k ∷ [])) in
          let j = length_push (postorder u) k in
          let a : length (postorder t) ≡ 0 + node_count t = omega arith in
          let b : length (postorder t ++ (postorder u ++ (k ∷ []))) - 1 - length (postorder t) ≡ node_count u = omega arith in
          ap₂ (λ (x y : ℕ). Some (record { start = x; len = y })) a b ∙ ap (λ (j : ℕ). child_span (fork k t u) j) (sym z);
      other = λ n q. let z : n ≡ 0 = omega arith in
          ap (λ (j : ℕ). Some (record { start = 0; len = j })) (sym (count_length t)) ∙ ap (λ (j : ℕ). child_span (fork k t u) j) (sym z);
    }
