-- The number of the parts that stand decides the fault of the next node.
use Rattle.std.proofs.Common.{◌≡◌, ℕ, zero, suc, ◌+◌, ◌<◌, ◌≤◌, Bool, true, false, cond, ltb, leb, List, [], ◌∷◌, length, get_or, drop, Some, None, Ok, Err, sym, refl, ap, ◌∙◌, arith, length-take, get_or-take, ltb-true, leb-false, leb-true}
use native.Mathlib.Decide.{dec_lt}
use Rattle.std.proofs.lemmas.List.{drop_more, drop_all, get_or_past}
use Rattle.ruling.specs.declared.kinds.Kinds.{Kinds}
use Rattle.ruling.specs.declared.refusal.Refusal.{Refusal}
use Rattle.ruling.specs.declared.refusal.Refusal.TheVariants.{NoKind, TooFewParts, SeveralParts}
use Rattle.ruling.specs.Checks.{unless}
use Rattle.ruling.specs.Trees.{Tree, leaf, stem, fork}
use Rattle.ruling.specs.KindLists.{Ranks}
use Rattle.ruling.specs.Listed.{list_of}
use Rattle.record.specs.Reading.{closed, node_read, ended, after, read_from, length_fault, read_record}
use Rattle.record.specs.Counting.{node_fault}
use Rattle.record.proofs.Exact.{read_on}

-- a value of Kinds holds small ranks
pub small_ranks : (kinds : Kinds) → Ranks (list_of kinds)
small_ranks kinds k l =
    let m = length-take kinds.count kinds.ranks in
    let h : k < kinds.count = omega arith in
    rw (get_or-take kinds.count kinds.ranks k 0 h) (kinds.small k h)

pub any_rank : (ks : List ℕ) → Ranks ks → (b : ℕ) → get_or ks b 0 ≤ 2
any_rank ks small b = go (dec_lt b (length ks))
  where
    go : Dec (b < length ks) → get_or ks b 0 ≤ 2
    go (yes l) = small b l
    go (no n) = let e = get_or_past ks b 0 (omega arith) in omega arith

-- the parts after a node are one more, less its rank
pub record Next (ks : List ℕ) (at : ℕ) (parts : List Tree) (b : ℕ) : Type 0 where
  pub next : List Tree
  pub is : node_read ks at parts b ≡ Ok next
  pub many : length next + get_or ks b 0 ≡ length parts + 1

-- what a node's reading is, by the rank
closes : (ks : List ℕ) (at : ℕ) (parts : List Tree) (b r : ℕ) → node_read ks at parts b ≡ closed r b at parts → get_or ks b 0 ≡ r → r ≤ 2 → r ≤ length parts
    → Next ks at parts b
closes ks at parts b zero e q l h = record { next = leaf b ∷ parts; is = e; many = omega arith }
closes ks at [] b (suc zero) e q l h = absurd (omega arith)
closes ks at (t ∷ parts) b (suc zero) e q l h = record { next = stem b t ∷ parts; is = e; many = omega arith }
closes ks at [] b (suc (suc zero)) e q l h = absurd (omega arith)
closes ks at (u ∷ []) b (suc (suc zero)) e q l h = absurd (omega arith)
closes ks at (u ∷ (t ∷ parts)) b (suc (suc zero)) e q l h = record { next = fork b t u ∷ parts; is = e; many = omega arith }
closes ks at parts b (suc (suc (suc r))) e q l h = absurd (omega arith)

too_few : (at : ℕ) (parts : List Tree) (b r : ℕ) → length parts < r → closed r b at parts ≡ Err (TooFewParts at)
too_few at parts b zero h = absurd (omega arith)
too_few at [] b (suc zero) h = refl
too_few at (t ∷ parts) b (suc zero) h = absurd (omega arith)
too_few at [] b (suc (suc zero)) h = refl
too_few at (u ∷ []) b (suc (suc zero)) h = refl
too_few at (u ∷ (t ∷ parts)) b (suc (suc zero)) h = absurd (omega arith)
too_few at parts b (suc (suc (suc r))) h = refl

-- no fault by the number of parts: the node is read
pub node_next : (ks : List ℕ) → Ranks ks → (at : ℕ) (parts : List Tree) (b : ℕ) → node_fault ks at (length parts) b ≡ None → Next ks at parts b
node_next ks small at parts b e = go (ltb b (length ks)) (leb (get_or ks b 0) (length parts)) refl refl e
  where
    go : (x y : Bool) → ltb b (length ks) ≡ x → leb (get_or ks b 0) (length parts) ≡ y
        → cond x (cond y None (Some (TooFewParts at))) (Some (NoKind at)) ≡ None → Next ks at parts b
    go true true p q f =
        closes ks at parts b (get_or ks b 0) (ap (λ c. cond c (closed (get_or ks b 0) b at parts) (Err (NoKind at))) p) refl
        (small b (ltb-true b (length ks) p)) (leb-true (get_or ks b 0) (length parts) q)
    go true false p q f = cc
    go false y p q f = cc

-- a fault by the number of parts is the fault of the node
pub node_fault_lem : (ks : List ℕ) (at : ℕ) (parts : List Tree) (b : ℕ) (r : Refusal) → node_fault ks at (length parts) b ≡ Some r → node_read ks at parts b ≡ Err r
node_fault_lem ks at parts b r e = go (ltb b (length ks)) (leb (get_or ks b 0) (length parts)) refl refl e
  where
    go : (x y : Bool) → ltb b (length ks) ≡ x → leb (get_or ks b 0) (length parts) ≡ y
        → cond x (cond y None (Some (TooFewParts at))) (Some (NoKind at)) ≡ Some r → node_read ks at parts b ≡ Err r
    go true true p q f = cc
    go true false p q f =
        let w : TooFewParts at ≡ r = cc in
        ap (λ c. cond c (closed (get_or ks b 0) b at parts) (Err (NoKind at))) p
        ∙ too_few at parts b (get_or ks b 0) (leb-false (get_or ks b 0) (length parts) q)
        ∙ ap (λ (w : Refusal). Err w) w
    go false y p q f =
        let w : NoKind at ≡ r = cc in
        ap (λ c. cond c (closed (get_or ks b 0) b at parts) (Err (NoKind at))) p ∙ ap (λ (w : Refusal). Err w) w

-- after i of the bytes, n parts stand, and reading on from them gives what reading all gives
pub record Standing (ks bytes : List ℕ) (i n : ℕ) : Type 0 where
  pub parts : List Tree
  pub many : length parts ≡ n
  pub left : read_from ks 0 [] bytes ≡ read_from ks i parts (drop i bytes)

module _ (ks bytes : List ℕ) (i n : ℕ) (s : Standing ks bytes i n) where
  here : i < length bytes → read_from ks 0 [] bytes ≡ read_from ks i s.parts (get_or bytes i 0 ∷ drop (i + 1) bytes)
  here l = s.left ∙ ap (read_from ks i s.parts) (drop_more bytes i 0 l)

  pub goes_on : Ranks ks → i < length bytes → (m : ℕ) → node_fault ks i n (get_or bytes i 0) ≡ None → m + get_or ks (get_or bytes i 0) 0 ≡ n + 1 → Standing ks bytes (i + 1) m
  goes_on small l m e q =
      let many : length s.parts ≡ n = s.many in
      let w = node_next ks small i s.parts (get_or bytes i 0) (ap (λ k. node_fault ks i k (get_or bytes i 0)) many ∙ e) in
      let k : length w.next + get_or ks (get_or bytes i 0) 0 ≡ length s.parts + 1 = w.many in
      record { parts = w.next; many = omega arith; left = here l ∙ read_on ks i s.parts w.next (get_or bytes i 0) (drop (i + 1) bytes) w.is }

  pub stops : i < length bytes → (r : Refusal) → node_fault ks i n (get_or bytes i 0) ≡ Some r → read_from ks 0 [] bytes ≡ Err r
  stops l r e =
      here l ∙ ap (λ x. after x (λ next. read_from ks (suc i) next (drop (i + 1) bytes)))
      (node_fault_lem ks i s.parts (get_or bytes i 0) r (ap (λ k. node_fault ks i k (get_or bytes i 0)) s.many ∙ e))

  ends : length bytes ≤ i → read_from ks 0 [] bytes ≡ ended i s.parts
  ends l = s.left ∙ ap (read_from ks i s.parts) (drop_all i bytes l)

  pub one : length bytes ≤ i → n ≡ 1 → (t : Tree) × (read_from ks 0 [] bytes ≡ Ok t)
  one l e = go s.parts refl
    where
      go : (ps : List Tree) → s.parts ≡ ps → (t : Tree) × (read_from ks 0 [] bytes ≡ Ok t)
      go [] q = let m = s.many in let k = ap length q in absurd (omega arith)
      go (t ∷ []) q = (t, ends l ∙ ap (ended i) q)
      go (t ∷ (u ∷ ps)) q = let m = s.many in let k = ap length q in absurd (omega arith)

  pub several : i ≡ length bytes → (n ≡ 1 → ⊥) → read_from ks 0 [] bytes ≡ Err (SeveralParts (length bytes))
  several l e = ends (omega arith) ∙ go s.parts s.many ∙ ap (λ (k : ℕ). Err (SeveralParts k)) l
    where
      go : (ps : List Tree) → length ps ≡ n → ended i ps ≡ Err (SeveralParts i)
      go [] q = refl
      go (t ∷ []) q = absurd (e (sym q))
      go (t ∷ (u ∷ ps)) q = refl

-- the fault of a wrong length is the first
pub wrong_length : (ks : List ℕ) (limit : ℕ) (bytes : List ℕ) (e : Refusal) → length_fault (length bytes) limit ≡ Some e → read_record ks limit bytes ≡ Err e
wrong_length ks limit bytes e f = ap (λ o. unless o (read_from ks 0 [] bytes)) f
