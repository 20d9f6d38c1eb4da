-- A walk keeps the values of the parts that stand.
use Rattle.std.proofs.Common.{◌≡◌, ℕ, zero, suc, ◌+◌, ◌<◌, ◌≤◌, Bool, true, false, cond, ltb, List, [], ◌∷◌, map, length, get_or, drop, Some, None, Ok, Err, Option, Result, sym, refl, ap, ◌∙◌, ap₂, add-one, arith, le-ltb, lt-ltb}
use lib.ListN.{length-map}
use Rattle.std.specs.Option.{ok_or}
use Rattle.std.proofs.lemmas.List.{drop_more, drop_all}
use Rattle.std.proofs.lemmas.Bool.{cond-true, cond-false}
use Rattle.ruling.specs.declared.refusal.Refusal.{Refusal}
use Rattle.ruling.specs.declared.refusal.Refusal.TheVariants.{NoKind, BufferTooShort}
use Rattle.ruling.specs.Trees.{Tree, leaf, stem, fork, Kind}
use Rattle.ruling.specs.Questions.{rank_in}
use Rattle.ruling.specs.Checks.{Answers, Kept}
use Rattle.ruling.proofs.Lists.{a_rank}
use Rattle.record.specs.Reading.{closed, node_read, ended, after, read_from}
use Rattle.stack.specs.Stacks.{live, full_fault, Popped}
use Rattle.judging.specs.Reckonings.{reckoned}
use Rattle.judging.specs.Walking.{Steps, walked}
use Rattle.record.proofs.Exact.{node_is}
use Rattle.stack.proofs.Live.{live_length}

-- a kind of the list, by the answer about its rank
pub kind_of : (ks : List ℕ) (k r n : ℕ) → Some r ≡ rank_in ks k → r ≡ n → Kind ks k n
kind_of ks k r n e q = let a = a_rank ks k r e in (a.0, sym a.1 ∙ q)

-- what a node of rank 2 makes of the parts
made_fork : (ks : List ℕ) (at : ℕ) (parts next : List Tree) (b : ℕ) → Kind ks b 2 → node_read ks at parts b ≡ Ok next
    → (t : Tree) × (u : Tree) × (rest : List Tree) × (parts ≡ u ∷ (t ∷ rest)) × (next ≡ fork b t u ∷ rest)
made_fork ks at parts next b k e = go parts (sym (node_is ks at parts b 2 k) ∙ e)
  where
    go : (ps : List Tree) → closed 2 b at ps ≡ Ok next → (t : Tree) × (u : Tree) × (rest : List Tree) × (ps ≡ u ∷ (t ∷ rest)) × (next ≡ fork b t u ∷ rest)
    go [] f = cc
    go (u ∷ []) f = cc
    go (u ∷ (t ∷ rest)) f = (t, u, rest, refl, (cc))

-- a push with room does not refuse
push_ok : {V : Type 0} (n : ℕ) (s : List V) (v : V) (r : Result (Unit {0}) Refusal) (out : List V) → length (live n s) < length s
    → Answers (full_fault n (length s)) (λ _. out ≡ v ∷ live n s) r → (r ≡ Ok tt) × (out ≡ v ∷ live n s)
push_ok n s v (Ok x) out l h = (refl, h.1)
push_ok n s v (Err e) out l h =
    let m = live_length n s in
    let f : full_fault n (length s) ≡ None = cond-true _ _ _ (lt-ltb n (length s) (omega arith)) in
    let g : None ≡ Some e = sym f ∙ h in
    cc

module _ {V : Type 0} (at_leaf : ℕ → V) (at_stem : ℕ → V → V) (at_fork : ℕ → V → V → V) where
  abbrev value : Tree → V
  value t = reckoned at_leaf at_stem at_fork t

  pushed : (n : ℕ) (s : List V) (v : V) (r : Result (Unit {0}) Refusal) (out : List V) (node : Tree) (rest next : List Tree)
      → next ≡ node ∷ rest → length next ≤ length s → live n s ≡ map value rest → v ≡ value node
      → Answers (full_fault n (length s)) (λ _. out ≡ v ∷ live n s) r → (r ≡ Ok tt) × (out ≡ map value next)
  pushed n s v r out node rest next e l q p h =
      let a = ap length e in
      let b = ap length q in
      let c = length-map rest value in
      let w = push_ok n s v r out (omega arith) h in
      (w.0, w.1 ∙ ap₂ ◌∷◌ p q ∙ ap (map value) (sym e))

  module _ (ks : List ℕ) (at b : ℕ) (n : ℕ) (s : List V) (r : Result (Unit {0}) Refusal) (out : List V) where
    pub fork_step : (before middle : List V) (x y v : V) → Kind ks b 2 → before ≡ y ∷ middle → middle ≡ x ∷ live n s → v ≡ at_fork b x y
        → Answers (full_fault n (length s)) (λ _. out ≡ v ∷ live n s) r
        → (parts next : List Tree) → node_read ks at parts b ≡ Ok next → length next ≤ length s → before ≡ map value parts → (r ≡ Ok tt) × (out ≡ map value next)
    fork_step before middle x y v k p o w h parts next e l q =
        let m = made_fork ks at parts next b k e in
        let f : y ∷ (x ∷ live n s) ≡ value m.1 ∷ (value m.0 ∷ map value m.2) = ap (λ xs. y ∷ xs) (sym o) ∙ sym p ∙ q ∙ ap (map value) m.3 in
        let g : y ≡ value m.1 = cc in
        let j : x ≡ value m.0 = cc in
        let i : live n s ≡ map value m.2 = cc in
        pushed n s v r out (fork b m.0 m.1) m.2 next m.4 l i (w ∙ ap₂ (at_fork b) j g) h

-- a node leaves at most one part more
closed_grows : (at b r : ℕ) (parts next : List Tree) → closed r b at parts ≡ Ok next → length next ≤ length parts + 1
closed_grows at b zero parts next e = let q : leaf b ∷ parts ≡ next = cc in let l = ap length q in omega arith
closed_grows at b (suc zero) [] next e = cc
closed_grows at b (suc zero) (t ∷ parts) next e = let q : stem b t ∷ parts ≡ next = cc in let l = ap length q in omega arith
closed_grows at b (suc (suc zero)) [] next e = cc
closed_grows at b (suc (suc zero)) (u ∷ []) next e = cc
closed_grows at b (suc (suc zero)) (u ∷ (t ∷ parts)) next e = let q : fork b t u ∷ parts ≡ next = cc in let l = ap length q in omega arith
closed_grows at b (suc (suc (suc r))) parts next e = cc

node_grows : (ks : List ℕ) (at : ℕ) (parts next : List Tree) (b : ℕ) → node_read ks at parts b ≡ Ok next → length next ≤ length parts + 1
node_grows ks at parts next b e = go (ltb b (length ks)) e
  where
    go : (c : Bool) → cond c (closed (get_or ks b 0) b at parts) (Err (NoKind at)) ≡ Ok next → length next ≤ length parts + 1
    go true f = closed_grows at b (get_or ks b 0) parts next f
    go false f = cc

-- after i of the bytes these are the values of the parts that stand, and reading on gives the record
pub record Worked {V : Type 0} (value : Tree → V) (ks bytes : List ℕ) (i : ℕ) (vals : List V) (t : Tree) : Type 0 where
  pub parts : List Tree
  pub left : read_from ks i parts (drop i bytes) ≡ Ok t
  pub few : length parts ≤ i
  pub values : vals ≡ map value parts

module _ {V : Type 0} (value : Tree → V) (ks bytes : List ℕ) (t : Tree) where
  pub work_start : read_from ks 0 [] bytes ≡ Ok t → Worked value ks bytes 0 [] t
  work_start e = record { parts = []; left = e; few = omega arith; values = refl }

  -- a node that is read on the way to a record
  on : (i : ℕ) (parts : List Tree) (b : ℕ) (bs : List ℕ) → read_from ks i parts (b ∷ bs) ≡ Ok t
      → (next : List Tree) × (node_read ks i parts b ≡ Ok next) × (read_from ks (i + 1) next bs ≡ Ok t)
  on i parts b bs e = go (node_read ks i parts b) refl e
    where
      go : (r : Result (List Tree) Refusal) → node_read ks i parts b ≡ r → after r (λ next. read_from ks (suc i) next bs) ≡ Ok t
          → (next : List Tree) × (node_read ks i parts b ≡ Ok next) × (read_from ks (i + 1) next bs ≡ Ok t)
      go (Ok next) p f = (next, p, ap (λ (n : ℕ). read_from ks n next bs) (add-one i) ∙ f)
      go (Err x) p f = cc

  pub work_more : (i room : ℕ) (before now : List V) (r : Result (Unit {0}) Refusal) → Steps value ks i (get_or bytes i 0) room before now r
      → i < length bytes → length bytes ≤ room → Worked value ks bytes i before t → (r ≡ Ok tt) × Worked value ks bytes (i + 1) now t
  work_more i room before now r h l m w =
      let o = on i w.parts (get_or bytes i 0) (drop (i + 1) bytes) (ap (read_from ks i w.parts) (sym (drop_more bytes i 0 l)) ∙ w.left) in
      let g = node_grows ks i w.parts o.0 (get_or bytes i 0) o.1 in
      let f : length w.parts ≤ i = w.few in
      let s = h w.parts o.0 o.1 (omega arith) w.values in
      (s.0, record { parts = o.0; left = o.2; few = omega arith; values = s.1 })

  pub work_end : (i : ℕ) (vals : List V) → length bytes ≤ i → Worked value ks bytes i vals t → vals ≡ value t ∷ []
  work_end i vals l w = w.values ∙ ap (map value) (go w.parts (ap (read_from ks i w.parts) (sym (drop_all i bytes l)) ∙ w.left))
    where
      go : (ps : List Tree) → ended i ps ≡ Ok t → ps ≡ t ∷ []
      go [] f = cc
      go (u ∷ []) f = let q : u ≡ t = cc in ap (λ (x : Tree). x ∷ []) q
      go (u ∷ (v ∷ ps)) f = cc

  pub work_goes : (i room : ℕ) (before now : List V) (e : Refusal) → Steps value ks i (get_or bytes i 0) room before now (Err e)
      → i < length bytes → length bytes ≤ room → Worked value ks bytes i before t → ⊥
  work_goes i room before now e h l m w =
      let q = (work_more i room before now (Err e) h l m w).0 in
      let z : ◌≡◌ {A = ℕ} 0 1 = cc in omega arith

-- what a pop gives where one value stands
pub popped : {V : Type 0} (x : V) (before rest : List V) (r : Option V) (e : Refusal) → before ≡ x ∷ [] → Popped before rest r → ok_or r e ≡ Ok x
popped x before rest (Some v) e p q = let f : x ∷ [] ≡ v ∷ rest = sym p ∙ q in let g : v ≡ x = cc in ap (λ y. Ok y) g
popped x before rest None e p q = let f : x ∷ [] ≡ [] = sym p ∙ q.0 in cc

-- with room, the answer of a walk is the value
pub walk_ok : {V : Type 0} (v : V) (need room : ℕ) (r : Result V Refusal) → need ≤ room → r ≡ Ok v → r ≡ walked v need room
walk_ok v need room r l e = e ∙ sym (cond-false _ _ _ (le-ltb room need l))

-- an answer that is no refusal leaves the slots free
pub ok_kept : {V C : Type 0} (v : V) (r : Result V Refusal) (before now : C) → r ≡ Ok v → Kept r before now
ok_kept v (Ok x) before now e = tt
ok_kept v (Err x) before now e = cc

-- an answer made from the value of a walk
pub walked_then : {V W : Type 0} (v x : V) (w y : W) (need room : ℕ) → Ok x ≡ walked v need room → (x ≡ v → y ≡ w) → Ok y ≡ walked w need room
walked_then v x w y need room e h = go (ltb room need) e
  where
    go : (b : Bool) → Ok x ≡ cond b (Err (BufferTooShort need)) (Ok v) → Ok y ≡ cond b (Err (BufferTooShort need)) (Ok w)
    go true f = cc
    go false f = let q : x ≡ v = cc in ap (λ u. Ok u) (h q)
