-- Reading gives exactly the record that the bytes are written for.
use Rattle.std.proofs.Common.{◌≡◌, ℕ, zero, suc, ◌+◌, ◌<◌, ◌≤◌, Bool, true, false, cond, ltb, leb, List, [], ◌∷◌, ◌++◌, length, get_or, Some, None, Ok, Err, Result, sym, refl, ap, ◌∙◌, subst, ap₂, append_assoc, append-nil, add_assoc, add-one, arith, length-append, ltb-true, lt-ltb, le-leb, leb-true}
use Rattle.ruling.specs.declared.refusal.Refusal.{Refusal}
use Rattle.ruling.specs.declared.refusal.Refusal.TheVariants.{RecordLength, NoKind}
use Rattle.ruling.specs.Checks.{unless}
use Rattle.ruling.specs.Trees.{Tree, leaf, stem, fork, Kind, Over, postorder, node_count}
use Rattle.record.specs.Reading.{closed, node_read, after, read_from, read_record, OneRecord}
use Rattle.record.specs.Laws.{Written, ReadsExactly}

-- one byte for each node
pub count_length : (t : Tree) → node_count t ≡ length (postorder t)
count_length (leaf k) = refl
count_length (stem k t) = let a = count_length t in simp length-append (omega arith)
count_length (fork k t u) =
    let a = count_length t in
    let b = count_length u in
    simp length-append (omega arith)

pub some_nodes : (t : Tree) → 0 < node_count t
some_nodes (leaf k) = omega arith
some_nodes (stem k t) = omega arith
some_nodes (fork k t u) = omega arith

-- a byte that is a kind
pub node_is : (ks : List ℕ) (at : ℕ) (parts : List Tree) (b r : ℕ) → Kind ks b r → node_read ks at parts b ≡ closed r b at parts
node_is ks at parts b r h =
    ap (λ c. cond c (closed (get_or ks b 0) b at parts) (Err (NoKind at))) (lt-ltb b (length ks) h.0) ∙ ap (λ n. closed n b at parts) h.1

pub read_on : (ks : List ℕ) (at : ℕ) (parts next : List Tree) (b : ℕ) (bs : List ℕ) → node_read ks at parts b ≡ Ok next
    → read_from ks at parts (b ∷ bs) ≡ read_from ks (at + 1) next bs
read_on ks at parts next b bs e =
    ap (λ r. after r (λ next. read_from ks (suc at) next bs)) e ∙ ap (λ n. read_from ks n next bs) (sym (add-one at))

-- the bytes of a part leave that part standing
pub reads : (ks : List ℕ) (t : Tree) → Over ks t → (at : ℕ) (parts : List Tree) (bs : List ℕ)
    → read_from ks at parts (postorder t ++ bs) ≡ read_from ks (at + node_count t) (t ∷ parts) bs
reads ks (leaf k) o at parts bs = read_on ks at parts (leaf k ∷ parts) k bs (node_is ks at parts k 0 o)
reads ks (stem k t) o at parts bs =
    ap (read_from ks at parts) (append_assoc (postorder t) (k ∷ []) bs)
    ∙ reads ks t o.1 at parts (k ∷ bs)
    ∙ read_on ks (at + node_count t) (t ∷ parts) (stem k t ∷ parts) k bs (node_is ks (at + node_count t) (t ∷ parts) k 1 o.0)
    ∙ ap (λ n. read_from ks n (stem k t ∷ parts) bs) (add_assoc at (node_count t) 1)
reads ks (fork k t u) o at parts bs =
    ap (read_from ks at parts) (append_assoc (postorder t) (postorder u ++ (k ∷ [])) bs ∙ ap (λ xs. postorder t ++ xs) (append_assoc (postorder u) (k ∷ []) bs))
    ∙ reads ks t o.1 at parts (postorder u ++ (k ∷ bs))
    ∙ reads ks u o.2 (at + node_count t) (t ∷ parts) (k ∷ bs)
    ∙ read_on ks (at + node_count t + node_count u) (u ∷ (t ∷ parts)) (fork k t u ∷ parts) k bs (node_is ks (at + node_count t + node_count u) (u ∷ (t ∷ parts)) k 2 o.0)
    ∙ ap (λ n. read_from ks n (fork k t u ∷ parts) bs) (omega arith)

-- each part that stands is over the kinds
abbrev pub AllOver : List ℕ → List Tree → Type 0
AllOver ks [] = Unit {0}
AllOver ks (t ∷ parts) = Over ks t × AllOver ks parts

-- the bytes of the parts that stand, the last part first
abbrev pub standing : List Tree → List ℕ
standing [] = []
standing (t ∷ parts) = standing parts ++ postorder t

closed_back : (ks : List ℕ) (at b r : ℕ) (parts next : List Tree) → Kind ks b r → closed r b at parts ≡ Ok next → AllOver ks parts
    → AllOver ks next × (standing next ≡ standing parts ++ (b ∷ []))
closed_back ks at b zero parts next k e o =
    let q : leaf b ∷ parts ≡ next = cc in
    subst (λ ps. AllOver ks ps × (standing ps ≡ standing parts ++ (b ∷ []))) q ((k, o), refl)
closed_back ks at b (suc zero) [] next k e o = cc
closed_back ks at b (suc zero) (t ∷ parts) next k e o =
    let q : stem b t ∷ parts ≡ next = cc in
    subst (λ ps. AllOver ks ps × (standing ps ≡ standing (t ∷ parts) ++ (b ∷ []))) q (((k, o.0), o.1), sym (append_assoc (standing parts) (postorder t) (b ∷ [])))
closed_back ks at b (suc (suc zero)) [] next k e o = cc
closed_back ks at b (suc (suc zero)) (u ∷ []) next k e o = cc
closed_back ks at b (suc (suc zero)) (u ∷ (t ∷ parts)) next k e o =
    let q : fork b t u ∷ parts ≡ next = cc in
    subst (λ ps. AllOver ks ps × (standing ps ≡ standing (u ∷ (t ∷ parts)) ++ (b ∷ []))) q (
      ((k, o.1.0, o.0), o.1.1),
      sym (append_assoc (standing parts ++ postorder t) (postorder u) (b ∷ []) ∙ append_assoc (standing parts) (postorder t) (postorder u ++ (b ∷ []))),
    )
closed_back ks at b (suc (suc (suc r))) parts next k e o = cc

pub node_back : (ks : List ℕ) (at : ℕ) (parts next : List Tree) (b : ℕ) → node_read ks at parts b ≡ Ok next → AllOver ks parts
    → AllOver ks next × (standing next ≡ standing parts ++ (b ∷ []))
node_back ks at parts next b e o = go (ltb b (length ks)) refl e
  where
    go : (c : Bool) → ltb b (length ks) ≡ c → cond c (closed (get_or ks b 0) b at parts) (Err (NoKind at)) ≡ Ok next
        → AllOver ks next × (standing next ≡ standing parts ++ (b ∷ []))
    go true p f = closed_back ks at b (get_or ks b 0) parts next (ltb-true b (length ks) p, refl) f o
    go false p f = cc

-- what is read is over the kinds, and written in the bytes of the parts and those that follow
pub reads_back : (ks : List ℕ) (at : ℕ) (parts : List Tree) (bs : List ℕ) (t : Tree) → read_from ks at parts bs ≡ Ok t → AllOver ks parts
    → Over ks t × (postorder t ≡ standing parts ++ bs)
reads_back ks at [] [] t e o = cc
reads_back ks at (u ∷ []) [] t e o =
    let q : u ≡ t = cc in
    subst (λ w. Over ks w × (postorder w ≡ postorder u ++ [])) q (o.0, sym (append-nil (postorder u)))
reads_back ks at (u ∷ (v ∷ parts)) [] t e o = cc
reads_back ks at parts (b ∷ bs) t e o = go (node_read ks at parts b) refl e (λ next f g. reads_back ks (suc at) next bs t f g)
  where
    go : (r : Result (List Tree) Refusal) → node_read ks at parts b ≡ r → after r (λ next. read_from ks (suc at) next bs) ≡ Ok t
        → ((next : List Tree) → read_from ks (suc at) next bs ≡ Ok t → AllOver ks next → Over ks t × (postorder t ≡ standing next ++ bs))
        → Over ks t × (postorder t ≡ standing parts ++ (b ∷ bs))
    go (Ok next) p f rest =
        let n = node_back ks at parts next b p o in
        let w = rest next f n.0 in
        (w.0, w.1 ∙ ap (λ xs. xs ++ bs) n.1 ∙ append_assoc (standing parts) (b ∷ []) bs)
    go (Err x) p f rest = cc

-- with neither too few nor too many bytes, reading is reading byte by byte
pub within : (ks : List ℕ) (limit : ℕ) (bytes : List ℕ) → 0 < length bytes → length bytes ≤ limit → read_record ks limit bytes ≡ read_from ks 0 [] bytes
within ks limit bytes a b =
    ap₂ (λ x y. unless (cond x (cond y None (Some (RecordLength limit))) (Some (RecordLength 0))) (read_from ks 0 [] bytes)) (lt-ltb 0 (length bytes) a) (le-leb (length bytes) limit b)

pub reads_all : (ks : List ℕ) (limit : ℕ) (bytes : List ℕ) (t : Tree) → Written ks limit bytes t → read_record ks limit bytes ≡ Ok t
reads_all ks limit bytes t w =
    let l : node_count t ≡ length bytes = count_length t ∙ ap length w.written in
    let s = some_nodes t in
    let f = w.few in
    within ks limit bytes (omega arith) (omega arith)
    ∙ ap (read_from ks 0 []) (sym (append-nil (postorder t) ∙ w.written))
    ∙ reads ks t w.over 0 [] []

pub written_all : (ks : List ℕ) (limit : ℕ) (bytes : List ℕ) (t : Tree) → read_record ks limit bytes ≡ Ok t → Written ks limit bytes t
written_all ks limit bytes t e = go (ltb 0 (length bytes)) (leb (length bytes) limit) refl e
  where
    go : (x y : Bool) → leb (length bytes) limit ≡ y → unless (cond x (cond y None (Some (RecordLength limit))) (Some (RecordLength 0))) (read_from ks 0 [] bytes) ≡ Ok t
        → Written ks limit bytes t
    go true true q f =
        let w = reads_back ks 0 [] bytes t f tt in
        let l = leb-true (length bytes) limit q in
        let n : node_count t ≡ length bytes = count_length t ∙ ap length w.1 in
        record { over = w.0; written = w.1; few = omega arith }
    go true false q f = cc
    go false y q f = cc

pub reads_exactly : (ks : List ℕ) (limit : ℕ) (bytes : List ℕ) → ReadsExactly ks limit bytes
reads_exactly ks limit bytes t = (written_all ks limit bytes t, reads_all ks limit bytes t)

pub one_record : (ks : List ℕ) (limit : ℕ) (bytes : List ℕ) (t : Tree) → read_record ks limit bytes ≡ Ok t → OneRecord ks limit bytes
one_record ks limit bytes t e =
    let w = written_all ks limit bytes t e in
    record {
      tree = t;
      over = w.over;
      written = w.written;
      few = w.few;
      only = λ u o q. let n : node_count u ≤ limit = subst (λ n. n ≤ limit) (sym (count_length u ∙ ap length (q ∙ sym w.written) ∙ sym (count_length t))) w.few in
          let f = reads_all ks limit bytes u (record { over = o; written = q; few = n }) in
          let g : Ok u ≡ Ok t = sym f ∙ e in
          cc;
    }
