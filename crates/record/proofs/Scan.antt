-- Reading backwards takes up a part's bytes.
use Rattle.std.proofs.Common.{◌≡◌, ℕ, zero, suc, ◌+◌, ◌-◌, ◌<◌, ◌≤◌, List, [], ◌∷◌, ◌++◌, reverse, length, get_or, take, refl, ap, ◌∙◌, append_assoc, add-zero, arith, length-append, length-take}
use mathlib.Core.List.{reverse-append}
use Rattle.std.proofs.lemmas.List.{take_more}
use Rattle.ruling.specs.Trees.{Tree, leaf, stem, fork, Over, postorder, node_count}
use Rattle.record.specs.Scanning.{scanned}
use Rattle.record.proofs.Exact.{count_length}

-- one node read backwards
root : (ks : List ℕ) (m k r n : ℕ) (bs : List ℕ) → get_or ks k 0 ≡ r → m + r ≡ n → scanned ks (suc m) (k ∷ bs) ≡ suc (scanned ks n bs)
root ks m k r n bs e q = ap (λ (j : ℕ). suc (scanned ks j bs)) (ap (λ (j : ℕ). m + j) e ∙ q)

pub scans : (ks : List ℕ) (u : Tree) → Over ks u → (m : ℕ) (bs : List ℕ)
    → scanned ks (suc m) (reverse (postorder u) ++ bs) ≡ node_count u + scanned ks m bs
scans ks (leaf k) o m bs = root ks m k 0 m bs o.1 (add-zero m) ∙ omega arith
scans ks (stem k t) o m bs =
    ap (λ xs. scanned ks (suc m) (xs ++ bs)) (reverse-append (postorder t) (k ∷ []))
    ∙ root ks m k 1 (suc m) (reverse (postorder t) ++ bs) o.0.1 (omega arith)
    ∙ (let e = scans ks t o.1 m bs in omega arith)
scans ks (fork k t u) o m bs =
    ap (λ xs. scanned ks (suc m) (xs ++ bs)) (reverse-append (postorder t) (postorder u ++ (k ∷ [])) ∙ ap (λ xs. xs ++ reverse (postorder t)) (reverse-append (postorder u) (k ∷ [])))
    ∙ root ks m k 2 (suc (suc m)) ((reverse (postorder u) ++ reverse (postorder t)) ++ bs) o.0.1 (omega arith)
    ∙ ap (λ xs. suc (scanned ks (suc (suc m)) xs)) (append_assoc (reverse (postorder u)) (reverse (postorder t)) bs)
    ∙ (let e = scans ks u o.2 (suc m) (reverse (postorder t) ++ bs) in
    let f = scans ks t o.1 m bs in omega arith)

-- the bytes of the last part before `end`
pub scans_part : (ks bytes : List ℕ) (end : ℕ) → end ≤ length bytes → (xs : List ℕ) (u : Tree) → Over ks u → take end bytes ≡ xs ++ postorder u
    → (n : ℕ) → n ≡ scanned ks 1 (reverse (take end bytes)) → end ≡ length xs + n
scans_part ks bytes end l xs u o e n q =
    let a : scanned ks 1 (reverse (take end bytes)) ≡ node_count u + 0 = ap (λ ys. scanned ks 1 (reverse ys)) e ∙ ap (scanned ks 1) (reverse-append xs (postorder u)) ∙ scans ks u o 0 (reverse xs) in
    let b = count_length u in
    let c = length-append xs (postorder u) in
    let d = ap length e in
    let f = length-take end bytes in
    omega arith

-- one byte more
pub scans_more : (ks bytes : List ℕ) (at need next : ℕ) → 0 < at → at ≤ length bytes → 0 < need → need - 1 + get_or ks (get_or bytes (at - 1) 0) 0 ≡ next
    → scanned ks need (reverse (take at bytes)) ≡ suc (scanned ks next (reverse (take (at - 1) bytes)))
scans_more ks bytes at zero next p l h q = absurd (omega arith)
scans_more ks bytes at (suc m) next p l h q =
    let i : at ≡ at - 1 + 1 = omega arith in
    ap (λ (n : ℕ). scanned ks (suc m) (reverse (take n bytes))) i
    ∙ ap (λ xs. scanned ks (suc m) (reverse xs)) (take_more bytes (at - 1) 0 (omega arith)) ∙ ap (scanned ks (suc m)) (reverse-append (take (at - 1) bytes) (get_or bytes (at - 1) 0 ∷ []))
    ∙ root ks m (get_or bytes (at - 1) 0) (get_or ks (get_or bytes (at - 1) 0) 0) next (reverse (take (at - 1) bytes)) refl (omega arith)

pub scans_none : (ks : List ℕ) (n : ℕ) (bs : List ℕ) → n ≡ 0 → scanned ks n bs ≡ 0
scans_none ks n bs e = ap (λ (k : ℕ). scanned ks k bs) e

pub scans_end : (ks : List ℕ) (n : ℕ) → scanned ks n [] ≡ 0
scans_end ks zero = refl
scans_end ks (suc m) = refl
