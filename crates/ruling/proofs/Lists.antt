-- Kind lists, rank by rank.
use Rattle.std.proofs.Common.{◌≡◌, ℕ, ◌+◌, ◌<◌, ◌≤◌, max, Bool, true, false, cond, not, ◌&&◌, eqb, ltb, List, length, get_or, take, is_some, Some, None, Ok, Err, Option, Result, sym, refl, ap, ◌∙◌, ap₂, subst, arith, length-take-le, get_or-take, ltb-false, ltb-true, le-ltb, lt-ltb, eq-eqb, eqb-true, le-leb}
use native.Mathlib.Decide.{dec_lt}
use native.Mathlib.Nat.{le-max_left, le-max_right}
use Rattle.std.specs.Option.{MatchOption, option_map}
use Rattle.std.specs.List.{IsAnyAnswer}
use Rattle.ruling.specs.declared.refusal.Refusal.{Refusal}
use Rattle.ruling.specs.declared.refusal.Refusal.TheVariants.{KindCount, RankAbove}
use Rattle.ruling.specs.Questions.{rank_in}
use Rattle.ruling.specs.Checks.{lowest, first, Answers}
use Rattle.ruling.specs.KindLists.{Ranks, KindList, has_leaf, count_fault, rank_fault, list_fault, same_rank, differing}
use Rattle.std.proofs.lemmas.List.{ext_get_or}
use Rattle.ruling.proofs.Lowest.{lowest_none, lowest_at, none_lowest}

pub a_rank : (ks : List ℕ) (k r : ℕ) → Some r ≡ rank_in ks k → (k < length ks) × (r ≡ get_or ks k 0)
a_rank ks k r e = go (ltb k (length ks)) refl e
  where
    go : (b : Bool) → ltb k (length ks) ≡ b → Some r ≡ cond b (Some (get_or ks k 0)) None → (k < length ks) × (r ≡ get_or ks k 0)
    go true p f = (ltb-true k (length ks) p, (cc))
    go false p f = cc

pub none_above : (ks : List ℕ) → Ranks ks → rank_fault ks ≡ None
none_above ks h = ap (option_map (λ k. RankAbove k)) (lowest_none (λ k. ltb 2 (get_or ks k 0)) 0 (length ks)
    (λ i _ u. le-ltb 2 (get_or ks i 0) (h i (omega arith))))

pub small_ranks : (ks : List ℕ) → rank_fault ks ≡ None → Ranks ks
small_ranks ks e = go (lowest (λ k. ltb 2 (get_or ks k 0)) 0 (length ks)) refl e
  where
    go : (o : Option ℕ) → lowest (λ k. ltb 2 (get_or ks k 0)) 0 (length ks) ≡ o → option_map (λ k. RankAbove k) o ≡ None → Ranks ks
    go None p f = λ k l. ltb-false 2 (get_or ks k 0) (none_lowest (λ k. ltb 2 (get_or ks k 0)) 0 (length ks) p k (omega arith) (omega arith))
    go (Some i) p f = cc

pub leaf_found : (ks : List ℕ) (b : Bool) → IsAnyAnswer (λ x a. eqb x 0 ≡ a) ks b → has_leaf ks ≡ b
leaf_found ks true h = go (lowest (λ k. eqb (get_or ks k 0) 0) 0 (length ks)) refl
  where
    go : (o : Option ℕ) → lowest (λ k. eqb (get_or ks k 0) 0) 0 (length ks) ≡ o → is_some o ≡ true
    go (Some i) p = refl
    go None p = sym (none_lowest (λ k. eqb (get_or ks k 0) 0) 0 (length ks) p h.0 (omega arith) (omega (arith, h.1))) ∙ h.2 0
leaf_found ks false h = ap is_some (lowest_none (λ k. eqb (get_or ks k 0) 0) 0 (length ks) (λ i _ u. h i 0 (omega arith) (omega arith)))

-- the first ranks of an array are a list, where they are its ranks
pub front : (ks xs : List ℕ) (n : ℕ) → n ≡ length ks → n ≤ length xs → ((k : ℕ) → k < n → get_or xs k 0 ≡ get_or ks k 0) → take n xs ≡ ks
front ks xs n e l h =
    let t = length-take-le n xs l in
    ext_get_or 0 (take n xs) ks (t ∙ e) (λ k i. let u : k < n = omega arith in get_or-take n xs k 0 u ∙ h k u)

-- equal answers about every rank come from equal lists
pub same_answer : (x y : Option ℕ) → same_rank x y ≡ true → x ≡ y
same_answer None None e = refl
same_answer None (Some y) e = cc
same_answer (Some x) None e = cc
same_answer (Some x) (Some y) e = ap (λ (n : ℕ). Some n) (eqb-true x y e)

rank_at : (ks : List ℕ) (k : ℕ) → k < length ks → rank_in ks k ≡ Some (get_or ks k 0)
rank_at ks k l = ap (λ b. cond b (Some (get_or ks k 0)) None) (lt-ltb k (length ks) l)

longer : (ks ls : List ℕ) → length ks ≤ 16 → ((k : ℕ) → k < 16 → same_rank (rank_in ks k) (rank_in ls k) ≡ true) → length ks ≤ length ls
longer ks ls few h = go (dec_lt (length ls) (length ks))
  where
    go : Dec (length ls < length ks) → length ks ≤ length ls
    go (no n) = omega arith
    go (yes l) =
        let e = same_answer (rank_in ks (length ls)) (rank_in ls (length ls)) (h (length ls) (omega arith)) in
        let w = (a_rank ls (length ls) (get_or ks (length ls) 0) (sym (rank_at ks (length ls) l) ∙ e)).0 in
        absurd (omega arith)

pub lists_same : (ks ls : List ℕ) → length ks ≤ 16 → length ls ≤ 16
    → ((k : ℕ) → k < 16 → same_rank (rank_in ks k) (rank_in ls k) ≡ true) → ks ≡ ls
lists_same ks ls a b h =
    let u = longer ks ls a h in
    let v = longer ls ks b (λ k l. turned (rank_in ks k) (rank_in ls k) (h k l)) in
    ext_get_or 0 ks ls (omega arith) (λ k l.
    let e = same_answer (rank_in ks k) (rank_in ls k) (h k (omega arith)) in
    let r : Some (get_or ks k 0) ≡ Some (get_or ls k 0) = sym (rank_at ks k l) ∙ (e ∙ rank_at ls k (omega arith)) in
    cc)
  where
    turned : (x y : Option ℕ) → same_rank x y ≡ true → same_rank y x ≡ true
    turned None None e = refl
    turned None (Some y) e = e
    turned (Some x) None e = e
    turned (Some x) (Some y) e = eq-eqb y x (sym (eqb-true x y e))

pub same_kinds : (ks : List ℕ) → differing ks ks ≡ None
same_kinds ks =
    lowest_none (λ k. not (same_rank (rank_in ks k) (rank_in ks k))) 0 (max (length ks) (length ks)) (λ i _ _. ap not (self (rank_in ks i)))
  where
    self : (x : Option ℕ) → same_rank x x ≡ true
    self None = refl
    self (Some x) = eq-eqb x x refl

-- k is the lowest kind at which the lists differ
pub differ_at : (ks ls : List ℕ) (i : ℕ) → same_rank (rank_in ks i) (rank_in ls i) ≡ false
    → ((k : ℕ) → k < i → same_rank (rank_in ks k) (rank_in ls k) ≡ true) → differing ks ls ≡ Some i
differ_at ks ls i e h = lowest_at (λ k. not (same_rank (rank_in ks k) (rank_in ls k))) 0 (max (length ks) (length ls)) i
    (omega arith) (inside (dec_lt i (length ks)) (dec_lt i (length ls))) (ap not e) (λ j _ u. ap not (h j u))
  where
    beyond : (xs : List ℕ) → length xs ≤ i → rank_in xs i ≡ None
    beyond xs l = ap (λ b. cond b (Some (get_or xs i 0)) None) (le-ltb i (length xs) l)

    inside : Dec (i < length ks) → Dec (i < length ls) → i < 0 + max (length ks) (length ls)
    inside (yes a) _ = omega (arith, le-max_left (length ks) (length ls))
    inside (no a) (yes b) = omega (arith, le-max_right (length ks) (length ls))
    inside (no a) (no b) =
        let p = beyond ks (omega arith) in
        let q = beyond ls (omega arith) in
        let r : same_rank None None ≡ false = ap₂ same_rank (sym p) (sym q) ∙ e in
        cc

-- what a search over 16 kinds finds
pub differ_first : (ks ls : List ℕ) → length ks ≤ 16 → length ls ≤ 16 → (r : Option ℕ)
    → MatchOption r ((k : ℕ) → 0 ≤ k → k < 16 → same_rank (rank_in ks k) (rank_in ls k) ≡ true)
    (λ i. (0 ≤ i) × (i < 16) × (same_rank (rank_in ks i) (rank_in ls i) ≡ false)
    × ((k : ℕ) → 0 ≤ k → k < i → same_rank (rank_in ks k) (rank_in ls k) ≡ true))
    → (differing ks ls ≡ r) × (r ≡ None → ks ≡ ls)
differ_first ks ls a b None h =
    let e = lists_same ks ls a b (λ k l. h k (omega arith) l) in (subst (λ zs. differing ks zs ≡ None) e (same_kinds ks), λ _. e)
differ_first ks ls a b (Some i) h = (differ_at ks ls i h.2 (λ k l. h.3 k (omega arith) l), λ e. cc)

-- with 1 to 16 kinds, only the ranks can be at fault
pub few_kinds : (ks : List ℕ) → 0 < length ks → length ks ≤ 16 → count_fault ks ≡ None
few_kinds ks a b = ap₂ (λ x y. cond (x && y) None (Some (KindCount (length ks)))) (lt-ltb 0 (length ks) a) (le-leb (length ks) 16 b)

pub then_ranks : (ks : List ℕ) (r : Result (Unit {0}) Refusal) → 0 < length ks → length ks ≤ 16
    → Answers (rank_fault ks) (λ _. Unit {0}) r → Answers (list_fault ks) (λ _. KindList ks) r
then_ranks ks (Ok x) a b h =
    let e : rank_fault ks ≡ None = h.0 in
    (ap (λ o. first o (rank_fault ks)) (few_kinds ks a b) ∙ e, (a, b, small_ranks ks e))
then_ranks ks (Err x) a b h = ap (λ o. first o (rank_fault ks)) (few_kinds ks a b) ∙ h
