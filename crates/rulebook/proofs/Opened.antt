-- The table with one state, marked no, is the table of the empty set.
use Rattle.std.proofs.Common.{◌≡◌, ℕ, zero, suc, ◌<◌, Bool, true, false, cond, eqb, ltb, leb, List, length, get_or, is_some, Some, None, Option, unwrap_or, refl, subst, arith, ltb-true, eq-eqb, eqb-true, leb-true}
use Rattle.std.proofs.lemmas.Bool.{and_parts}
use Rattle.ruling.specs.Trees.{Kind}
use Rattle.ruling.specs.Meanings.{Meaning, Fits, none, one, two, Complete, run}
use Rattle.ruling.specs.Checks.{lowest}
use Rattle.ruling.specs.declared.refusal.Refusal.{Refusal}
use Rattle.ruling.specs.KindLists.{KindList, has_leaf, count_fault, rank_fault, list_fault, leaf_fault, opening_fault}
use Rattle.ruling.specs.Sets.{empty}
use Rattle.ruling.specs.ReducedTables.{Next, Before}
use Rattle.ruling.proofs.Lowest.{some_lowest, none_lowest}
use Rattle.ruling.proofs.Lists.{small_ranks}
use Rattle.table.specs.Faults.{first_none}
use Rattle.encoder.specs.declared.table_data.TableData.{TableData}
use Rattle.encoder.specs.Tables.{kinds_held, table_meaning, CopyOf}
use Rattle.encoder.proofs.Copies.{held_kinds, held_count, held_mark, held_target, clean}
use Rattle.ruling.proofs.Smallest.{run_below}
use Rattle.rulebook.specs.Outcomes.{TableFor}
use Rattle.rulebook.specs.Tables.{empty_meaning}

-- The lowest kind of rank 0.
record Leaf (ks : List ℕ) : Type 0 where
  at : ℕ
  kind : Kind ks at 0
  lowest_one : (k : ℕ) → k < at → ¬ Kind ks k 0

a_leaf : (ks : List ℕ) → has_leaf ks ≡ true → Leaf ks
a_leaf ks h = go (lowest (λ k. eqb (get_or ks k 0) 0) 0 (length ks)) refl h
  where
    go : (o : Option ℕ) → lowest (λ k. eqb (get_or ks k 0) 0) 0 (length ks) ≡ o → is_some o ≡ true → Leaf ks
    go (Some k) e f = let w = some_lowest (λ k. eqb (get_or ks k 0) 0) 0 (length ks) k e in record {
      at = k;
      kind = (omega (arith, w.high), eqb-true (get_or ks k 0) 0 w.passes);
      lowest_one = λ j l q. cc (eq-eqb (get_or ks j 0) 0 q.1, w.before j (omega arith) l);
    }
    go None e f = cc

pub leaf_has : (ks : List ℕ) (k : ℕ) → Kind ks k 0 → has_leaf ks ≡ true
leaf_has ks k kind = go (lowest (λ k. eqb (get_or ks k 0) 0) 0 (length ks)) refl
  where
    go : (o : Option ℕ) → lowest (λ k. eqb (get_or ks k 0) 0) 0 (length ks) ≡ o → is_some o ≡ true
    go (Some j) e = refl
    go None e = cc (eq-eqb (get_or ks k 0) 0 kind.1, none_lowest (λ k. eqb (get_or ks k 0) 0) 0 (length ks) e k (omega arith) (omega (arith, kind.0)))

module _ (ks : List ℕ) (m : Meaning) (leafy : has_leaf ks ≡ true) (kinds : m.kinds ≡ ks) (single : m.states ≡ 1)
    (cells : (k a b : ℕ) → Fits ks 1 k a b → m.target k a b ≡ 0) (marks : (s : ℕ) → s < m.states → m.mark s ≡ false) where
  complete : Complete ks m
  complete k a b f = let e = cells k a b (subst (λ n. Fits ks n k a b) single f) in omega arith

  nothing : (k a b : ℕ) → Fits ks 0 k a b → Before k a b (a_leaf ks leafy).at 0 0 → ⊥
  nothing k a b (none x y z) h = let w = a_leaf ks leafy in let l : k < w.at = omega arith in w.lowest_one k l x
  nothing k a b (one x y z) h = omega arith
  nothing k a b (two x y z) h = omega arith

  begin : (s : ℕ) → s < m.states → Next ks m s
  begin zero l = let w = a_leaf ks leafy in record {
    kind = w.at;
    first = 0;
    second = 0;
    fits = none w.kind refl refl;
    goes = cells w.at 0 0 (none w.kind refl refl);
    before = λ k a b f h. absurd (nothing k a b f h);
  }
  begin (suc s) l = absurd (omega arith)

  pub one_state : TableFor ks empty m
  one_state = record {
    rules = record { kinds = kinds; complete = complete; exact = λ t o. marks (run m t) (run_below ks m complete t o) };
    reduced = record { complete = complete; numbered = begin; distinct = λ p q hp hq e. omega arith };
  }

-- Fresh cells and marks hold the answers of one state, marked no: the value there is the one where there is no answer.
pub either_way : {A : Type 0} (b : Bool) (d : A) → unwrap_or (cond b (Some d) None) d ≡ d
either_way true d = refl
either_way false d = refl

cond_none : (t : Bool) (r : Refusal) → cond t None (Some r) ≡ None → t ≡ true
cond_none true r e = refl
cond_none false r e = cc

-- What an opening without fault leaves: a kind list with a leaf kind.
pub opening_list : (ks : List ℕ) → opening_fault ks ≡ None → KindList ks × (has_leaf ks ≡ true)
opening_list ks e =
    let p = first_none (list_fault ks) (leaf_fault ks) e in
    let q = first_none (count_fault ks) (rank_fault ks) p.0 in
    let c = and_parts (ltb 0 (length ks)) (leb (length ks) 16) (cond_none _ _ q.0) in
    ((ltb-true 0 (length ks) c.0, leb-true (length ks) 16 c.1, small_ranks ks q.1), cond_none (has_leaf ks) _ p.1)

-- The table in memory of one state, marked no.
module _ (ks : List ℕ) (t : TableData) (fault : opening_fault ks ≡ None) (long : length t.ranks ≡ 16) (copy : CopyOf (empty_meaning ks) t) where
  list : KindList ks
  list = (opening_list ks fault).0

  pub empty_kinds : kinds_held t ≡ ks
  empty_kinds = held_kinds (empty_meaning ks) t list.1 (omega arith) long copy

  pub empty_count : length (kinds_held t) ≡ t.count
  empty_count = held_count (empty_meaning ks) t list.1 (omega arith) long copy

  pub empty_table : TableFor ks empty (table_meaning t)
  empty_table = one_state ks (table_meaning t) (opening_list ks fault).1 empty_kinds copy.states
      (λ k a b f. held_target (empty_meaning ks) t list.1 (omega arith) long copy k a b f)
      (λ s h. held_mark (empty_meaning ks) t list.1 (omega arith) long copy s (omega (arith, copy.states)))

  pub empty_clean : CopyOf (table_meaning t) t
  empty_clean = clean (empty_meaning ks) t list.1 (omega arith) long copy
