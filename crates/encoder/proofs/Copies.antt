-- A table that holds the answers of what is meant means it, and is the same table as a ruling with these answers.
use Rattle.std.proofs.Common.{◌≡◌, ℕ, ◌<◌, ◌≤◌, Bool, true, false, cond, ◌&&◌, ltb, List, length, get_or, is_ok, Some, None, Ok, Err, Result, unwrap_or, sym, refl, ap, ◌∙◌, subst, ap₂, arith}
use Rattle.std.proofs.lemmas.List.{get_or_past}
use Rattle.std.proofs.lemmas.Bool.{ltb-false}
use Rattle.ruling.specs.declared.refusal.Refusal.{Refusal}
use Rattle.ruling.specs.declared.refusal.Refusal.TheVariants.{NoLeafKind}
use Rattle.ruling.specs.Checks.{Answers}
use Rattle.ruling.specs.KindLists.{has_leaf, leaf_fault}
use Rattle.ruling.specs.Meanings.{Meaning, Fits, none, one, two, Complete}
use Rattle.ruling.specs.Questions.{rank_in, fitting, targeted, marked}
use Rattle.ruling.proofs.Lists.{front}
use Rattle.ruling.proofs.ArgumentLists.{fits_kind, fits_targeted, state_marked}
use Rattle.encoder.specs.declared.table_data.TableData.{TableData}
use Rattle.encoder.specs.Tables.{cell_place, kinds_held, table_meaning, Equal, CopyOf}

-- The states of an argument list over at most 32 states are below 32.
pub fits_small : (ks : List ℕ) (s k a b : ℕ) → s ≤ 32 → Fits ks s k a b → (a < 32) × (b < 32)
fits_small ks s k a b h (none x y z) = (omega arith, omega arith)
fits_small ks s k a b h (one x y z) = (omega arith, omega arith)
fits_small ks s k a b h (two x y z) = (omega arith, omega arith)

rank_value : (ks : List ℕ) (k : ℕ) → unwrap_or (rank_in ks k) 0 ≡ get_or ks k 0
rank_value ks k = go (ltb k (length ks)) refl
  where
    go : (b : Bool) → ltb k (length ks) ≡ b → unwrap_or (cond b (Some (get_or ks k 0)) None) 0 ≡ get_or ks k 0
    go true e = refl
    go false e = sym (get_or_past ks k 0 (ltb-false k (length ks) e))

pub leaf_told : (ks : List ℕ) (r : Result (Unit {0}) Refusal) → Answers (leaf_fault ks) (λ _. Unit {0}) r → is_ok r ≡ has_leaf ks
leaf_told ks r h = go r (has_leaf ks) h
  where
    go : (r : Result (Unit {0}) Refusal) (b : Bool) → Answers (cond b None (Some NoLeafKind)) (λ _. Unit {0}) r → is_ok r ≡ b
    go (Ok x) true h = refl
    go (Ok x) false h = let e = h.0 in cc
    go (Err x) true h = cc
    go (Err x) false h = refl

-- A table that holds the answers of c means c, and nothing beside.
module _ (c : Meaning) (t : TableData) (few_kinds : length c.kinds ≤ 16) (few : c.states ≤ 32) (long : length t.ranks ≡ 16) (copy : CopyOf c t) where
  pub held_kinds : kinds_held t ≡ c.kinds
  held_kinds = front c.kinds t.ranks t.count copy.count (omega (arith, copy.count)) (λ k h. copy.ranks k (omega (arith, copy.count)) ∙ rank_value c.kinds k)

  pub held_count : length (kinds_held t) ≡ t.count
  held_count = ap length held_kinds ∙ sym copy.count

  pub held_mark : (s : ℕ) → s < c.states → (table_meaning t).mark s ≡ c.mark s
  held_mark s h = copy.marks s (omega arith) ∙ ap (λ o. unwrap_or o false) (state_marked c s h)

  pub held_target : (k a b : ℕ) → Fits c.kinds c.states k a b → (table_meaning t).target k a b ≡ c.target k a b
  held_target k a b f = let v = fits_small c.kinds c.states k a b few f in
      copy.cells k a b (omega (arith, fits_kind c.kinds c.states k a b f)) v.0 v.1 ∙ ap (λ o. unwrap_or o 0) (fits_targeted c k a b f)

  clean_mark : (s : ℕ) → s < 32 → get_or t.marks s false ≡ unwrap_or (marked (table_meaning t) s) false
  clean_mark s h = go (ltb s t.states) refl
    where
      go : (b : Bool) → ltb s t.states ≡ b → get_or t.marks s false ≡ unwrap_or (cond b (Some (get_or t.marks s false)) None) false
      go true e = refl
      go false e = copy.marks s h ∙ ap (λ b. unwrap_or (cond b (Some (c.mark s)) None) false) (ap (ltb s) (sym copy.states) ∙ e)

  clean_cell : (k a b : ℕ) → k < 16 → a < 32 → b < 32 → get_or t.cells (cell_place k a b) 0 ≡ unwrap_or (targeted (table_meaning t) k a b) 0
  clean_cell k a b hk ha hb = go (ltb k (length (kinds_held t)) && fitting t.states (get_or (kinds_held t) k 0) a b) refl
    where
      same : (ltb k (length c.kinds) && fitting c.states (get_or c.kinds k 0) a b) ≡ (ltb k (length (kinds_held t)) && fitting t.states (get_or (kinds_held t) k 0) a b)
      same = ap₂ (λ ks n. ltb k (length ks) && fitting n (get_or ks k 0) a b) (sym held_kinds) (sym copy.states)

      go : (b' : Bool) → (ltb k (length (kinds_held t)) && fitting t.states (get_or (kinds_held t) k 0) a b) ≡ b'
          → get_or t.cells (cell_place k a b) 0 ≡ unwrap_or (cond b' (Some (get_or t.cells (cell_place k a b) 0)) None) 0
      go true e = refl
      go false e = copy.cells k a b hk ha hb ∙ ap (λ z. unwrap_or (cond z (Some (c.target k a b)) None) 0) (same ∙ e)

  pub clean : CopyOf (table_meaning t) t
  clean = record {
    count = sym held_count;
    ranks = λ k h. copy.ranks k h ∙ ap (λ ks. unwrap_or (rank_in ks k) 0) (sym held_kinds);
    states = refl;
    marks = clean_mark;
    cells = clean_cell;
  }

  -- it is the same table
  moved : (k a b : ℕ) → Fits (kinds_held t) t.states k a b → Fits c.kinds c.states k a b
  moved k a b w = subst (λ n. Fits c.kinds n k a b) copy.states (subst (λ ks. Fits ks t.states k a b) held_kinds w)

  pub held_equal : Equal (table_meaning t) c
  held_equal = record {
    kinds = held_kinds;
    states = copy.states;
    mark = λ s l. held_mark s (omega (arith, copy.states));
    target = λ k a b w. held_target k a b (moved k a b w);
  }

  pub held_complete : Complete c.kinds c → Complete (kinds_held t) (table_meaning t)
  held_complete full k a b w =
      let e = held_target k a b (moved k a b w) in
      let l = full k a b (moved k a b w) in
      let n = copy.states in omega arith
