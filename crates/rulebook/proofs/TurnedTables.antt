-- A reduced table with yes and no exchanged is the reduced table of all other records.
use Rattle.std.proofs.Common.{◌≡◌, ℕ, ◌<◌, ◌≤◌, Bool, true, false, cond, not, ltb, ltb-false, List, ◌++◌, take, drop, length, length-append, length-drop, get_or, Some, None, Ok, unwrap_or, sym, refl, ap, ◌∙◌, ap₂, ◌-◌, arith}
use Rattle.std.proofs.Math.Bool.{not-not}
use Rattle.std.proofs.Math.ListN.{get_or-append}
use Rattle.std.proofs.lemmas.List.{get_or-append_right, get_or-drop, get_or-take, length-take-le}
use mathlib.Core.Logic.{∥∥₁_elim, ∥∥₁_prop}
use native.Mathlib.Nat.{ℕ_set}
use Rattle.ruling.specs.Trees.{Tree, leaf, stem, fork}
use Rattle.ruling.specs.Surroundings.{Surrounding, gap, under, left, right, SurroundingOver, around}
use Rattle.ruling.specs.Meanings.{Meaning, one, two, run}
use Rattle.ruling.specs.ReducedTables.{Reduced}
use Rattle.ruling.proofs.Smallest.{run_below}
use Rattle.ruling.specs.Sets.{Set, Rules, others}
use Rattle.ruling.specs.Questions.{marked}
use Rattle.encoder.specs.declared.table_data.TableData.{TableData}
use Rattle.encoder.specs.Tables.{kinds_held, table_meaning, CopyOf, Clean}
use Rattle.rulebook.specs.declared.rulebook.Rulebook.{Rulebook}
use Rattle.rulebook.specs.Changes.{meaning_of}
use Rattle.rulebook.specs.Calls.{turn, change, count}
use Rattle.rulebook.specs.Outcomes.{TableFor}
use Rattle.rulebook.specs.Histories.{History, called, Stands, Follows}
use Rattle.rulebook.proofs.Stepping.{done}
use Rattle.rulebook.proofs.Gained.{reduced_of}

module _ (m : Meaning) (f : ℕ → Bool) (flip : (s : ℕ) → s < m.states → f s ≡ not (m.mark s)) (red : Reduced m.kinds m) where
  abbrev turned : Meaning
  turned = record { kinds = m.kinds; states = m.states; target = m.target; mark = f }

  run_same : (t : Tree) → run turned t ≡ run m t
  run_same (leaf k) = refl
  run_same (stem k t) = ap (λ x. m.target k x 0) (run_same t)
  run_same (fork k t u) = ap₂ (m.target k) (run_same t) (run_same u)

  around_same : (s : Surrounding) (p : ℕ) → around turned s p ≡ around m s p
  around_same gap p = refl
  around_same (under k s) p = ap (λ x. m.target k x 0) (around_same s p)
  around_same (left k s t) p = ap₂ (m.target k) (around_same s p) (run_same t)
  around_same (right k t s) p = ap₂ (m.target k) (run_same t) (around_same s p)

  around_below : (s : Surrounding) → SurroundingOver m.kinds s → (p : ℕ) → p < m.states → around m s p < m.states
  around_below gap o p l = l
  around_below (under k s) o p l = red.complete k (around m s p) 0 (one o.0 (around_below s o.1 p l) refl)
  around_below (left k s t) o p l = red.complete k (around m s p) (run m t)
      (two o.0 (around_below s o.1 p l) (run_below m.kinds m red.complete t o.2))
  around_below (right k t s) o p l = red.complete k (run m t) (around m s p)
      (two o.0 (run_below m.kinds m red.complete t o.1) (around_below s o.2 p l))

  mark_around : (s : Surrounding) → SurroundingOver m.kinds s → (p : ℕ) → p < m.states → f (around turned s p) ≡ not (m.mark (around m s p))
  mark_around s o p l = ap f (around_same s p) ∙ flip (around m s p) (around_below s o p l)

  pub turned_reduced : Reduced m.kinds turned
  turned_reduced = record {
    complete = red.complete;
    numbered = λ s l. let w = red.numbered s l in
        record { kind = w.kind; first = w.first; second = w.second; fits = w.fits; goes = w.goes; before = w.before };
    distinct = λ p q hp hq e. red.distinct p q hp hq (λ s o.
        let both : not (m.mark (around m s p)) ≡ not (m.mark (around m s q)) = sym (mark_around s o p hp) ∙ (e s o ∙ mark_around s o q hq) in
        sym (not-not (m.mark (around m s p))) ∙ (ap not both ∙ not-not (m.mark (around m s q))));
  }

  turned_table : (S : Set) → Rules m.kinds S m → TableFor m.kinds (others S) turned
  turned_table S r = record {
    rules = record {
      kinds = refl;
      complete = red.complete;
      exact = λ t o. ap f (run_same t) ∙ (flip (run m t) (run_below m.kinds m red.complete t o) ∙ ap not (r.exact t o));
    };
    reduced = turned_reduced;
  }

  pub turn_done : m.states ≤ 32 → (h : History) → Stands h m → Stands (called h (Ok (change turn)) (count m.states)) turned
  turn_done l h s = done h m s red turn turned refl l turned_table

-- The same of a table in memory: the marks of its states are turned, and those behind stay.
module _ (b : Rulebook) (front : List Bool) (long : length front ≡ length (take b.table.inner.states b.table.inner.marks))
    (other : (s : ℕ) → s < length (take b.table.inner.states b.table.inner.marks)
    → get_or front s false ≡ not (get_or (take b.table.inner.states b.table.inner.marks) s false)) where
  abbrev states : ℕ
  states = b.table.inner.states

  abbrev before : List Bool
  before = b.table.inner.marks

  abbrev marks : List Bool
  marks = front ++ drop states before

  abbrev turned_data : TableData
  turned_data = record { count = b.table.inner.count; ranks = b.table.inner.ranks; states = states; marks = marks; cells = b.table.inner.cells }

  room : length before ≡ 32
  room = ∥∥₁_elim b.clean (ℕ_set (length before) 32) (λ p. p.marks_room)

  taken : length (take states before) ≡ states
  taken = length-take-le states before (omega (arith, room, b.table.limited))

  flips : (s : ℕ) → s < states → get_or marks s false ≡ not (get_or before s false)
  flips s h = get_or-append front (drop states before) false s (omega (arith, taken))
      ∙ (other s (omega (arith, taken)) ∙ ap not (get_or-take states before s false h))

  behind : (s : ℕ) → states ≤ s → get_or marks s false ≡ get_or before s false
  behind s h = get_or-append_right front (drop states before) states s false (long ∙ taken) h
      ∙ (get_or-drop states before (s - states) false ∙ ap (λ k. get_or before k false) (omega arith))

  pub data_reduced : Reduced (kinds_held turned_data) (table_meaning turned_data)
  data_reduced = turned_reduced (meaning_of b) (λ s. get_or marks s false) flips (reduced_of b)

  pub data_follows : Follows (meaning_of b) (Ok (change turn)) (count states) (table_meaning turned_data)
  data_follows h s = turn_done (meaning_of b) (λ s. get_or marks s false) flips (reduced_of b) b.table.limited h s

  clean_marks : CopyOf (table_meaning b.table.inner) b.table.inner → (s : ℕ) → s < 32 → get_or marks s false ≡ unwrap_or (marked (table_meaning turned_data) s) false
  clean_marks p s h = go (ltb s states) refl
    where
      go : (t : Bool) → ltb s states ≡ t → get_or marks s false ≡ unwrap_or (cond t (Some (get_or marks s false)) None) false
      go true e = refl
      go false e = behind s (ltb-false s states e) ∙ (p.marks s h ∙ ap (λ t. unwrap_or (cond t (Some (get_or before s false)) None) false) e)

  pub data_clean : Clean b.table.inner → Clean turned_data
  data_clean p = record {
    copy = record { count = p.copy.count; ranks = p.copy.ranks; states = refl; marks = clean_marks p.copy; cells = p.copy.cells };
    ranks_room = p.ranks_room;
    marks_room = omega (arith, length-append front (drop states before), length-drop states before, taken, room, b.table.limited);
    cells_room = p.cells_room;
  }

  pub data_cleaned : ∥ Clean turned_data ∥₁
  data_cleaned = ∥∥₁_elim b.clean ∥∥₁_prop (λ p. ∣ data_clean p ∣₁)
