-- Rulings with the same kinds and the same set have one reduction.
use Rattle.std.proofs.Common.{◌≡◌, ℕ, ◌/◌, ◌%◌, ◌<◌, Bool, false, List, length, get_or, Ok, Err, unwrap_or, sym, ap, ◌∙◌, subst, arith}
use Rattle.std.proofs.lemmas.List.{ext_get_or}
use Rattle.ruling.specs.declared.refusal.Refusal.TheVariants.{TooManyStates}
use Rattle.ruling.specs.Trees.{Over}
use Rattle.ruling.specs.Meanings.{Meaning, Complete, accepts}
use Rattle.ruling.specs.Questions.{rank_in}
use Rattle.ruling.specs.Sets.{Agree, Rules, Need}
use Rattle.ruling.specs.ReducedTables.{Equal}
use Rattle.ruling.specs.WrittenTables.{TableOf}
use Rattle.ruling.proofs.ArgumentLists.{equal_marked, equal_targeted}
use Rattle.ruling.proofs.Plugging.{agree_back, agree_on}
use Rattle.ruling.proofs.Uniqueness.{one_table}
use Rattle.ruling.proofs.TablesOf.{table_of_each}
use Rattle.ruling.proofs.Needing.{one_need}
use Rattle.encoder.specs.declared.table_in_memory.Table.{Table}
use Rattle.encoder.specs.declared.table_data.TableData.{TableData}
use Rattle.encoder.specs.Tables.{cell_place, table_meaning, Clean}
use Rattle.reduction.specs.Reductions.{OneReduction}

-- What rules a set for one ruling rules it for the other.
rules_agree : (m n d : Meaning) → Agree m n → Rules m.kinds (accepts m) d → Rules n.kinds (accepts n) d
rules_agree m n d g r = record {
  kinds = r.kinds ∙ g.kinds;
  complete = subst (λ ks. Complete ks d) g.kinds r.complete;
  exact = λ t o. let v = subst (λ ks. Over ks t) (sym g.kinds) o in r.exact t v ∙ g.trees t v;
}

need_agree : (m n : Meaning) (c : ℕ) → Agree m n → Need m.kinds (accepts m) c → Need n.kinds (accepts n) c
need_agree m n c g x = record {
  ruling = x.ruling;
  rules = rules_agree m n x.ruling g x.rules;
  states = x.states;
  least = λ d r. x.least d (rules_agree n m d (agree_back m n g) r);
}

-- A table of at most 32 states needs no more.
too_many : (m n : Meaning) (t : Table) (c : ℕ) → Agree m n → TableOf m.kinds m (table_meaning t.inner) → 32 < c → Need n.kinds (accepts n) c → ⊥
too_many m n t c g x h need =
    let w = (table_of_each m (table_meaning t.inner)).1 x in
    let v = agree_on (table_meaning t.inner) m n w.1 g in
    let r : Rules n.kinds (accepts n) (table_meaning t.inner) = record {
      kinds = v.kinds;
      complete = subst (λ ks. Complete ks (table_meaning t.inner)) v.kinds w.0.complete;
      exact = λ u o. v.trees u (subst (λ ks. Over ks u) (sym v.kinds) o);
    } in
    omega (arith, need.least (table_meaning t.inner) r, t.limited)

made : ℕ → List ℕ → ℕ → List Bool → List ℕ → TableData
made k r s m c = record { count = k; ranks = r; states = s; marks = m; cells = c }

same_fields : (t u : TableData) → t.count ≡ u.count → t.ranks ≡ u.ranks → t.states ≡ u.states → t.marks ≡ u.marks → t.cells ≡ u.cells → t ≡ u
unfolding made
same_fields t u a b c d e =
    ap (λ x. made x t.ranks t.states t.marks t.cells) a
    ∙ (ap (λ x. made u.count x t.states t.marks t.cells) b
    ∙ (ap (λ x. made u.count u.ranks x t.marks t.cells) c
    ∙ (ap (λ x. made u.count u.ranks u.states x t.cells) d
    ∙ ap (λ x. made u.count u.ranks u.states u.marks x) e)))

-- Tables that mean the same and hold nothing beside are the same.
module _ (t u : TableData) (p : Clean t) (q : Clean u) (e : Equal (table_meaning t) (table_meaning u)) where
  same_rank : (k : ℕ) → k < 16 → get_or t.ranks k 0 ≡ get_or u.ranks k 0
  same_rank k h = p.copy.ranks k h ∙ (ap (λ ks. unwrap_or (rank_in ks k) 0) e.kinds ∙ sym (q.copy.ranks k h))

  same_mark : (s : ℕ) → s < 32 → get_or t.marks s false ≡ get_or u.marks s false
  same_mark s h = p.copy.marks s h ∙ (ap (λ o. unwrap_or o false) (equal_marked (table_meaning t) (table_meaning u) e s) ∙ sym (q.copy.marks s h))

  same_cell : (i : ℕ) → i < 16384 → get_or t.cells i 0 ≡ get_or u.cells i 0
  same_cell i h =
      let back : cell_place (i / 1024) (i / 32 % 32) (i % 32) ≡ i = omega arith in
      subst (λ j. get_or t.cells j 0 ≡ get_or u.cells j 0) back
      (p.copy.cells (i / 1024) (i / 32 % 32) (i % 32) (omega arith) (omega arith) (omega arith)
      ∙ (ap (λ o. unwrap_or o 0) (equal_targeted (table_meaning t) (table_meaning u) e (i / 1024) (i / 32 % 32) (i % 32)) ∙ sym (q.copy.cells (i / 1024) (i / 32 % 32) (i % 32) (omega arith) (omega arith) (omega arith))))

  same_table : t ≡ u
  same_table = same_fields t u
      (p.copy.count ∙ (ap length e.kinds ∙ sym q.copy.count))
      (ext_get_or 0 t.ranks u.ranks (p.ranks_room ∙ sym q.ranks_room) (λ k h. same_rank k (omega (arith, p.ranks_room))))
      e.states
      (ext_get_or false t.marks u.marks (p.marks_room ∙ sym q.marks_room) (λ s h. same_mark s (omega (arith, p.marks_room))))
      (ext_get_or 0 t.cells u.cells (p.cells_room ∙ sym q.cells_room) (λ i h. same_cell i (omega (arith, p.cells_room))))

equal_tables : (m n t u : Meaning) → Agree m n → TableOf m.kinds m t → TableOf n.kinds n u → Equal t u
equal_tables m n t u g x y =
    let v = (table_of_each m t).1 x in
    let w = (table_of_each n u).1 y in
    one_table t u v.0 w.0 (agree_on t m u v.1 (agree_on m n u g (agree_back u n w.1)))

pub one_reduction : OneReduction
one_reduction m n (Ok t) (Ok u) g x y = ap Ok (same_table t.inner u.inner x.1 y.1 (equal_tables m n _ _ g x.0 y.0))
one_reduction m n (Ok t) (Err r) g x (c, e, h, need) = absurd (too_many m n t c g x.0 h need)
one_reduction m n (Err r) (Ok u) g (c, e, h, need) y = absurd (too_many n m u c (agree_back m n g) y.0 h need)
one_reduction m n (Err r) (Err q) g (c, e, h, need) (d, f, k, other) =
    ap Err (e ∙ (ap TooManyStates (one_need n.kinds (accepts n) c d (need_agree m n c g need) other) ∙ sym f))
