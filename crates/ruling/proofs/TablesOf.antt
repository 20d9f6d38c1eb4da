-- The table of a ruling is the reduced table with the ruling's set, and there is one.
use Rattle.std.proofs.Common.{◌≡◌, ℕ, ◌<◌, List, sym, ap, ◌∙◌, subst, ap₂, subst₂}
use Rattle.ruling.specs.Trees.{Tree, leaf, stem, fork, Over}
use Rattle.ruling.specs.Meanings.{Meaning, run}
use Rattle.ruling.specs.Classes.{Reached, Same}
use Rattle.ruling.specs.ReducedTables.{Reduced}
use Rattle.ruling.specs.WrittenTables.{TableOf}
use Rattle.ruling.specs.Theorems.{TableOfEach, OneWritten}
use Rattle.ruling.proofs.Plugging.{agree_back, agree_on}
use Rattle.ruling.proofs.Growth.{run_reached, reached}
use Rattle.ruling.proofs.Smallest.{run_below, Agreeing, equal_same, alike, transfer}
use Rattle.ruling.proofs.Uniqueness.{one_table}
use Rattle.ruling.proofs.Files.{same_file}

-- a reduced table with the set of m is the table of m: the class of a reached state is the state that its record runs to
module _ (ks : List ℕ) (m t : Meaning) (r : Reduced ks t) (agree : Agreeing ks t m) where
  -- records that run to one state of the ruling run to one state of the table
  carried : (x y : Tree) → Over ks x → Over ks y → run m x ≡ run m y → run t x ≡ run t y
  carried = transfer ks t m r agree

  below : (x : Tree) → Over ks x → run t x < t.states
  below = run_below ks t r.complete

  reduced_table : t.kinds ≡ ks → TableOf ks m t
  reduced_table same = record {
    kinds = same;
    complete = r.complete;
    class = λ p x. run t x.tree;
    one_class = λ p q x y. (
      (λ e. subst₂ (Same ks m) x.runs y.runs (alike ks m t (λ z o. sym (agree z o)) x.tree y.tree x.over y.over
          (equal_same ks t (run t x.tree) (run t y.tree) e))),
      (λ e. r.distinct (run t x.tree) (run t y.tree) (below x.tree x.over) (below y.tree y.over)
          (alike ks t m agree x.tree y.tree x.over y.over (subst₂ (Same ks m) (sym x.runs) (sym y.runs) e))),
    );
    state = λ p x. below x.tree x.over;
    member = λ s h. run m (at s h).tree;
    reached = λ s h. run_reached ks m (at s h).tree (at s h).over;
    member_of = λ s h. (at s h).runs;
    marks = λ p x. agree x.tree x.over ∙ ap m.mark x.runs;
    leaves = λ k h x. carried (leaf k) x.tree h x.over (sym x.runs);
    stems = λ k p h x z. carried (stem k x.tree) z.tree (h, x.over) z.over (ap (λ w. m.target k w 0) x.runs ∙ sym z.runs);
    forks = λ k p q h x y z. carried (fork k x.tree y.tree) z.tree (h, x.over, y.over) z.over
        (ap₂ (m.target k) x.runs y.runs ∙ sym z.runs);
    numbered = r.numbered;
  }
    where
      at : (s : ℕ) → s < t.states → Reached ks t s
      at = reached ks t r.numbered

-- the other way round: the table of a ruling is reduced and has the ruling's set
module _ (ks : List ℕ) (m t : Meaning) (v : TableOf ks m t) where
  -- a record runs to the class of its state in the ruling
  run_class : (x : Tree) (o : Over ks x) → run t x ≡ v.class (run m x) (run_reached ks m x o)
  run_class (leaf k) o = v.leaves k o (run_reached ks m (leaf k) o)
  run_class (stem k x) o = ap (λ z. t.target k z 0) (run_class x o.1)
      ∙ v.stems k (run m x) o.0 (run_reached ks m x o.1) (run_reached ks m (stem k x) o)
  run_class (fork k x y) o = ap₂ (t.target k) (run_class x o.1) (run_class y o.2)
      ∙ v.forks k (run m x) (run m y) o.0 (run_reached ks m x o.1) (run_reached ks m y o.2) (run_reached ks m (fork k x y) o)

  same_set : Agreeing ks t m
  same_set x o = ap t.mark (run_class x o) ∙ v.marks (run m x) (run_reached ks m x o)

  -- the record of a state's member runs to the state
  runs_to : (s : ℕ) (h : s < t.states) → run t (v.reached s h).tree ≡ s
  runs_to s h =
      let x = v.reached s h in
      run_class x.tree x.over ∙ ((v.one_class (run m x.tree) (v.member s h) (run_reached ks m x.tree x.over) x).1
      (equal_same ks m (run m x.tree) (v.member s h) x.runs) ∙ v.member_of s h)

  table_reduced : Reduced ks t
  table_reduced = record {
    complete = v.complete;
    numbered = v.numbered;
    distinct = λ p q hp hq e. let x = v.reached p hp in let y = v.reached q hq in
        let same = alike ks m t (λ z o. sym (same_set z o)) x.tree y.tree x.over y.over
        (subst₂ (Same ks t) (sym (runs_to p hp)) (sym (runs_to q hq)) e) in
        sym (v.member_of p hp) ∙ ((v.one_class (v.member p hp) (v.member q hq) x y).1 (subst₂ (Same ks m) x.runs y.runs same)
        ∙ v.member_of q hq);
  }

pub table_of_each : TableOfEach
table_of_each m t = (
  (λ w. let g = w.1 in reduced_table m.kinds m t (subst (λ ks. Reduced ks t) g.kinds w.0)
      (λ x o. g.trees x (subst (λ ks. Over ks x) (sym g.kinds) o)) g.kinds),
  (λ v. (
    subst (λ ks. Reduced ks t) (sym v.kinds) (table_reduced m.kinds m t v),
    record {
      kinds = v.kinds;
      trees = λ x o. same_set m.kinds m t v x (subst (λ ks. Over ks x) v.kinds o);
    },
  )),
)

pub one_written : OneWritten
one_written m n xs ys agree v w =
    let t = v.table in
    let u = w.table in
    let p = (table_of_each m t).1 v.of in
    let q = (table_of_each n u).1 w.of in
    let g = agree_on t m u p.1 (agree_on m n u agree (agree_back u n q.1)) in
    v.written ∙ (same_file t u (one_table t u p.0 q.0 g) ∙ sym w.written)
