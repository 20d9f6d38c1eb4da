-- No complete ruling with a reduced table's set has fewer states.
use Rattle.std.proofs.Common.{◌≡◌, ℕ, ◌<◌, ◌≤◌, List, sym, refl, ap, ◌∙◌, subst}
use Rattle.ruling.specs.Trees.{Tree, leaf, stem, fork, Over}
use Rattle.ruling.specs.Meanings.{Meaning, Complete, none, one, two, run, accepts}
use Rattle.ruling.specs.Surroundings.{plug, around}
use Rattle.ruling.specs.Classes.{Reached, Same}
use Rattle.ruling.specs.ReducedTables.{Reduced}
use Rattle.ruling.specs.Theorems.{Smallest}
use Rattle.ruling.proofs.Plugging.{plugging, plug_over}
use Rattle.ruling.proofs.Pigeons.{pigeons}
use Rattle.ruling.proofs.Growth.{reached}

-- a complete ruling runs to its states
pub run_below : (ks : List ℕ) (m : Meaning) → Complete ks m → (t : Tree) → Over ks t → run m t < m.states
run_below ks m full (leaf k) o = full k 0 0 (none o refl refl)
run_below ks m full (stem k t) o = full k (run m t) 0 (one o.0 (run_below ks m full t o.1) refl)
run_below ks m full (fork k t u) o =
    full k (run m t) (run m u) (two o.0 (run_below ks m full t o.1) (run_below ks m full u o.2))

-- so the states that it reaches are its states
pub reached_below : (ks : List ℕ) (m : Meaning) → Complete ks m → (p : ℕ) → Reached ks m p → p < m.states
reached_below ks m full p h = subst (λ x. x < m.states) h.runs (run_below ks m full h.tree h.over)

-- m and n accept the same records over the kinds ks
abbrev pub Agreeing : List ℕ → Meaning → Meaning → Type 0
Agreeing ks m n = (t : Tree) → Over ks t → accepts m t ≡ accepts n t

-- a state is of its own class
pub equal_same : (ks : List ℕ) (m : Meaning) (p q : ℕ) → p ≡ q → Same ks m p q
equal_same ks m p q e s o = ap (λ z. m.mark (around m s z)) e

-- records that run to states of one class in n run to states of one class in m
pub alike : (ks : List ℕ) (m n : Meaning) → Agreeing ks m n → (t u : Tree) → Over ks t → Over ks u → Same ks n (run n t) (run n u)
    → Same ks m (run m t) (run m u)
alike ks m n agree t u ot ou same s os =
    ap m.mark (sym (plugging m s t)) ∙ (agree (plug s t) (plug_over ks s t os ot)
    ∙ (ap n.mark (plugging n s t) ∙ (same s os ∙ (ap n.mark (sym (plugging n s u))
    ∙ (sym (agree (plug s u) (plug_over ks s u os ou)) ∙ ap m.mark (plugging m s u))))))

-- those that run to one state in n run to one in m if m is reduced
pub transfer : (ks : List ℕ) (m n : Meaning) → Reduced ks m → Agreeing ks m n → (t u : Tree) → Over ks t → Over ks u
    → run n t ≡ run n u → run m t ≡ run m u
transfer ks m n r agree t u ot ou e = r.distinct (run m t) (run m u)
    (run_below ks m r.complete t ot) (run_below ks m r.complete u ou) (alike ks m n agree t u ot ou (equal_same ks n (run n t) (run n u) e))

pub fewest : (ks : List ℕ) (m n : Meaning) → Reduced ks m → Complete ks n → Agreeing ks m n → m.states ≤ n.states
fewest ks m n r full agree = pigeons m.states n.states
    (λ i h. run n (reached ks m r.numbered i h).tree)
    (λ i h. run_below ks n full (reached ks m r.numbered i h).tree (reached ks m r.numbered i h).over)
    (λ i j h g e. let u = reached ks m r.numbered i h in let v = reached ks m r.numbered j g in
    sym u.runs ∙ (transfer ks m n r agree u.tree v.tree u.over v.over e ∙ v.runs))

pub smallest : Smallest
smallest t m r full g = fewest t.kinds t m r (subst (λ ks. Complete ks m) (sym g.kinds) full) g.trees
