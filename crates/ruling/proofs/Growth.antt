-- States are reached one after another, from those reached before.
use Rattle.std.proofs.Common.{◌≡◌, ℕ, zero, suc, ◌<◌, List, sym, refl, ap, ◌∙◌, subst, ap₂, arith}
use Rattle.ruling.specs.Trees.{Tree, leaf, stem, fork, Kind, Over}
use Rattle.ruling.specs.Meanings.{Meaning, Fits, none, one, two, run}
use Rattle.ruling.specs.Classes.{Reached}
use Rattle.ruling.specs.ReducedTables.{Next}
use Rattle.ruling.specs.Theorems.{AllReached}

-- a record's state is reached, and the targets of reached states are
abbrev pub run_reached : (ks : List ℕ) (m : Meaning) (t : Tree) → Over ks t → Reached ks m (run m t)
run_reached ks m t o = record { tree = t; over = o; runs = refl }

pub stem_reached : (ks : List ℕ) (m : Meaning) (k p : ℕ) → Kind ks k 1 → Reached ks m p → Reached ks m (m.target k p 0)
stem_reached ks m k p kind h = record { tree = stem k h.tree; over = (kind, h.over); runs = ap (λ x. m.target k x 0) h.runs }

pub fork_reached : (ks : List ℕ) (m : Meaning) (k p q : ℕ) → Kind ks k 2 → Reached ks m p → Reached ks m q → Reached ks m (m.target k p q)
fork_reached ks m k p q kind h g = record {
  tree = fork k h.tree g.tree;
  over = (kind, h.over, g.over);
  runs = ap₂ (m.target k) h.runs g.runs;
}

-- what holds of the leaves' targets, and of the targets of states that it holds of, holds of each reached state
pub holds_reached : (ks : List ℕ) (m : Meaning) (In : ℕ → Type 0) → ((k : ℕ) → Kind ks k 0 → In (m.target k 0 0))
    → ((k a : ℕ) → Kind ks k 1 → In a → In (m.target k a 0))
    → ((k a b : ℕ) → Kind ks k 2 → In a → In b → In (m.target k a b))
    → (p : ℕ) → Reached ks m p → In p
holds_reached ks m In leaves stems forks p h = subst In h.runs (go h.tree h.over)
  where
    go : (t : Tree) → Over ks t → In (run m t)
    go (leaf k) o = leaves k o
    go (stem k t) o = stems k (run m t) o.0 (go t o.1)
    go (fork k t u) o = forks k (run m t) (run m u) o.0 (go t o.1) (go u o.2)

-- what holds of a number if it holds of all lower ones holds of all
below : (P : ℕ → Type 0) → ((n : ℕ) → ((i : ℕ) → i < n → P i) → P n) → (n i : ℕ) → i < n → P i
below P step zero i h = absurd (omega arith)
below P step (suc n) i h = step i (λ j g. below P step n j (omega arith))

pub strong : (P : ℕ → Type 0) → ((n : ℕ) → ((i : ℕ) → i < n → P i) → P n) → (n : ℕ) → P n
strong P step n = step n (below P step n)

-- one record that runs to p in t and to q in u
pub record Both (ks : List ℕ) (t u : Meaning) (p q : ℕ) : Type 0 where
  pub tree : Tree
  pub over : Over ks tree
  pub there : run t tree ≡ p
  pub here : run u tree ≡ q

-- where each state below s has such a record, so has the target of each argument list over them
pub made : (ks : List ℕ) (t u : Meaning) (s k a b : ℕ) → ((i : ℕ) → i < s → Both ks t u i i)
    → Fits ks s k a b → Both ks t u (t.target k a b) (u.target k a b)
made ks t u s k a b have (none kind x y) = record {
  tree = leaf k;
  over = kind;
  there = ap₂ (t.target k) (sym x) (sym y);
  here = ap₂ (u.target k) (sym x) (sym y);
}
made ks t u s k a b have (one kind x y) = let v = have a x in record {
  tree = stem k v.tree;
  over = (kind, v.over);
  there = ap₂ (t.target k) v.there (sym y);
  here = ap₂ (u.target k) v.here (sym y);
}
made ks t u s k a b have (two kind x y) = let v = have a x in let w = have b y in record {
  tree = fork k v.tree w.tree;
  over = (kind, v.over, w.over);
  there = ap₂ (t.target k) v.there w.there;
  here = ap₂ (u.target k) v.here w.here;
}

-- each state that the search has numbered is reached
pub reached : (ks : List ℕ) (m : Meaning) → ((s : ℕ) → s < m.states → Next ks m s) → (s : ℕ) → s < m.states → Reached ks m s
reached ks m numbered s h = let b = grown s h in record { tree = b.tree; over = b.over; runs = b.there }
  where
    grown : (s : ℕ) → s < m.states → Both ks m m s s
    grown = strong (λ s. s < m.states → Both ks m m s s) (λ s have h.
        let f = numbered s h in
        let b = made ks m m s f.kind f.first f.second (λ i g. have i g (omega arith)) f.fits in
        record { tree = b.tree; over = b.over; there = b.there ∙ f.goes; here = b.here ∙ f.goes })

pub all_reached : AllReached
all_reached t r = reached t.kinds t r.numbered
