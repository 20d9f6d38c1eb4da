-- The reckonings of states and sizes.
use Rattle.std.proofs.Common.{◌≡◌, ℕ, ◌+◌, ◌<◌, ◌≤◌, max, false, cond, Some, None, unwrap_or, refl, ap, ◌∙◌, ap₂, arith}
use Rattle.std.proofs.lemmas.Bool.{lt-ltb}
use Rattle.ruling.specs.Trees.{Tree, leaf, stem, fork, Over, node_count, height_of}
use Rattle.ruling.specs.Meanings.{Fits, run, accepts}
use Rattle.ruling.specs.Meanings.Fits.{none, one, two}
use Rattle.ruling.specs.Questions.{marked}
use Rattle.ruling.specs.Rulings.{Ruled}
use Rattle.ruling.proofs.ArgumentLists.{fits_told}
use Rattle.judging.specs.Reckonings.{reckoned}
use Rattle.judging.specs.States.{state_at}
use Rattle.judging.specs.Tallies.{capped, leaf_size, stem_size, fork_size, size_of}

module _ (m : Ruled) where
  -- an argument list has its target, a state
  state_is : (k a b : ℕ) → Fits m.plain.kinds m.plain.states k a b → (state_at m.plain k a b ≡ m.plain.target k a b) × (m.plain.target k a b < m.plain.states)
  state_is k a b f =
      (ap (λ c. unwrap_or (cond c (Some (m.plain.target k a b)) None) 0) (fits_told m.plain.kinds m.plain.states k a b f), m.complete k a b f)

  abbrev state_of : Tree → ℕ
  state_of t = reckoned (λ k. state_at m.plain k 0 0) (λ k a. state_at m.plain k a 0) (λ k a b. state_at m.plain k a b) t

  -- the reckoned state of a record over the ruling's kinds is that of its run
  pub runs : (t : Tree) → Over m.plain.kinds t → (state_of t ≡ run m.plain t) × (run m.plain t < m.plain.states)
  runs (leaf k) o = state_is k 0 0 (none o refl refl)
  runs (stem k t) o =
      let i = runs t o.1 in
      let s = state_is k (run m.plain t) 0 (one o.0 i.1 refl) in
      (ap (λ (a : ℕ). state_at m.plain k a 0) i.0 ∙ s.0, s.1)
  runs (fork k t u) o =
      let i = runs t o.1 in
      let j = runs u o.2 in
      let s = state_is k (run m.plain t) (run m.plain u) (two o.0 i.1 j.1) in
      (ap₂ (λ (a b : ℕ). state_at m.plain k a b) i.0 j.0 ∙ s.0, s.1)

  -- and its mark says whether the record is accepted
  pub accepted : (t : Tree) → Over m.plain.kinds t → unwrap_or (marked m.plain (state_of t)) false ≡ accepts m.plain t
  accepted t o =
      let i = runs t o in
      ap (λ (s : ℕ). unwrap_or (marked m.plain s) false) i.0
      ∙ ap (λ c. unwrap_or (cond c (Some (m.plain.mark (run m.plain t))) None) false) (lt-ltb (run m.plain t) m.plain.states i.1)

-- a record is not higher than it has nodes
height_few : (t : Tree) → height_of t ≤ node_count t
height_few (leaf k) = omega arith
height_few (stem k t) = let i = height_few t in omega arith
height_few (fork k t u) =
    let i = height_few t in
    let j = height_few u in
    omega arith

-- the reckoned size of a record of at most 4,096 nodes
pub sizes : (t : Tree) → node_count t ≤ 4096 → reckoned (λ _. leaf_size) (λ _ a. stem_size a) (λ _ a b. fork_size a b) t ≡ size_of t
sizes (leaf k) l = refl
sizes (stem k t) l =
    let i = sizes t (omega arith) in
    let h = height_few t in
    let a : capped (node_count t + 1) ≡ node_count t + 1 = omega arith in
    let b : capped (height_of t + 1) ≡ height_of t + 1 = omega arith in
    ap stem_size i ∙ ap₂ (λ (x y : ℕ). record { nodes = x; height = y }) a b
sizes (fork k t u) l =
    let i = sizes t (omega arith) in
    let j = sizes u (omega arith) in
    let h = height_few t in
    let g = height_few u in
    let a : capped (capped (node_count t + node_count u) + 1) ≡ node_count t + node_count u + 1 = omega arith in
    let b : capped (max (height_of t) (height_of u) + 1) ≡ max (height_of t) (height_of u) + 1 = omega arith in
    ap₂ fork_size i j ∙ ap₂ (λ (x y : ℕ). record { nodes = x; height = y }) a b
