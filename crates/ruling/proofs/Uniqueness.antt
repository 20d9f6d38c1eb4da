-- Reduced tables with the same kinds and the same set are equal, and equal tables have the same set.
use Rattle.std.proofs.Common.{◌≡◌, ℕ, ◌<◌, ◌⊎◌, List, sym, refl, ap, ◌∙◌, subst, ap₂, inl, inr, arith}
use native.Mathlib.Decide.{dec_lt}
use Rattle.ruling.specs.Trees.{Tree, leaf, stem, fork, Over}
use Rattle.ruling.specs.Meanings.{Meaning, Fits, none, one, two, Complete, run}
use Rattle.ruling.specs.Sets.{Agree}
use Rattle.ruling.specs.ReducedTables.{Before, Next, Reduced, Equal}
use Rattle.ruling.specs.Theorems.{OneTable}
use Rattle.ruling.proofs.Growth.{strong, Both, made}
use Rattle.ruling.proofs.Smallest.{run_below, Agreeing, transfer, fewest}

three : (a b : ℕ) → (a < b) ⊎ ((a ≡ b) ⊎ (b < a))
three a b = go (dec_lt a b) (dec_lt b a)
  where
    go : Dec (a < b) → Dec (b < a) → (a < b) ⊎ ((a ≡ b) ⊎ (b < a))
    go (yes h) _ = inl h
    go (no h) (yes g) = inr (inr g)
    go (no h) (no g) = inr (inl (omega arith))

-- of two argument lists, one is before the other, or they are the same
pub order : (k a b l c d : ℕ) → Before k a b l c d ⊎ (((k ≡ l) × (a ≡ c) × (b ≡ d)) ⊎ Before l c d k a b)
order k a b l c d = go (three k l) (three a c) (three b d)
  where
    go : (k < l) ⊎ ((k ≡ l) ⊎ (l < k)) → (a < c) ⊎ ((a ≡ c) ⊎ (c < a)) → (b < d) ⊎ ((b ≡ d) ⊎ (d < b))
        → Before k a b l c d ⊎ (((k ≡ l) × (a ≡ c) × (b ≡ d)) ⊎ Before l c d k a b)
    go (inl h) _ _ = inl (inl h)
    go (inr (inr h)) _ _ = inr (inr (inl h))
    go (inr (inl e)) (inl h) _ = inl (inr (e, inl h))
    go (inr (inl e)) (inr (inr h)) _ = inr (inr (inr (sym e, inl h)))
    go (inr (inl e)) (inr (inl f)) (inl h) = inl (inr (e, inr (f, h)))
    go (inr (inl e)) (inr (inl f)) (inr (inr h)) = inr (inr (inr (sym e, inr (sym f, h))))
    go (inr (inl e)) (inr (inl f)) (inr (inl g)) = inr (inl (e, f, g))

-- where the states below s have their records, t does not meet s before u does
clash : (ks : List ℕ) (t u : Meaning) → Reduced ks t → Agreeing ks t u → (s : ℕ)
    → ((i : ℕ) → i < s → Both ks t u i i) → (f : Next ks t s) (g : Next ks u s)
    → Before f.kind f.first f.second g.kind g.first g.second → ⊥
clash ks t u r agree s have f g earlier =
    let b = made ks t u s f.kind f.first f.second have f.fits in
    let l : u.target f.kind f.first f.second < s = g.before f.kind f.first f.second f.fits earlier in
    let v = have (u.target f.kind f.first f.second) l in
    let e = transfer ks t u r agree b.tree v.tree b.over v.over (b.here ∙ sym v.here) in
    let z : s ≡ u.target f.kind f.first f.second = sym f.goes ∙ (sym b.there ∙ (e ∙ v.there)) in
    omega arith

turn : {ks : List ℕ} {t u : Meaning} {p q : ℕ} → Both ks t u p q → Both ks u t q p
turn b = record { tree = b.tree; over = b.over; there = b.here; here = b.there }

-- a state of both tables has a record that runs to it in both
both : (ks : List ℕ) (t u : Meaning) → Reduced ks t → Reduced ks u → Agreeing ks t u
    → (s : ℕ) → s < t.states → s < u.states → Both ks t u s s
both ks t u rt ru agree = strong (λ s. s < t.states → s < u.states → Both ks t u s s) (λ s have h h'.
    step s (λ i g. have i g (omega arith) (omega arith)) (rt.numbered s h) (ru.numbered s h'))
  where
    step : (s : ℕ) → ((i : ℕ) → i < s → Both ks t u i i) → Next ks t s → Next ks u s → Both ks t u s s
    step s have f g = go (order f.kind f.first f.second g.kind g.first g.second)
      where
        go : Before f.kind f.first f.second g.kind g.first g.second
            ⊎ (((f.kind ≡ g.kind) × (f.first ≡ g.first) × (f.second ≡ g.second))
            ⊎ Before g.kind g.first g.second f.kind f.first f.second) → Both ks t u s s
        go (inl e) = absurd (clash ks t u rt agree s have f g e)
        go (inr (inr e)) = absurd (clash ks u t ru (λ x o. sym (agree x o)) s (λ i h. turn (have i h)) g f e)
        go (inr (inl e)) =
            let b = made ks t u s f.kind f.first f.second have f.fits in
            let w : u.target f.kind f.first f.second ≡ u.target g.kind g.first g.second = cc in
            record { tree = b.tree; over = b.over; there = b.there ∙ f.goes; here = b.here ∙ (w ∙ g.goes) }

module _ (t u : Meaning) (rt : Reduced t.kinds t) (ru : Reduced t.kinds u) (agree : Agreeing t.kinds t u) where
  back : Agreeing t.kinds u t
  back x o = sym (agree x o)

  same_states : t.states ≡ u.states
  same_states =
      let h = fewest t.kinds t u rt ru.complete agree in
      let g = fewest t.kinds u t ru rt.complete back in omega arith

  all : (s : ℕ) → s < t.states → Both t.kinds t u s s
  all s h = both t.kinds t u rt ru agree s h (let e = same_states in omega arith)

  same_mark : (s : ℕ) → s < t.states → t.mark s ≡ u.mark s
  same_mark s h = let b = all s h in ap t.mark (sym b.there) ∙ (agree b.tree b.over ∙ ap u.mark b.here)

  same_target : (k a b : ℕ) → Fits t.kinds t.states k a b → t.target k a b ≡ u.target k a b
  same_target k a b f =
      let v = made t.kinds t u t.states k a b all f in
      let w = all (t.target k a b) (rt.complete k a b f) in
      sym (sym v.here ∙ (transfer t.kinds u t ru back v.tree w.tree v.over w.over (v.there ∙ sym w.there) ∙ w.here))

pub one_table : OneTable
one_table t u rt ru g =
    let r = subst (λ ks. Reduced ks u) (sym g.kinds) ru in
    record {
      kinds = g.kinds;
      states = same_states t u rt r g.trees;
      mark = same_mark t u rt r g.trees;
      target = same_target t u rt r g.trees;
    }

-- equal tables give a record the same state
equal_run : (t u : Meaning) → Complete t.kinds t → Equal t u → (x : Tree) → Over t.kinds x → run t x ≡ run u x
equal_run t u full e (leaf k) o = e.target k 0 0 (none o refl refl)
equal_run t u full e (stem k x) o =
    e.target k (run t x) 0 (one o.0 (run_below t.kinds t full x o.1) refl) ∙ ap (λ p. u.target k p 0) (equal_run t u full e x o.1)
equal_run t u full e (fork k x y) o =
    e.target k (run t x) (run t y) (two o.0 (run_below t.kinds t full x o.1) (run_below t.kinds t full y o.2))
    ∙ ap₂ (u.target k) (equal_run t u full e x o.1) (equal_run t u full e y o.2)

pub equal_agree : (t u : Meaning) → Complete t.kinds t → Equal t u → Agree t u
equal_agree t u full e = record {
  kinds = e.kinds;
  trees = λ x o. e.mark (run t x) (run_below t.kinds t full x o) ∙ ap u.mark (equal_run t u full e x o);
}
