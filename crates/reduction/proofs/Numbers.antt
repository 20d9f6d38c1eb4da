-- The classes numbered by the search, step by step.
use Rattle.std.proofs.Common.{◌≡◌, ℕ, suc, ◌+◌, ◌<◌, ◌≤◌, ◌⊎◌, List, length, get_or, set, replicate, [], ◌∷◌, ◌++◌, length-append, Some, None, Option, sym, refl, ap, ◌∙◌, subst, subst₂, ap₂, inl, inr, arith, get_or-set_other, get_or-set_same}
use native.Mathlib.Decide.{ℕ_discrete, dec_lt}
use Rattle.std.proofs.Math.ListN.{get_or-append}
use Rattle.std.proofs.Math.Seq.{get_or-append_seam}
use lib.ListN.{get_or-replicate}
use Rattle.ruling.specs.Trees.{Kind}
use Rattle.ruling.specs.Meanings.{Meaning, Fits, none, one, two}
use Rattle.ruling.specs.Rulings.{Ruled}
use Rattle.ruling.specs.Classes.{Reached, Classes}
use Rattle.ruling.specs.ReducedTables.{Before}
use Rattle.ruling.proofs.Pigeons.{pigeons}
use Rattle.reduction.specs.Searching as searching
use Rattle.reduction.specs.Numbering.{aimed_by, aimed, number_of, Spans, AllBefore, HasNumber, Source, Numbered}
use Rattle.reduction.proofs.Bounds.{list_reached}

module _ (m : Meaning) (rep : List ℕ) (k a b : ℕ) where
  pub aimed_0 : Kind m.kinds k 0 → aimed m rep k a b ≡ m.target k 0 0
  aimed_0 kind = ap (λ x. aimed_by m rep x k a b) kind.1

  pub aimed_1 : Kind m.kinds k 1 → aimed m rep k a b ≡ m.target k (get_or rep a 0) 0
  aimed_1 kind = ap (λ x. aimed_by m rep x k a b) kind.1

  pub aimed_2 : Kind m.kinds k 2 → aimed m rep k a b ≡ m.target k (get_or rep a 0) (get_or rep b 0)
  aimed_2 kind = ap (λ x. aimed_by m rep x k a b) kind.1

abbrev pub Stands : Meaning → List ℕ → ℕ → Type 0
Stands m rep s = (i : ℕ) → i < s → Reached m.kinds m (get_or rep i 0)

pub aimed_reached : (m : Meaning) (rep : List ℕ) (s : ℕ) → Stands m rep s → (k a b : ℕ) → Fits m.kinds s k a b → Reached m.kinds m (aimed m rep k a b)
aimed_reached m rep s h k a b (none x y z) = subst (Reached m.kinds m) (sym (aimed_0 m rep k a b x)) (list_reached m k 0 0 (searching.none x refl refl))
aimed_reached m rep s h k a b (one x y z) = subst (Reached m.kinds m) (sym (aimed_1 m rep k a b x)) (list_reached m k _ 0 (searching.one x (h a y) refl))
aimed_reached m rep s h k a b (two x y z) = subst (Reached m.kinds m) (sym (aimed_2 m rep k a b x)) (list_reached m k _ _ (searching.two x (h a y) (h b z)))

aimed_moved : (m : Meaning) (rep rep' : List ℕ) (s : ℕ) → ((i : ℕ) → i < s → get_or rep' i 0 ≡ get_or rep i 0) → (k a b : ℕ) → Fits m.kinds s k a b
    → aimed m rep' k a b ≡ aimed m rep k a b
aimed_moved m rep rep' s h k a b (none x y z) = aimed_0 m rep' k a b x ∙ sym (aimed_0 m rep k a b x)
aimed_moved m rep rep' s h k a b (one x y z) = aimed_1 m rep' k a b x ∙ (ap (λ p. m.target k p 0) (h a y) ∙ sym (aimed_1 m rep k a b x))
aimed_moved m rep rep' s h k a b (two x y z) = aimed_2 m rep' k a b x ∙ (ap₂ (m.target k) (h a y) (h b z) ∙ sym (aimed_2 m rep k a b x))

pub fits_up : (ks : List ℕ) (s t k a b : ℕ) → s ≤ t → Fits ks s k a b → Fits ks t k a b
fits_up ks s t k a b h (none x y z) = none x y z
fits_up ks s t k a b h (one x y z) = one x (omega arith) z
fits_up ks s t k a b h (two x y z) = two x (omega arith) (omega arith)

-- The target of an argument list over states is a state.
module _ (w : Ruled) (rep : List ℕ) (below : (i : ℕ) → get_or rep i 0 < w.plain.states) (s k a b : ℕ) (f : Fits w.plain.kinds s k a b) where
  pub aimed_below : aimed w.plain rep k a b < w.plain.states
  aimed_below = go f
    where
      go : Fits w.plain.kinds s k a b → aimed w.plain rep k a b < w.plain.states
      go (none x y z) = subst (λ t. t < w.plain.states) (sym (aimed_0 w.plain rep k a b x)) (w.complete k 0 0 (none x refl refl))
      go (one x y z) = subst (λ t. t < w.plain.states) (sym (aimed_1 w.plain rep k a b x)) (w.complete k _ 0 (one x (below a) refl))
      go (two x y z) = subst (λ t. t < w.plain.states) (sym (aimed_2 w.plain rep k a b x)) (w.complete k _ _ (two x (below a) (below b)))

-- What holds before an argument list holds before the next one.
module _ (ks : List ℕ) (s : ℕ) (P : ℕ → ℕ → ℕ → Type 0) where
  pub before_cell : (k a b : ℕ) → P k a b → AllBefore ks s P k a b → AllBefore ks s P k a (b + 1)
  before_cell k a b p all l x y f (inl h) = all l x y f (inl h)
  before_cell k a b p all l x y f (inr (e, inl h)) = all l x y f (inr (e, inl h))
  before_cell k a b p all l x y f (inr (e, inr (g, h))) = go (dec_lt y b)
    where
      go : Dec (y < b) → P l x y
      go (yes d) = all l x y f (inr (e, inr (g, d)))
      go (no d) = let z : y ≡ b = omega arith in subst (λ i. P i x y) (sym e) (subst (λ i. P k i y) (sym g) (subst (P k a) (sym z) p))

  pub before_row : (k a b w v : ℕ) → Spans ks s k w v → v ≤ b → AllBefore ks s P k a b → AllBefore ks s P k (a + 1) 0
  before_row k a b w v sp h all l x y f (inl p) = all l x y f (inl p)
  before_row k a b w v sp h all l x y f (inr (e, inr p)) = absurd (omega (arith, p.1))
  before_row k a b w v sp h all l x y f (inr (e, inl p)) = go (dec_lt x a)
    where
      go : Dec (x < a) → P l x y
      go (yes q) = all l x y f (inr (e, inl q))
      go (no q) = all l x y f (inr (e, inr (omega arith, omega (arith, (sp.inside x y (subst (λ i. Fits ks s i x y) e f)).1))))

  pub before_block : (k a w v : ℕ) → Spans ks s k w v → w ≤ a → AllBefore ks s P k a 0 → AllBefore ks s P (k + 1) 0 0
  before_block k a w v sp h all l x y f (inr (e, inl p)) = absurd (omega arith)
  before_block k a w v sp h all l x y f (inr (e, inr p)) = absurd (omega (arith, p.1))
  before_block k a w v sp h all l x y f (inl p) = go (dec_lt l k)
    where
      go : Dec (l < k) → P l x y
      go (yes q) = all l x y f (inl q)
      go (no q) = let e : l ≡ k = omega arith in
          all l x y f (inr (e, inl (omega (arith, (sp.inside x y (subst (λ i. Fits ks s i x y) e f)).0))))

some_other : {A : Type 0} {x : ℕ} {o : Option ℕ} → o ≡ Some x → o ≡ None → A
some_other e f = absurd (let z : ◌≡◌ {A = ℕ} 0 1 = cc in omega arith)

some_same : (x y : ℕ) → ◌≡◌ {A = Option ℕ} (Some x) (Some y) → x ≡ y
some_same x y e = cc

-- One number more: that of the class of the target t of an argument list over the numbered classes.
module _ (w : Ruled) (class : List ℕ) (c : ℕ) (dv : Classes w.plain.kinds w.plain c (λ p. get_or class p 0)) (few : c ≤ 32)
    (rep : List ℕ) (number : List (Option ℕ)) (names : length number ≡ 32) (num : Numbered w.plain class rep number)
    (k a b : ℕ) (f : Fits w.plain.kinds (length rep) k a b) (t : ℕ) (e : t ≡ aimed w.plain rep k a b)
    (free : number_of class number (aimed w.plain rep k a b) ≡ None) where
  hit : Reached w.plain.kinds w.plain t
  hit = subst (Reached w.plain.kinds w.plain) (sym e) (aimed_reached w.plain rep (length rep) num.reached k a b f)

  number_at : get_or class t 0 < 32
  number_at = omega (arith, dv.small t hit)

  open_t : get_or number (get_or class t 0) None ≡ None
  open_t = ap (λ x. number_of class number x) e ∙ free

  other : (i : ℕ) → i < length rep → ¬ (get_or class (get_or rep i 0) 0 ≡ get_or class t 0)
  other i h z = some_other (num.given i h) (ap (λ x. get_or number x None) z ∙ open_t)

  room_left : length rep < c
  room_left = let z : suc (length rep) ≤ c = pigeons (suc (length rep)) c pick pick_small pick_once in omega arith
    where
      at : (i : ℕ) → Dec (i < length rep) → ℕ
      at i (yes h) = get_or class (get_or rep i 0) 0
      at i (no h) = get_or class t 0

      at_small : (i : ℕ) (d : Dec (i < length rep)) → at i d < c
      at_small i (yes h) = dv.small (get_or rep i 0) (num.reached i h)
      at_small i (no h) = dv.small t hit

      pick : (i : ℕ) → i < suc (length rep) → ℕ
      pick i h = at i (dec_lt i (length rep))

      pick_small : (i : ℕ) (h : i < suc (length rep)) → pick i h < c
      pick_small i h = at_small i (dec_lt i (length rep))

      once : (i j : ℕ) → i < suc (length rep) → j < suc (length rep) → (d : Dec (i < length rep)) (e : Dec (j < length rep)) → at i d ≡ at j e → i ≡ j
      once i j h g (yes p) (yes q) z = some_same i j (sym (num.given i p) ∙ (ap (λ x. get_or number x None) z ∙ num.given j q))
      once i j h g (yes p) (no q) z = absurd (other i p z)
      once i j h g (no p) (yes q) z = absurd (other j q (sym z))
      once i j h g (no p) (no q) z = omega arith

      pick_once : (i j : ℕ) (h : i < suc (length rep)) (g : j < suc (length rep)) → pick i h ≡ pick j g → i ≡ j
      pick_once i j h g z = once i j h g (dec_lt i (length rep)) (dec_lt j (length rep)) z

  pub rep_at : length rep < 32
  rep_at = omega (arith, room_left)

  old : (i : ℕ) → i < length rep → get_or (rep ++ t ∷ []) i 0 ≡ get_or rep i 0
  old i h = get_or-append rep (t ∷ []) 0 i h

  new : get_or (rep ++ t ∷ []) (length rep) 0 ≡ t
  new = get_or-append_seam rep t [] 0

  named : (x : ℕ) → ¬ (x ≡ get_or class t 0) → get_or (set number (get_or class t 0) (Some (length rep))) x None ≡ get_or number x None
  named x n = get_or-set_other number (get_or class t 0) x (Some (length rep)) None n

  name_new : get_or (set number (get_or class t 0) (Some (length rep))) (get_or class t 0) None ≡ Some (length rep)
  name_new = get_or-set_same number (get_or class t 0) (Some (length rep)) None (omega (arith, number_at, names))

  longer : length (rep ++ t ∷ []) ≡ length rep + 1
  longer = length-append rep (t ∷ [])

  last : (i : ℕ) → ¬ (i < length rep) → i < length (rep ++ t ∷ []) → i ≡ length rep
  last i x h = omega (arith, longer)

  reached : (i : ℕ) → i < length (rep ++ t ∷ []) → Dec (i < length rep) → Reached w.plain.kinds w.plain (get_or (rep ++ t ∷ []) i 0)
  reached i h (yes g) = subst (Reached w.plain.kinds w.plain) (sym (old i g)) (num.reached i g)
  reached i h (no g) = subst (Reached w.plain.kinds w.plain) (sym (ap (λ j. get_or (rep ++ t ∷ []) j 0) (last i g h) ∙ new)) hit

  given : (i : ℕ) → i < length (rep ++ t ∷ []) → Dec (i < length rep) → number_of class (set number (get_or class t 0) (Some (length rep))) (get_or (rep ++ t ∷ []) i 0) ≡ Some i
  given i h (yes g) = ap (λ x. number_of class (set number (get_or class t 0) (Some (length rep))) x) (old i g) ∙ (named (get_or class (get_or rep i 0) 0) (other i g) ∙ num.given i g)
  given i h (no g) = let z = last i g h in
      ap (λ j. number_of class (set number (get_or class t 0) (Some (length rep))) (get_or (rep ++ t ∷ []) j 0)) z ∙ (ap (λ x. number_of class (set number (get_or class t 0) (Some (length rep))) x) new ∙ (name_new ∙ ap Some (sym z)))

  back : (x : ℕ) → x < 32 → Dec (x ≡ get_or class t 0) → (get_or (set number (get_or class t 0) (Some (length rep))) x None ≡ None)
      ⊎ ((j : ℕ) × (get_or (set number (get_or class t 0) (Some (length rep))) x None ≡ Some j) × (j < length (rep ++ t ∷ [])) × (get_or class (get_or (rep ++ t ∷ []) j 0) 0 ≡ x))
  back x h (yes z) = inr (length rep, ap (λ y. get_or (set number (get_or class t 0) (Some (length rep))) y None) z ∙ name_new, omega (arith, longer), ap (λ y. get_or class y 0) new ∙ sym z)
  back x h (no z) = go (num.back x h)
    where
      go : (get_or number x None ≡ None) ⊎ ((j : ℕ) × (get_or number x None ≡ Some j) × (j < length rep) × (get_or class (get_or rep j 0) 0 ≡ x))
          → (get_or (set number (get_or class t 0) (Some (length rep))) x None ≡ None)
          ⊎ ((j : ℕ) × (get_or (set number (get_or class t 0) (Some (length rep))) x None ≡ Some j) × (j < length (rep ++ t ∷ [])) × (get_or class (get_or (rep ++ t ∷ []) j 0) 0 ≡ x))
      go (inl p) = inl (named x z ∙ p)
      go (inr (j, p, l, q)) = inr (j, named x z ∙ p, omega (arith, longer), ap (λ y. get_or class y 0) (old j l) ∙ q)

  kept : (i : ℕ) → i < length rep → Source w.plain class rep i → Source w.plain class (rep ++ t ∷ []) i
  kept i h v = record {
    kind = v.kind;
    first = v.first;
    second = v.second;
    fits = v.fits;
    goes = ap (λ y. get_or class y 0) (same v.kind v.first v.second v.fits) ∙ (v.goes ∙ ap (λ y. get_or class y 0) (sym (old i h)));
    before = λ l x y g p. let u = v.before l x y g p in
        (u.0, u.1, ap (λ z. get_or class z 0) (same l x y g) ∙ (u.2 ∙ ap (λ z. get_or class z 0) (sym (old u.0 (omega (arith, u.1))))));
  }
    where
      same : (l x y : ℕ) → Fits w.plain.kinds i l x y → aimed w.plain (rep ++ t ∷ []) l x y ≡ aimed w.plain rep l x y
      same l x y g = aimed_moved w.plain rep (rep ++ t ∷ []) i (λ j p. old j (omega arith)) l x y g

  module _ (clear : AllBefore w.plain.kinds (length rep) (HasNumber w.plain class rep number) k a b) where
    met : Source w.plain class (rep ++ t ∷ []) (length rep)
    met = record {
      kind = k;
      first = a;
      second = b;
      fits = f;
      goes = ap (λ y. get_or class y 0) (same k a b f ∙ (sym e ∙ sym new));
      before = λ l x y g p. find l x y g p (num.back (get_or class (aimed w.plain rep l x y) 0) (omega (arith, dv.small _ (aimed_reached w.plain rep (length rep) num.reached l x y g))));
    }
      where
        same : (l x y : ℕ) → Fits w.plain.kinds (length rep) l x y → aimed w.plain (rep ++ t ∷ []) l x y ≡ aimed w.plain rep l x y
        same l x y g = aimed_moved w.plain rep (rep ++ t ∷ []) (length rep) old l x y g

        find : (l x y : ℕ) → Fits w.plain.kinds (length rep) l x y → Before l x y k a b
            → (number_of class number (aimed w.plain rep l x y) ≡ None)
            ⊎ ((j : ℕ) × (number_of class number (aimed w.plain rep l x y) ≡ Some j) × (j < length rep) × (get_or class (get_or rep j 0) 0 ≡ get_or class (aimed w.plain rep l x y) 0))
            → (j : ℕ) × (j < length rep) × (get_or class (aimed w.plain (rep ++ t ∷ []) l x y) 0 ≡ get_or class (get_or (rep ++ t ∷ []) j 0) 0)
        find l x y g p (inl z) = absurd (clear l x y g p z)
        find l x y g p (inr (j, z, q, u)) = (j, q, ap (λ v. get_or class v 0) (same l x y g) ∙ (sym u ∙ ap (λ v. get_or class v 0) (sym (old j q))))

    source : (i : ℕ) → i < length (rep ++ t ∷ []) → Dec (i < length rep) → Source w.plain class (rep ++ t ∷ []) i
    source i h (yes g) = kept i g (num.source i g)
    source i h (no g) = subst (Source w.plain class (rep ++ t ∷ [])) (sym (last i g h)) met

    numbered_more : Numbered w.plain class (rep ++ t ∷ []) (set number (get_or class t 0) (Some (length rep)))
    numbered_more = record {
      reached = λ i h. reached i h (dec_lt i (length rep));
      given = λ i h. given i h (dec_lt i (length rep));
      back = λ x h. back x h (ℕ_discrete x (get_or class t 0));
      source = λ i h. source i h (dec_lt i (length rep));
    }

    -- The list and the number may be given as they were reckoned.
    pub numbered_as : (rep' : List ℕ) (n : ℕ) → rep' ≡ rep ++ t ∷ [] → n ≡ length rep → Numbered w.plain class rep' (set number (get_or class t 0) (Some n))
    numbered_as rep' n x y = subst₂ (λ xs i. Numbered w.plain class xs (set number (get_or class t 0) (Some i))) (sym x) (sym y) numbered_more

pub numbered_none : (m : Meaning) (class : List ℕ) (n : ℕ) → n ≡ 32 → Numbered m class [] (replicate n None)
numbered_none m class n e = record {
  reached = λ i h. absurd (omega arith);
  given = λ i h. absurd (omega arith);
  back = λ x h. inl (get_or-replicate n x None None (omega arith));
  source = λ i h. absurd (omega arith);
}
