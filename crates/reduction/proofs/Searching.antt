-- The search for the reached states, step by step.
use Rattle.std.proofs.Common.{◌≡◌, ℕ, suc, ◌+◌, ◌<◌, ◌≤◌, Bool, true, false, eqb, List, length, get_or, set, replicate, is_some, Some, None, Option, [], ◌∷◌, ◌++◌, length-append, sym, refl, ap, ◌∙◌, subst, subst₂, arith, get_or-set_other, get_or-set_same}
use native.Mathlib.Decide.{ℕ_discrete, dec_lt}
use Rattle.std.proofs.Math.ListN.{get_or-append}
use Rattle.std.proofs.Math.Seq.{get_or-append_seam}
use Rattle.std.proofs.lemmas.Bool.{eqb-true}
use Rattle.ruling.specs.Trees.{Kind}
use Rattle.ruling.specs.Meanings.{Meaning}
use Rattle.ruling.specs.Checks.{lowest}
use Rattle.ruling.specs.KindLists.{has_leaf}
use Rattle.ruling.specs.Rulings.{Ruled}
use Rattle.ruling.specs.Classes.{Reached}
use Rattle.ruling.proofs.Lowest.{some_lowest}
use Rattle.ruling.proofs.Pigeons.{pigeons}
use Rattle.ruling.proofs.Growth.{holds_reached}
use Rattle.ruling.specs.declared.ruling.Ruling.{Ghosts}
use Rattle.reduction.specs.declared.found.Search.{Search}
use Rattle.reduction.specs.Searches.{searched, Further, Onto}
use Rattle.reduction.specs.Searching.{ReachedList, Found, Grown, Seen, LeavesSeen, Visited, Listing}
use Rattle.reduction.proofs.Bounds.{reached_below, list_reached, fresh}

pub true_false : (b : Bool) → b ≡ true → b ≡ false → ⊥
true_false b x y = let z : ◌≡◌ {A = ℕ} 0 1 = cc in omega arith

unseen : (m : Meaning) (order : List ℕ) (seen : List Bool) (t : ℕ) → Found m order seen → get_or seen t false ≡ false → (i : ℕ) → i < length order → ¬ (get_or order i 0 ≡ t)
unseen m order seen t found fresh i h e = true_false (get_or seen t false) (subst (λ x. get_or seen x false ≡ true) e (found.held i h)) fresh

-- The states that are found are different and below the number of states, so one that is not seen leaves room for another.
module _ (w : Ruled) (order : List ℕ) (seen : List Bool) (t : ℕ)
    (found : Found w.plain order seen) (hit : Reached w.plain.kinds w.plain t) (fresh : get_or seen t false ≡ false) where
  other : (i : ℕ) → i < length order → ¬ (get_or order i 0 ≡ t)
  other = unseen w.plain order seen t found fresh

  room_left : length order < w.plain.states
  room_left = let z : suc (length order) ≤ w.plain.states = pigeons (suc (length order)) w.plain.states pick pick_small pick_once in omega arith
    where
      at : (i : ℕ) → Dec (i < length order) → ℕ
      at i (yes h) = get_or order i 0
      at i (no h) = t

      at_small : (i : ℕ) (d : Dec (i < length order)) → at i d < w.plain.states
      at_small i (yes h) = reached_below w (get_or order i 0) (found.reached i h)
      at_small i (no h) = reached_below w t hit

      pick : (i : ℕ) → i < suc (length order) → ℕ
      pick i h = at i (dec_lt i (length order))

      pick_small : (i : ℕ) (h : i < suc (length order)) → pick i h < w.plain.states
      pick_small i h = at_small i (dec_lt i (length order))

      once : (i j : ℕ) → i < suc (length order) → j < suc (length order) → (d : Dec (i < length order)) (e : Dec (j < length order)) → at i d ≡ at j e → i ≡ j
      once i j h g (yes a) (yes b) e = found.once i j a b e
      once i j h g (yes a) (no b) e = absurd (other i a e)
      once i j h g (no a) (yes b) e = absurd (other j b (sym e))
      once i j h g (no a) (no b) e = omega arith

      pick_once : (i j : ℕ) (h : i < suc (length order)) (g : j < suc (length order)) → pick i h ≡ pick j g → i ≡ j
      pick_once i j h g e = once i j h g (dec_lt i (length order)) (dec_lt j (length order)) e

-- One state more.
module _ (order : List ℕ) (seen : List Bool) (t : ℕ) (flag : t < length seen) where
  old : (i : ℕ) → i < length order → get_or (order ++ t ∷ []) i 0 ≡ get_or order i 0
  old i h = get_or-append order (t ∷ []) 0 i h

  new : get_or (order ++ t ∷ []) (length order) 0 ≡ t
  new = get_or-append_seam order t [] 0

  longer : length (order ++ t ∷ []) ≡ length order + 1
  longer = length-append order (t ∷ [])

  still : (p : ℕ) → get_or seen p false ≡ true → get_or (set seen t true) p false ≡ true
  still p h = go (ℕ_discrete p t)
    where
      go : Dec (p ≡ t) → get_or (set seen t true) p false ≡ true
      go (yes e) = subst (λ x. get_or (set seen t true) x false ≡ true) (sym e) (get_or-set_same seen t true false flag)
      go (no d) = get_or-set_other seen t p true false d ∙ h

  seen_at : (x : ℕ) → t ≡ x → Seen (set seen t true) x
  seen_at x e = subst (Seen (set seen t true)) e (get_or-set_same seen t true false flag)

  -- The place of an added state, or an earlier one.
  last : (i : ℕ) → ¬ (i < length order) → i < length (order ++ t ∷ []) → i ≡ length order
  last i x h = omega (arith, longer)

  at_new : (i : ℕ) → ¬ (i < length order) → i < length (order ++ t ∷ []) → get_or (order ++ t ∷ []) i 0 ≡ t
  at_new i x h = ap (λ j. get_or (order ++ t ∷ []) j 0) (last i x h) ∙ new

  module _ (m : Meaning) (found : Found m order seen) (hit : Reached m.kinds m t) (fresh : get_or seen t false ≡ false) where
    not_there : (i : ℕ) → i < length order → ¬ (get_or order i 0 ≡ t)
    not_there = unseen m order seen t found fresh

    pub found_more : Found m (order ++ t ∷ []) (set seen t true)
    found_more = record {
      reached = λ i h. at_reached i (dec_lt i (length order)) h;
      held = λ i h. at_held i (dec_lt i (length order)) h;
      listed = λ p h. at_listed p (ℕ_discrete p t) h;
      once = λ i j h g. at_once i j (dec_lt i (length order)) (dec_lt j (length order)) h g;
    }
      where
        at_reached : (i : ℕ) → Dec (i < length order) → i < length (order ++ t ∷ []) → Reached m.kinds m (get_or (order ++ t ∷ []) i 0)
        at_reached i (yes a) h = subst (Reached m.kinds m) (sym (old i a)) (found.reached i a)
        at_reached i (no a) h = subst (Reached m.kinds m) (sym (at_new i a h)) hit

        at_held : (i : ℕ) → Dec (i < length order) → i < length (order ++ t ∷ []) → get_or (set seen t true) (get_or (order ++ t ∷ []) i 0) false ≡ true
        at_held i (yes a) h = subst (λ x. get_or (set seen t true) x false ≡ true) (sym (old i a)) (still (get_or order i 0) (found.held i a))
        at_held i (no a) h = seen_at _ (sym (at_new i a h))

        at_listed : (p : ℕ) → Dec (p ≡ t) → get_or (set seen t true) p false ≡ true
            → (i : ℕ) × (i < length (order ++ t ∷ [])) × (get_or (order ++ t ∷ []) i 0 ≡ p)
        at_listed p (yes e) h = (length order, omega (arith, longer), new ∙ sym e)
        at_listed p (no d) h = let v = found.listed p (sym (get_or-set_other seen t p true false d) ∙ h) in
            (v.0, omega (arith, longer, v.1), old v.0 v.1 ∙ v.2)

        at_once : (i j : ℕ) → Dec (i < length order) → Dec (j < length order) → i < length (order ++ t ∷ []) → j < length (order ++ t ∷ [])
            → get_or (order ++ t ∷ []) i 0 ≡ get_or (order ++ t ∷ []) j 0 → i ≡ j
        at_once i j (yes a) (yes b) h g e = found.once i j a b (sym (old i a) ∙ (e ∙ old j b))
        at_once i j (yes a) (no b) h g e = absurd (not_there i a (sym (old i a) ∙ (e ∙ at_new j b g)))
        at_once i j (no a) (yes b) h g e = absurd (not_there j b (sym (old j b) ∙ (sym e ∙ at_new i a h)))
        at_once i j (no a) (no b) h g e = last i a h ∙ sym (last j b g)

grown_on : {o o' o'' : List ℕ} {s s' s'' : List Bool} → Grown o s o' s' → Grown o' s' o'' s'' → Grown o s o'' s''
grown_on g h = record {
  more = omega (arith, g.more, h.more);
  keeps = λ i l. h.keeps i (omega (arith, g.more)) ∙ g.keeps i l;
  holds = λ p l. h.holds p (g.holds p l);
}

module _ {R : Type 0} {G : Ghosts R} where
  pub meaning_same : {f g : Search R G} → Further f g → searched g ≡ searched f
  meaning_same x = ap (λ r. (G.meaning r.now).plain) x.same

  pub further_on : {f g h : Search R G} → Further f g → Further g h → Further f h
  further_on x y = record { same = y.same ∙ x.same; more = grown_on x.more y.more }

  pub onto_on : {f g h : Search R G} → Onto f g → Onto g h → Onto f h
  onto_on {f} {g} {h} x y = record {
    further = further_on x.further y.further;
    sound = λ found. subst (λ r. Found (G.meaning r.now).plain h.order.items h.seen) x.further.same
        (y.sound (subst (λ r. Found (G.meaning r.now).plain g.order.items g.seen) (sym x.further.same) (x.sound found)));
  }

pub reached_as : (m : Meaning) (t u : ℕ) → t ≡ u → Reached m.kinds m u → Reached m.kinds m t
reached_as m t u e = subst (Reached m.kinds m) (sym e)

pub target_reached : (m : Meaning) (k a b t : ℕ) → ReachedList m k a b → t ≡ m.target k a b → Reached m.kinds m t
target_reached m k a b t from e = reached_as m t _ e (list_reached m k a b from)

-- Where the first places stay and seen grows.
pub visited_moved : (m : Meaning) (o o' : List ℕ) (s s' : List Bool) (k i : ℕ) → ((j : ℕ) → j < i + 1 → get_or o j 0 ≡ get_or o' j 0)
    → ((p : ℕ) → Seen s p → Seen s' p) → Visited m o s k i → Visited m o' s' k i
visited_moved m o o' s s' k i same holds b = record {
  stems = λ kind. holds _ (subst (λ x. Seen s (m.target k x 0)) (same i (omega arith)) (b.stems kind));
  forks = λ kind j h. let t = b.forks kind j h in (
    holds _ (subst₂ (λ x y. Seen s (m.target k x y)) (same i (omega arith)) (same j h) t.0),
    holds _ (subst₂ (λ x y. Seen s (m.target k x y)) (same j h) (same i (omega arith)) t.1),
  );
}

pub visited_past : (w : Ruled) (o : List ℕ) (s : List Bool) (k i : ℕ) → 16 ≤ k → Visited w.plain o s k i
visited_past w o s k i h = record {
  stems = λ kind. absurd (omega (arith, w.list.1, kind.0));
  forks = λ kind j l. absurd (omega (arith, w.list.1, kind.0));
}

-- What is visited holds the targets of its members, so it holds every reached state.
all_seen : (m : Meaning) (order : List ℕ) (seen : List Bool) → Found m order seen → LeavesSeen m seen
    → ((a : ℕ) → a < length order → (k : ℕ) → Visited m order seen k a) → (p : ℕ) → Reached m.kinds m p → Seen seen p
all_seen m order seen found leaves met = holds_reached m.kinds m (Seen seen) leaves stems forks
  where
    stems : (k a : ℕ) → Kind m.kinds k 1 → Seen seen a → Seen seen (m.target k a 0)
    stems k a kind h = let w = found.listed a h in
        subst (λ x. Seen seen (m.target k x 0)) w.2 ((met w.0 w.1 k).stems kind)

    forks : (k a b : ℕ) → Kind m.kinds k 2 → Seen seen a → Seen seen b → Seen seen (m.target k a b)
    forks k a b kind ha hb = let w = found.listed a ha in let v = found.listed b hb in
        subst₂ (λ x y. Seen seen (m.target k x y)) w.2 v.2 (both w.0 v.0 w.1 v.1 (dec_lt w.0 v.0))
      where
        both : (i j : ℕ) → i < length order → j < length order → Dec (i < j) → Seen seen (m.target k (get_or order i 0) (get_or order j 0))
        both i j hi hj (yes l) = ((met j hj k).forks kind i (omega arith)).1
        both i j hi hj (no l) = ((met i hi k).forks kind j (omega arith)).0

-- Where every state is found, every reached state is seen.
full_seen : (w : Ruled) (order : List ℕ) (seen : List Bool) → Found w.plain order seen → w.plain.states ≤ length order
    → (p : ℕ) → Reached w.plain.kinds w.plain p → Seen seen p
full_seen w order seen found full p h = go (get_or seen p false) refl
  where
    go : (b : Bool) → get_or seen p false ≡ b → Seen seen p
    go true e = e
    go false e = absurd (let z = room_left w order seen p found h e in omega arith)

-- A list with a leaf kind has one.
pub leaf_kind : (ks : List ℕ) → has_leaf ks ≡ true → (k : ℕ) × Kind ks k 0
leaf_kind ks h = go (lowest (λ k. eqb (get_or ks k 0) 0) 0 (length ks)) refl h
  where
    go : (o : Option ℕ) → lowest (λ k. eqb (get_or ks k 0) 0) 0 (length ks) ≡ o → is_some o ≡ true → (k : ℕ) × Kind ks k 0
    go (Some k) e f = let w = some_lowest (λ k. eqb (get_or ks k 0) 0) 0 (length ks) k e in
        (k, (omega (arith, w.high), eqb-true (get_or ks k 0) 0 w.passes))
    go None e f = absurd (true_false false f refl)

pub listing : (w : Ruled) (order : List ℕ) (seen : List Bool) → length order ≤ w.plain.states → has_leaf w.plain.kinds ≡ true → Found w.plain order seen
    → (length order < w.plain.states → LeavesSeen w.plain seen × ((a : ℕ) → a < length order → (k : ℕ) → Visited w.plain order seen k a)) → Listing w.plain order
listing w order seen few leaf found met = record {
  some = let k = leaf_kind w.plain.kinds leaf in
      let v = found.listed _ (every (w.plain.target k.0 0 0) (list_reached w.plain k.0 0 0 (ReachedList.none k.1 refl refl))) in omega (arith, v.1);
  few = few;
  reached = found.reached;
  all = λ p h. found.listed p (every p h);
  once = found.once;
}
  where
    every : (p : ℕ) → Reached w.plain.kinds w.plain p → Seen seen p
    every p h = go (dec_lt (length order) w.plain.states)
      where
        go : Dec (length order < w.plain.states) → Seen seen p
        go (yes l) = all_seen w.plain order seen found (met l).0 (met l).1 p h
        go (no l) = full_seen w order seen found (omega arith) p h

pub found_none : (m : Meaning) (order : List ℕ) (n : ℕ) → order ≡ [] → Found m order (replicate n false)
found_none m order n e = subst (λ xs. Found m xs (replicate n false)) (sym e) record {
  reached = λ i h. absurd (omega arith);
  held = λ i h. absurd (omega arith);
  listed = λ p h. absurd (true_false (get_or (replicate n false) p false) h (fresh n false p));
  once = λ i j h g. absurd (omega arith);
}
