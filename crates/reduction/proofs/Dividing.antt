-- Classes divided by a context: what no surrounding tells apart stays together.
use Rattle.std.proofs.Common.{◌≡◌, ℕ, zero, suc, ◌+◌, ◌-◌, ◌*◌, ◌%◌, ◌<◌, ◌≤◌, Bool, true, false, cond, eqb, ◌⊎◌, List, [], All, Contains, length, get_or, sym, refl, ap, ◌∙◌, subst, inl, inr, arith}
use mathlib.Core.Bool.{Bool-set}
use mathlib.Core.Logic.{∥∥₁_elim, ∥∥₁_map}
use native.Mathlib.Decide.{ℕ_discrete, dec_lt}
use native.Mathlib.Nat.{ℕ_set}
use Rattle.std.proofs.Math.Bridge.{le_prop}
use Rattle.std.proofs.lemmas.List.Elements.{All-cons, All-contains, All-from_get_or, All-nil, Contains-get_or}
use Rattle.std.proofs.Math.Nat.{mod_self, mod-eq_of_lt}
use Rattle.ruling.specs.Trees.{Kind}
use Rattle.ruling.specs.Meanings.{Meaning, one, two}
use Rattle.ruling.specs.Rulings.{Ruled}
use Rattle.ruling.specs.Surroundings.{Surrounding, gap, under, left, right, SurroundingOver, around}
use Rattle.ruling.specs.Classes.{Reached, Same, Classes}
use Rattle.ruling.specs.Meanings.{run}
use Rattle.ruling.specs.Written.{mark_byte}
use Rattle.ruling.proofs.Plugging.{inside, reached_around}
use Rattle.ruling.proofs.Growth.{run_reached}
use Rattle.ruling.proofs.Rows.{mark_told}
use Rattle.reduction.specs.declared.context.Context.{Context}
use Rattle.reduction.specs.declared.context.Context.TheVariants.{Under, Left, Right}
use Rattle.reduction.specs.Searching as searching
use Rattle.reduction.specs.Searching.{Listing}
use Rattle.reduction.specs.Dividing.{IsContext, stepped, Parts, Coarse, Classed, Alone, Lives, Sorted, Keys, class_key, mark_key, LevelAt, Level, Split, Fewer, Even, EvenUnder, EvenBeside, AllEven, Resting, Whole}
use Rattle.reduction.proofs.Bounds.{reached_below, list_reached}

pub stepped_list : (m : Meaning) (x : Context) (p : ℕ) → IsContext m x → Reached m.kinds m p → Reached m.kinds m (stepped m x p)
stepped_list m (Under k) p at h = list_reached m k p 0 (searching.one at h refl)
stepped_list m (Left k r) p at h = list_reached m k p r (searching.two at.0 h at.1)
stepped_list m (Right k r) p at h = list_reached m k r p (searching.two at.0 at.1 h)

pub stepped_fits : (w : Ruled) (x : Context) (p : ℕ) → IsContext w.plain x → p < w.plain.states → stepped w.plain x p < w.plain.states
stepped_fits w (Under k) p at h = w.complete k p 0 (one at h refl)
stepped_fits w (Left k r) p at h = w.complete k p r (two at.0 h (reached_below w r at.1))
stepped_fits w (Right k r) p at h = w.complete k r p (two at.0 (reached_below w r at.1) h)

-- What no surrounding tells apart leads to what no surrounding tells apart.
pub stepped_same : (m : Meaning) (x : Context) (p q : ℕ) → IsContext m x → Same m.kinds m p q → Same m.kinds m (stepped m x p) (stepped m x q)
stepped_same m (Under k) p q at e = inside m.kinds m (under k gap) (at, tt) p q e
stepped_same m (Left k r) p q at e = subst (λ y. Same m.kinds m (m.target k p y) (m.target k q y)) at.1.runs
    (inside m.kinds m (left k gap at.1.tree) (at.0, tt, at.1.over) p q e)
stepped_same m (Right k r) p q at e = subst (λ y. Same m.kinds m (m.target k y p) (m.target k y q)) at.1.runs
    (inside m.kinds m (right k at.1.tree gap) (at.0, at.1.over, tt) p q e)

-- Listed states are states, and so numbers for them.
pub listed_below : (w : Ruled) (list : List ℕ) → Listing w.plain list → All (λ s. s < w.plain.states) list
listed_below w list listing = All-from_get_or (λ s. s < w.plain.states) list 0 (λ i h. reached_below w (get_or list i 0) (listing.reached i h))

pub listed_small : (w : Ruled) (list : List ℕ) → Listing w.plain list → All (λ s. s < 1089) list
listed_small w list listing k d h = omega (arith, listed_below w list listing k d h, w.few)

-- Classes divided by keys that are equal where no surrounding tells apart are sound, if members of a class have equal marks.
module _ (m : Meaning) (class leader live key class' leader' : List ℕ)
    (lives : Lives m class live) (led : All (Reached m.kinds m) leader) (coarse : Coarse m class)
    (keys : (p q : ℕ) → Contains live p → Contains live q → Same m.kinds m p q → get_or key p 0 ≡ get_or key q 0)
    (split : Split live key class leader class' leader') where
  led_after : (j : ℕ) → j < length leader' → Dec (j < length leader) → Reached m.kinds m (get_or leader' j 0)
  led_after j h (yes d) = subst (Reached m.kinds m) (sym (split.stay j d)) (led j 0 d)
  led_after j h (no d) = All-contains (Reached m.kinds m) live (get_or leader' j 0) lives.reached (split.new j (omega arith) h)

  coarse_after : Coarse m class'
  coarse_after p q hp hq e = go (lives.others p hp) (lives.others q hq)
    where
      go : Contains live p ⊎ Alone m class p → Contains live q ⊎ Alone m class q → get_or class' p 0 ≡ get_or class' q 0
      go (inl x) (inl y) = split.together p q x y (coarse p q hp hq e) (keys p q x y e)
      go (inr x) y = ap (λ z. get_or class' z 0) (sym (x q hq (sym (coarse p q hp hq e))))
      go (inl x) (inr y) = ap (λ z. get_or class' z 0) (y p hp (coarse p q hp hq e))

  pub split_classed : Parts class' leader' → ((p q : ℕ) → Reached m.kinds m p → Reached m.kinds m q → get_or class' p 0 ≡ get_or class' q 0 → m.mark p ≡ m.mark q)
      → Classed m class' leader'
  split_classed parts marks = record {
    parts = parts;
    led = All-from_get_or (Reached m.kinds m) leader' 0 (λ j h. led_after j h (dec_lt j (length leader)));
    marks = marks;
    coarse = coarse_after;
  }

  pub split_lives : Lives m class' live
  split_lives = record { reached = lives.reached; others = λ p h. go p (lives.others p h) }
    where
      go : (p : ℕ) → Contains live p ⊎ Alone m class p → Contains live p ⊎ Alone m class' p
      go p (inl x) = inl x
      go p (inr x) = inr (λ q h e. x q h (split.finer q p e))

-- Keys are equal where no surrounding tells apart, if f is.
pub keys_same : (m : Meaning) (f : ℕ → ℕ) (class live key : List ℕ) → Lives m class live
    → ((p q : ℕ) → Reached m.kinds m p → Reached m.kinds m q → Same m.kinds m p q → f p ≡ f q) → Keys f live key
    → (p q : ℕ) → Contains live p → Contains live q → Same m.kinds m p q → get_or key p 0 ≡ get_or key q 0
keys_same m f class live key lives same keys p q x y e = All-contains (λ z. get_or key z 0 ≡ f z) live p keys x
    ∙ (same p q (All-contains (Reached m.kinds m) live p lives.reached x) (All-contains (Reached m.kinds m) live q lives.reached y) e ∙ sym (All-contains (λ z. get_or key z 0 ≡ f z) live q keys y))

pub class_key_same : (m : Meaning) (class : List ℕ) (x : Context) → Coarse m class → IsContext m x
    → (p q : ℕ) → Reached m.kinds m p → Reached m.kinds m q → Same m.kinds m p q → class_key m class x p ≡ class_key m class x q
class_key_same m class x coarse at p q hp hq e = coarse _ _ (stepped_list m x p at hp) (stepped_list m x q at hq) (stepped_same m x p q at e)

pub mark_key_same : (m : Meaning) (p q : ℕ) → Reached m.kinds m p → Reached m.kinds m q → Same m.kinds m p q → mark_key m p ≡ mark_key m q
mark_key_same m p q hp hq e = ap mark_byte (e gap tt)

pub fewer_lives : (m : Meaning) (class live after : List ℕ) → Lives m class live → Fewer live class after → Lives m class after
fewer_lives m class live after lives fewer = record {
  reached = λ k d h. All-contains (Reached m.kinds m) live (get_or after k d) lives.reached (fewer.from k d h);
  others = λ p h. go p (lives.others p h);
}
  where
    go : (p : ℕ) → Contains live p ⊎ Alone m class p → Contains after p ⊎ Alone m class p
    go p (inr x) = inr x
    go p (inl h) = gone (fewer.gone p h)
      where
        alone : ((q : ℕ) → Contains live q → get_or class q 0 ≡ get_or class p 0 → q ≡ p)
            → (q : ℕ) → Reached m.kinds m q → get_or class q 0 ≡ get_or class p 0 → Contains live q ⊎ Alone m class q → q ≡ p
        alone lone q hq f (inr x) = sym (x p (All-contains (Reached m.kinds m) live p lives.reached h) (sym f))
        alone lone q hq f (inl x) = lone q x f

        gone : Contains after p ⊎ ((q : ℕ) → Contains live q → get_or class q 0 ≡ get_or class p 0 → q ≡ p) → Contains after p ⊎ Alone m class p
        gone (inl x) = inl x
        gone (inr lone) = inr (λ q hq f. alone lone q hq f (lives.others q hq))

-- Where the live states have the keys of their leaders, members of a class have equal keys.
pub level_keys : (m : Meaning) (class leader live key : List ℕ) → Lives m class live → Level live key class leader
    → (p q : ℕ) → Reached m.kinds m p → Reached m.kinds m q → get_or class p 0 ≡ get_or class q 0 → (p ≡ q) ⊎ (Contains live p × Contains live q × (get_or key p 0 ≡ get_or key q 0))
level_keys m class leader live key lives level p q hp hq e = go (lives.others p hp) (lives.others q hq)
  where
    go : Contains live p ⊎ Alone m class p → Contains live q ⊎ Alone m class q → (p ≡ q) ⊎ (Contains live p × Contains live q × (get_or key p 0 ≡ get_or key q 0))
    go (inr x) y = inl (sym (x q hq (sym e)))
    go (inl x) (inr y) = inl (y p hp e)
    go (inl x) (inl y) = inr (x, y, All-contains (LevelAt key class leader) live p level x ∙ (ap (λ z. get_or key (get_or leader z 0) 0) e ∙ sym (All-contains (LevelAt key class leader) live q level y)))

pub level_equal : (m : Meaning) (f : ℕ → ℕ) (class leader live key : List ℕ) → Lives m class live → Level live key class leader
    → Keys f live key → (p q : ℕ) → Reached m.kinds m p → Reached m.kinds m q → get_or class p 0 ≡ get_or class q 0 → f p ≡ f q
level_equal m f class leader live key lives level keys p q hp hq e = go (level_keys m class leader live key lives level p q hp hq e)
  where
    go : (p ≡ q) ⊎ (Contains live p × Contains live q × (get_or key p 0 ≡ get_or key q 0)) → f p ≡ f q
    go (inl g) = ap f g
    go (inr (x, y, g)) = sym (All-contains (λ z. get_or key z 0 ≡ f z) live p keys x) ∙ (g ∙ All-contains (λ z. get_or key z 0 ≡ f z) live q keys y)

-- The listed states are all live at first.
pub all_live : (m : Meaning) (class list : List ℕ) → Listing m list → Lives m class list
all_live m class list listed = record {
  reached = All-from_get_or (Reached m.kinds m) list 0 listed.reached;
  others = λ p h. inl (let v = listed.all p h in subst (Contains list) v.2 (Contains-get_or list v.0 0 v.1));
}

whole_led : (m : Meaning) (class leader : List ℕ) (s : ℕ) → Reached m.kinds m s → Whole class leader s → All (Reached m.kinds m) leader
whole_led m class leader s hit whole = subst (All (Reached m.kinds m)) (sym whole.0) (All-cons (Reached m.kinds m) s [] hit (All-nil (Reached m.kinds m)))

whole_coarse : (m : Meaning) (class leader : List ℕ) (s : ℕ) → Whole class leader s → Coarse m class
whole_coarse m class leader s whole p q hp hq e = whole.1 p ∙ sym (whole.1 q)

-- The whole, divided by the marks.
module _ (m : Meaning) (class leader live : List ℕ) (s : ℕ) (lives : Lives m class live) (hit : Reached m.kinds m s) (whole : Whole class leader s)
    (key class' leader' : List ℕ) (keys : Keys (mark_key m) live key) (split : Split live key class leader class' leader') where
  same_keys : (p q : ℕ) → Contains live p → Contains live q → Same m.kinds m p q → get_or key p 0 ≡ get_or key q 0
  same_keys = keys_same m (mark_key m) class live key lives (mark_key_same m) keys

  pub marks_lives : Lives m class' live
  marks_lives = split_lives m class leader live key class' leader' lives (whole_led m class leader s hit whole) (whole_coarse m class leader s whole) same_keys split

  pub marks_classed : Parts class' leader' → Level live key class' leader' → Classed m class' leader'
  marks_classed parts level = split_classed m class leader live key class' leader' lives
      (whole_led m class leader s hit whole) (whole_coarse m class leader s whole) same_keys split parts
      (λ p q hp hq e. sym (mark_told (m.mark p)) ∙ (ap (λ z. eqb z 1)
      (level_equal m (mark_key m) class' leader' live key marks_lives level keys p q hp hq e) ∙ mark_told (m.mark q)))

-- What follows from a division that is known to be sound.
pub known_below : {A : Type 0} {x y : ℕ} → ∥ A ∥₁ → (A → x < y) → x < y
known_below h f = ∥∥₁_elim h le_prop f

pub known_equal : {A : Type 0} {x y : ℕ} → ∥ A ∥₁ → (A → x ≡ y) → x ≡ y
known_equal h f = ∥∥₁_elim h (ℕ_set _ _) f

pub live_below : (w : Ruled) (class leader live : List ℕ) → ∥ Sorted w.plain class leader live ∥₁ → All (λ s. s < w.plain.states) live
live_below w class leader live sorted k d h = known_below sorted (λ z. reached_below w (get_or live k d) (z.lives.reached k d h))

-- Every member of a class is alone where no state is live.
pub none_live : (m : Meaning) (class live : List ℕ) → length live ≡ 0 → Lives m class live → AllEven m class
none_live m class live z lives x at p q hp hq e = go (lives.others p hp)
  where
    go : Contains live p ⊎ Alone m class p → get_or class (stepped m x p) 0 ≡ get_or class (stepped m x q) 0
    go (inl h) = absurd (omega (arith, h.1))
    go (inr h) = ap (λ y. get_or class (stepped m x y) 0) (sym (h q hq (sym e)))

module _ (m : Meaning) (class leader : List ℕ) (k : Classed m class leader) (even : AllEven m class) where
  around_class : (p q : ℕ) → Reached m.kinds m p → Reached m.kinds m q → get_or class p 0 ≡ get_or class q 0
      → (s : Surrounding) → SurroundingOver m.kinds s → get_or class (around m s p) 0 ≡ get_or class (around m s q) 0
  around_class p q hp hq e gap o = e
  around_class p q hp hq e (under k s) o = even (Under k) o.0 (around m s p) (around m s q)
      (reached_around m.kinds m s o.1 p hp) (reached_around m.kinds m s o.1 q hq) (around_class p q hp hq e s o.1)
  around_class p q hp hq e (left k s t) o = even (Left k (run m t)) (o.0, run_reached m.kinds m t o.2) (around m s p) (around m s q)
      (reached_around m.kinds m s o.1 p hp) (reached_around m.kinds m s o.1 q hq) (around_class p q hp hq e s o.1)
  around_class p q hp hq e (right k t s) o = even (Right k (run m t)) (o.0, run_reached m.kinds m t o.1) (around m s p) (around m s q)
      (reached_around m.kinds m s o.2 p hp) (reached_around m.kinds m s o.2 q hq) (around_class p q hp hq e s o.2)

  -- Sound classes whose members lead to one class in every context are the classes.
  even_classes : Classes m.kinds m (length leader) (λ p. get_or class p 0)
  even_classes = record {
    small = λ p h. k.parts.small p;
    member = λ j h. get_or leader j 0;
    reached = λ j h. k.led j 0 h;
    member_of = k.parts.own;
    exact = λ p q hp hq. (
      (λ e s o. k.marks (around m s p) (around m s q) (reached_around m.kinds m s o p hp) (reached_around m.kinds m s o q hq) (around_class p q hp hq e s o)),
      k.coarse p q hp hq,
    );
  }

-- A listed state stands at a place, or nowhere.
find_at : (xs : List ℕ) (n p : ℕ) → ((i : ℕ) × (i < n) × (get_or xs i 0 ≡ p)) ⊎ ((i : ℕ) → i < n → ¬ (get_or xs i 0 ≡ p))
find_at xs zero p = inr (λ i h. absurd (omega arith))
find_at xs (suc n) p = go (ℕ_discrete (get_or xs n 0) p) (find_at xs n p)
  where
    go : Dec (get_or xs n 0 ≡ p) → ((i : ℕ) × (i < n) × (get_or xs i 0 ≡ p)) ⊎ ((i : ℕ) → i < n → ¬ (get_or xs i 0 ≡ p))
        → ((i : ℕ) × (i < suc n) × (get_or xs i 0 ≡ p)) ⊎ ((i : ℕ) → i < suc n → ¬ (get_or xs i 0 ≡ p))
    go (yes e) f = inl (n, omega arith, e)
    go (no e) (inl f) = inl (f.0, omega (arith, f.1), f.2)
    go (no e) (inr f) = inr (λ i h. last i h (ℕ_discrete i n))
      where
        last : (i : ℕ) → i < suc n → Dec (i ≡ n) → ¬ (get_or xs i 0 ≡ p)
        last i h (yes d) g = e (ap (λ z. get_or xs z 0) (sym d) ∙ g)
        last i h (no d) g = f i (omega arith) g

listed_reached : (m : Meaning) (list : List ℕ) (p : ℕ) → Listing m list → ∥ Reached m.kinds m p ∥₁ → Reached m.kinds m p
listed_reached m list p listing known = go (find_at list (length list) p)
  where
    go : ((i : ℕ) × (i < length list) × (get_or list i 0 ≡ p)) ⊎ ((i : ℕ) → i < length list → ¬ (get_or list i 0 ≡ p)) → Reached m.kinds m p
    go (inl f) = subst (Reached m.kinds m) f.2 (listing.reached f.0 f.1)
    go (inr f) = absurd (∥∥₁_elim known (λ x y. absurd x) (λ r. let v = listing.all p r in f v.0 v.1 v.2))

-- A division that is known to be sound, and even in every context, is that into classes.
pub known_classes : (m : Meaning) (list class leader live : List ℕ) → Listing m list → Parts class leader → ∥ Sorted m class leader live ∥₁ → AllEven m class
    → Classes m.kinds m (length leader) (λ p. get_or class p 0)
known_classes m list class leader live listing parts sorted even = record {
  small = λ p h. parts.small p;
  member = λ j h. get_or leader j 0;
  reached = λ j h. listed_reached m list (get_or leader j 0) listing (∥∥₁_map sorted (λ z. z.classed.led j 0 h));
  member_of = parts.own;
  exact = λ p q hp hq. (
    (λ e s o. ∥∥₁_elim sorted (Bool-set _ _) (λ z. ((even_classes m class leader z.classed even).exact p q hp hq).0 e s o)),
    (λ e. known_equal sorted (λ z. ((even_classes m class leader z.classed even).exact p q hp hq).1 e)),
  );
}

pub known_none : (m : Meaning) (class leader live : List ℕ) → length live ≡ 0 → ∥ Sorted m class leader live ∥₁ → AllEven m class
known_none m class leader live z sorted x at p q hp hq e = known_equal sorted (λ y. none_live m class live z y.lives x at p q hp hq e)

-- Where every brother rests, every context does: a brother on the left acts as the leader of its class does.
pub rest_all : (w : Ruled) (order class leader : List ℕ) → Listing w.plain order → Classed w.plain class leader
    → EvenUnder w.plain class 16 → ((j : ℕ) → j < length order → EvenBeside w.plain class leader 16 (get_or order j 0)) → AllEven w.plain class
rest_all w order class leader list sound unders besides = all
  where
    beside : (r : ℕ) → Reached w.plain.kinds w.plain r → EvenBeside w.plain class leader 16 r
    beside r h = let v = list.all r h in subst (EvenBeside w.plain class leader 16) v.2 (besides v.0 v.1)

    few : (k z : ℕ) → Kind w.plain.kinds k z → k < 16
    few k z kind = omega (arith, kind.0, w.list.1)

    all : AllEven w.plain class
    all (Under k) at p q hp hq e = unders k (few k 1 at) at p q hp hq e
    all (Left k r) at p q hp hq e = (beside r at.1 k (few k 2 at.0) at.0).0 p q hp hq e
    all (Right k r) at p q hp hq e =
        let l = get_or leader (get_or class r 0) 0 in
        let small = sound.parts.small r in
        let hl = sound.led (get_or class r 0) 0 small in
        let own = sound.parts.own (get_or class r 0) small in
        let lead : get_or leader (get_or class l 0) 0 ≡ l = ap (λ z. get_or leader z 0) own in
        (beside p hp k (few k 2 at.0) at.0).0 r l at.1 hl (sym own)
        ∙ ((beside l hl k (few k 2 at.0) at.0).1 lead p q hp hq e
        ∙ sym ((beside q hq k (few k 2 at.0) at.0).0 r l at.1 hl (sym own)))

-- Where every brother rests in a division that is known to be sound, every context does.
pub known_rest : (w : Ruled) (order class leader live : List ℕ) → Listing w.plain order → ∥ Sorted w.plain class leader live ∥₁
    → EvenUnder w.plain class 16 → ((j : ℕ) → j < length order → EvenBeside w.plain class leader 16 (get_or order j 0)) → AllEven w.plain class
known_rest w order class leader live listing sorted unders besides x at p q hp hq e =
    known_equal sorted (λ z. rest_all w order class leader listing z.classed unders besides x at p q hp hq e)

-- The place after `next` in the circle of n.
next_in : (next n : ℕ) → next < n → ((next + 1 ≡ n) × ((next + 1) % n ≡ 0)) ⊎ ((next + 1 < n) × ((next + 1) % n ≡ next + 1))
next_in next n h = go (ℕ_discrete (next + 1) n)
  where
    go : Dec (next + 1 ≡ n) → ((next + 1 ≡ n) × ((next + 1) % n ≡ 0)) ⊎ ((next + 1 < n) × ((next + 1) % n ≡ next + 1))
    go (yes e) = inl (e, ap (λ x. x % n) e ∙ mod_self n)
    go (no e) = inr (omega arith, mod-eq_of_lt (omega arith))

-- One brother more rests, in the circle.
pub resting_more : (m : Meaning) (order : List ℕ) (n : ℕ) (class leader : List ℕ) (quiet next : ℕ) → next < n
    → EvenBeside m class leader 16 (get_or order next 0) → Resting m order n class leader quiet next → Resting m order n class leader (quiet + 1) ((next + 1) % n)
resting_more m order n class leader quiet next h now_rests rests j l way = go (ℕ_discrete j next) (next_in next n h)
  where
    go : Dec (j ≡ next) → ((next + 1 ≡ n) × ((next + 1) % n ≡ 0)) ⊎ ((next + 1 < n) × ((next + 1) % n ≡ next + 1)) → EvenBeside m class leader 16 (get_or order j 0)
    go (yes f) d = subst (λ z. EvenBeside m class leader 16 (get_or order z 0)) (sym f) now_rests
    go (no f) (inl d) = rests j l (inl (omega (arith, way, d.0, d.1), omega (arith, way, d.0, d.1)))
    go (no f) (inr d) = later (dec_lt j next)
      where
        later : Dec (j < next) → EvenBeside m class leader 16 (get_or order j 0)
        later (yes g) = rests j l (inl (g, omega (arith, way, d.1)))
        later (no g) = rests j l (inr (omega arith, omega (arith, way, d.1)))

pub resting_none : (m : Meaning) (order : List ℕ) (n : ℕ) (class leader : List ℕ) (next : ℕ) → next ≤ n → Resting m order n class leader 0 next
resting_none m order n class leader next h j l way = absurd (omega (arith, way))

pub resting_all : (m : Meaning) (order : List ℕ) (n : ℕ) (class leader : List ℕ) (quiet next : ℕ) → next < n → n ≤ quiet → Resting m order n class leader quiet next
    → (j : ℕ) → j < n → EvenBeside m class leader 16 (get_or order j 0)
resting_all m order n class leader quiet next h g rests j l = go (dec_lt j next)
  where
    go : Dec (j < next) → EvenBeside m class leader 16 (get_or order j 0)
    go (yes d) = rests j l (inl (d, omega arith))
    go (no d) = rests j l (inr (omega arith, omega arith))

-- What a sweep leaves: sound classes, which are even where nothing was divided.
module _ (m : Meaning) (x : Context) (class leader live key class' leader' : List ℕ) (at : IsContext m x)
    (keys : Keys (class_key m class x) live key) (split : Split live key class leader class' leader') where
  equal_keys : Sorted m class leader live → (p q : ℕ) → Contains live p → Contains live q → Same m.kinds m p q → get_or key p 0 ≡ get_or key q 0
  equal_keys z = keys_same m (class_key m class x) class live key z.lives (class_key_same m class x z.classed.coarse at) keys

  swept_lives : Sorted m class leader live → Lives m class' live
  swept_lives z = split_lives m class leader live key class' leader' z.lives z.classed.led z.classed.coarse (equal_keys z) split

  pub swept : Parts class' leader' → (after : List ℕ) → Fewer live class' after → Sorted m class leader live → Sorted m class' leader' after
  swept parts after fewer z = record {
    classed = split_classed m class leader live key class' leader' z.lives z.classed.led z.classed.coarse (equal_keys z) split parts
        (λ p q hp hq e. z.classed.marks p q hp hq (split.finer p q e));
    lives = fewer_lives m class' live after (swept_lives z) fewer;
  }

  pub swept_even : class' ≡ class → Level live key class' leader' → ∥ Sorted m class leader live ∥₁ → Even m class' x
  swept_even same level sorted p q hp hq e = known_equal sorted
      (λ z. subst (λ k. get_or k (stepped m x p) 0 ≡ get_or k (stepped m x q) 0) (sym same)
      (level_equal m (class_key m class x) class' leader' live key (swept_lives z) level keys p q hp hq e))

-- Nothing was divided, so what rested rests still.
pub resting_as : (m : Meaning) (order : List ℕ) (n : ℕ) (class leader class' leader' : List ℕ) (quiet next : ℕ) → class' ≡ class → leader' ≡ leader
    → Resting m order n class leader quiet next → Resting m order n class' leader' quiet next
resting_as m order n class leader class' leader' quiet next e f h =
    subst (λ k. Resting m order n k leader' quiet next) (sym e) (subst (λ l. Resting m order n class l quiet next) (sym f) h)

-- One turn of the circle: there is less left to do,
pub turn_less : (b : Bool) (c c' n quiet quiet' : ℕ) → quiet < n → n ≤ 1089 → c' ≤ 1089 → (b ≡ true → c < c') → (b ≡ false → c' ≡ c) → quiet' ≡ cond b 0 (quiet + 1)
    → (1089 - c') * 2000 + (n - quiet') < (1089 - c) * 2000 + (n - quiet)
turn_less true c c' n quiet quiet' h few small more same e = let z = more refl in omega arith
turn_less false c c' n quiet quiet' h few small more same e = let z = same refl in omega arith

pub turn_quiet : (b : Bool) (n quiet quiet' : ℕ) → quiet < n → quiet' ≡ cond b 0 (quiet + 1) → quiet' ≤ n
turn_quiet true n quiet quiet' h e = omega arith
turn_quiet false n quiet quiet' h e = omega arith

-- and as many rest as are said to.
pub turn_rests : (m : Meaning) (order : List ℕ) (n : ℕ) (class leader class' leader' : List ℕ) (b : Bool) (quiet quiet' next : ℕ) → next < n
    → quiet' ≡ cond b 0 (quiet + 1)
    → (b ≡ false → (class' ≡ class) × (leader' ≡ leader) × EvenBeside m class' leader' 16 (get_or order next 0))
    → Resting m order n class leader quiet next → Resting m order n class' leader' quiet' ((next + 1) % n)
turn_rests m order n class leader class' leader' true quiet quiet' next h e still rests =
    subst (λ z. Resting m order n class' leader' z ((next + 1) % n)) (sym e) (resting_none m order n class' leader' ((next + 1) % n) (omega arith))
turn_rests m order n class leader class' leader' false quiet quiet' next h e still rests =
    let s = still refl in
    subst (λ z. Resting m order n class' leader' z ((next + 1) % n)) (sym e)
    (resting_more m order n class' leader' quiet next h s.2 (resting_as m order n class leader class' leader' quiet next s.0 s.1 rests))
