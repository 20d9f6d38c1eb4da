-- Classes divided by keys, as lists alone.
use Rattle.std.proofs.Common.{◌≡◌, ℕ, suc, ◌+◌, ◌<◌, ◌≤◌, ◌⊎◌, List, [], ◌∷◌, ◌++◌, All, Contains, length, get_or, replicate, sym, refl, ap, ◌∙◌, subst, inl, inr, arith, length-append}
use native.Mathlib.Decide.{dec_lt}
use Rattle.std.proofs.Math.Seq.{get_or-append_seam}
use Rattle.std.proofs.lemmas.List.{get_or_append_left}
use Rattle.std.proofs.lemmas.List.Elements.{All-cons, All-contains, All-nil, All-push}
use Rattle.ruling.proofs.Pigeons.{pigeons}
use Rattle.reduction.specs.Dividing.{Parts, LevelAt, Split, Moved}
use Rattle.reduction.proofs.Bounds.{fresh}

-- The classes of different leaders are different, so there are no more classes than numbers for leaders.
pub few_parts : (class leader : List ℕ) → Parts class leader → length leader ≤ 1089
few_parts class leader parts = pigeons (length leader) 1089 (λ j h. get_or leader j 0) (λ j h. parts.led j 0 h)
    (λ i j h g e. sym (parts.own i h) ∙ (ap (λ z. get_or class z 0) e ∙ parts.own j g))

-- The state s has not the key of its class's leader: what is moved is a new class, which it leads.
module _ (key class leader : List ℕ) (s : ℕ) (parts : Parts class leader) (small : s < 1089) (odd : ¬ LevelAt key class leader s) where
  not_leader : (j : ℕ) → j < length leader → ¬ (get_or leader j 0 ≡ s)
  not_leader j l e =
      let f : get_or class s 0 ≡ j = ap (λ z. get_or class z 0) (sym e) ∙ parts.own j l in
      odd (ap (λ z. get_or key z 0) (sym e ∙ ap (λ z. get_or leader z 0) (sym f)))

  pub one_more : length leader < 1089
  one_more = let z : suc (length leader) ≤ 1089 = pigeons (suc (length leader)) 1089 pick pick_small pick_once in omega arith
    where
      at : (i : ℕ) → Dec (i < length leader) → ℕ
      at i (yes l) = get_or leader i 0
      at i (no l) = s

      at_small : (i : ℕ) (d : Dec (i < length leader)) → at i d < 1089
      at_small i (yes l) = parts.led i 0 l
      at_small i (no l) = small

      pick : (i : ℕ) → i < suc (length leader) → ℕ
      pick i l = at i (dec_lt i (length leader))

      pick_small : (i : ℕ) (l : i < suc (length leader)) → pick i l < 1089
      pick_small i l = at_small i (dec_lt i (length leader))

      once : (i j : ℕ) → i < suc (length leader) → j < suc (length leader) → (d : Dec (i < length leader)) (e : Dec (j < length leader)) → at i d ≡ at j e → i ≡ j
      once i j k g (yes a) (yes b) e = sym (parts.own i a) ∙ (ap (λ z. get_or class z 0) e ∙ parts.own j b)
      once i j k g (yes a) (no b) e = absurd (not_leader i a e)
      once i j k g (no a) (yes b) e = absurd (not_leader j b (sym e))
      once i j k g (no a) (no b) e = omega arith

      pick_once : (i j : ℕ) (k : i < suc (length leader)) (g : j < suc (length leader)) → pick i k ≡ pick j g → i ≡ j
      pick_once i j k g e = once i j k g (dec_lt i (length leader)) (dec_lt j (length leader)) e

  module _ (live : List ℕ) (hit : Contains live s) (class' : List ℕ) (gone : Moved live key class (get_or class s 0) (get_or key s 0) (length leader) class') where
    abbrev Way : ℕ → Type 0
    Way p = (get_or class' p 0 ≡ get_or class p 0) ⊎ ((get_or class p 0 ≡ get_or class s 0) × (get_or key p 0 ≡ get_or key s 0) × (get_or class' p 0 ≡ length leader))

    moves : (p : ℕ) → Contains live p → get_or class p 0 ≡ get_or class s 0 → get_or key p 0 ≡ get_or key s 0 → get_or class' p 0 ≡ length leader
    moves p h = All-contains (λ z. (get_or class z 0 ≡ get_or class s 0 → get_or key z 0 ≡ get_or key s 0 → get_or class' z 0 ≡ length leader)) live p gone.all h

    long : length (leader ++ s ∷ []) ≡ length leader + 1
    long = length-append leader (s ∷ [])

    old : (j : ℕ) → j < length leader → get_or (leader ++ s ∷ []) j 0 ≡ get_or leader j 0
    old j l = get_or_append_left leader (s ∷ []) 0 j l

    last : get_or (leader ++ s ∷ []) (length leader) 0 ≡ s
    last = get_or-append_seam leader s [] 0

    below : (p : ℕ) → get_or class' p 0 < length (leader ++ s ∷ [])
    below p = go (gone.only p)
      where
        go : Way p → get_or class' p 0 < length (leader ++ s ∷ [])
        go (inl e) = omega (arith, long, parts.small p)
        go (inr e) = omega (arith, long, e.2)

    own : (j : ℕ) → j < length (leader ++ s ∷ []) → Dec (j < length leader) → get_or class' (get_or (leader ++ s ∷ []) j 0) 0 ≡ j
    own j l (yes d) = ap (λ z. get_or class' z 0) (old j d) ∙ go (gone.only (get_or leader j 0))
      where
        go : Way (get_or leader j 0) → get_or class' (get_or leader j 0) 0 ≡ j
        go (inl e) = e ∙ parts.own j d
        go (inr e) = absurd (odd (sym e.1 ∙ ap (λ z. get_or key (get_or leader z 0) 0) (sym (parts.own j d) ∙ e.0)))
    own j l (no d) =
        let e : j ≡ length leader = omega (arith, long) in
        ap (λ z. get_or class' (get_or (leader ++ s ∷ []) z 0) 0) e ∙ (ap (λ z. get_or class' z 0) last ∙ (moves s hit refl refl ∙ sym e))

    divided_parts : Parts class' (leader ++ s ∷ [])
    divided_parts = record {
      some = omega (arith, long);
      small = below;
      led = All-push (λ z. z < 1089) leader s parts.led small;
      own = λ j l. own j l (dec_lt j (length leader));
    }

    finer : (p q : ℕ) → get_or class' p 0 ≡ get_or class' q 0 → get_or class p 0 ≡ get_or class q 0
    finer p q e = go (gone.only p) (gone.only q)
      where
        go : Way p → Way q → get_or class p 0 ≡ get_or class q 0
        go (inl f) (inl g) = sym f ∙ (e ∙ g)
        go (inl f) (inr g) = absurd (omega (arith, parts.small p, f, g.2))
        go (inr f) (inl g) = absurd (omega (arith, parts.small q, g, f.2))
        go (inr f) (inr g) = f.0 ∙ sym g.0

    together : (p q : ℕ) → Contains live p → Contains live q → get_or class p 0 ≡ get_or class q 0 → get_or key p 0 ≡ get_or key q 0 → get_or class' p 0 ≡ get_or class' q 0
    together p q i j e f = go (gone.only p) (gone.only q)
      where
        go : Way p → Way q → get_or class' p 0 ≡ get_or class' q 0
        go (inl u) (inl v) = u ∙ (e ∙ sym v)
        go u (inr v) = moves p i (e ∙ v.0) (f ∙ v.1) ∙ sym v.2
        go (inr u) (inl v) = u.2 ∙ sym (moves q j (sym e ∙ u.0) (sym f ∙ u.1))

    new : (j : ℕ) → length leader ≤ j → j < length (leader ++ s ∷ []) → Contains live (get_or (leader ++ s ∷ []) j 0)
    new j l g = let e : j ≡ length leader = omega (arith, long) in subst (Contains live) (sym (ap (λ z. get_or (leader ++ s ∷ []) z 0) e ∙ last)) hit

    divided : Split live key class leader class' (leader ++ s ∷ [])
    divided = record { more = omega (arith, long); finer = finer; together = together; stay = old; new = new }

    joins : (p : ℕ) → get_or key p 0 ≡ get_or key s 0 → get_or class' p 0 ≡ length leader → LevelAt key class' (leader ++ s ∷ []) p
    joins p e f = e ∙ ap (λ z. get_or key z 0) (sym (ap (λ z. get_or (leader ++ s ∷ []) z 0) f ∙ last))

    -- Whoever had the key of its class's leader has it still.
    level_kept : (p : ℕ) → LevelAt key class leader p → LevelAt key class' (leader ++ s ∷ []) p
    level_kept p level = go (gone.only p)
      where
        go : Way p → LevelAt key class' (leader ++ s ∷ []) p
        go (inr e) = joins p e.1 e.2
        go (inl e) = level ∙ ap (λ z. get_or key z 0) (sym (ap (λ z. get_or (leader ++ s ∷ []) z 0) e ∙ old (get_or class p 0) (parts.small p)))

-- The same of what a division of a partition leaves.
module _ (key class leader live : List ℕ) (s n : ℕ) (class' leader' : List ℕ) (parts : Parts class leader) (below : All (λ z. z < 1089) live) (hit : Contains live s)
    (odd : ¬ LevelAt key class leader s) (is : n ≡ length leader) (gone : Moved live key class (get_or class s 0) (get_or key s 0) n class')
    (grown : leader' ≡ leader ++ s ∷ []) where
  small : s < 1089
  small = All-contains (λ z. z < 1089) live s below hit

  moved : Moved live key class (get_or class s 0) (get_or key s 0) (length leader) class'
  moved = subst (λ z. Moved live key class (get_or class s 0) (get_or key s 0) z class') is gone

  pub after_parts : Parts class' leader'
  after_parts = subst (Parts class') (sym grown) (divided_parts key class leader s parts small odd live hit class' moved)

  pub after_split : Split live key class leader class' leader'
  after_split = subst (Split live key class leader class') (sym grown) (divided key class leader s parts small odd live hit class' moved)

  pub after_kept : (p : ℕ) → LevelAt key class leader p → LevelAt key class' leader' p
  after_kept p level = subst (λ l. LevelAt key class' l p) (sym grown) (level_kept key class leader s parts small odd live hit class' moved p level)

pub split_on : (live key a l a' l' a'' l'' : List ℕ) → Split live key a l a' l' → Split live key a' l' a'' l'' → Split live key a l a'' l''
split_on live key a l a' l' a'' l'' s t = record {
  more = omega (arith, s.more, t.more);
  finer = λ p q e. s.finer p q (t.finer p q e);
  together = λ p q i j e f. t.together p q i j (s.together p q i j e f) f;
  stay = λ j h. t.stay j (omega (arith, s.more)) ∙ s.stay j h;
  new = λ j h g. new j h g (dec_lt j (length l'));
}
  where
    new : (j : ℕ) → length l ≤ j → j < length l'' → Dec (j < length l') → Contains live (get_or l'' j 0)
    new j h g (yes d) = subst (Contains live) (sym (t.stay j d)) (s.new j h d)
    new j h g (no d) = t.new j (omega arith) g

-- One class of all states.
pub whole_parts : (class leader : List ℕ) (s : ℕ) → class ≡ replicate 1089 0 → leader ≡ s ∷ [] → s < 1089 → Parts class leader
whole_parts class leader s e f small = record {
  some = omega (arith, one);
  small = λ p. omega (arith, one, zero_of p);
  led = subst (All (λ z. z < 1089)) (sym f) (All-cons (λ z. z < 1089) s [] small (All-nil (λ z. z < 1089)));
  own = λ j h. zero_of (get_or leader j 0) ∙ omega (arith, one, h);
}
  where
    one : length leader ≡ 1
    one = ap length f

    zero_of : (p : ℕ) → get_or class p 0 ≡ 0
    zero_of p = ap (λ z. get_or z p 0) e ∙ fresh {A = ℕ} 1089 0 p
