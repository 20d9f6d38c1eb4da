-- Divisions of the reached states: a state of each part, and finer divisions.
use Rattle.std.proofs.Common.{◌≡◌, ℕ, suc, ◌<◌, ◌≤◌, ◌↔◌, List, sym, ap, ◌∙◌, arith}
use native.Mathlib.Decide.{ℕ_discrete, dec_lt}
use Rattle.ruling.specs.Meanings.{Meaning, Complete}
use Rattle.ruling.specs.Classes.{Reached, Divides}
use Rattle.ruling.proofs.Pigeons.{pigeons}
use Rattle.ruling.proofs.Smallest.{reached_below}

-- a relation that holds of the same reached states divides them in the same way
pub divides_by : (ks : List ℕ) (m : Meaning) (R S : ℕ → ℕ → Type 0) (c : ℕ) (class : ℕ → ℕ) → Divides ks m R c class
    → ((p q : ℕ) → Reached ks m p → Reached ks m q → R p q ↔ S p q) → Divides ks m S c class
divides_by ks m R S c class v same = record {
  small = v.small;
  member = v.member;
  reached = v.reached;
  member_of = v.member_of;
  exact = λ p q hp hq. (λ e. (same p q hp hq).0 ((v.exact p q hp hq).0 e), λ s. (v.exact p q hp hq).1 ((same p q hp hq).1 s));
}

module _ (ks : List ℕ) (m : Meaning) (R : ℕ → ℕ → Type 0) (c : ℕ) (class : ℕ → ℕ) (v : Divides ks m R c class) where
  -- there are no more parts than states
  pub parts_few : Complete ks m → c ≤ m.states
  parts_few full = pigeons c m.states v.member
      (λ j h. reached_below ks m full (v.member j h) (v.reached j h))
      (λ i j h g e. sym (v.member_of i h) ∙ (ap class e ∙ v.member_of j g))

  pick : (j : ℕ) → Dec (j < c) → ℕ
  pick j (yes h) = v.member j h
  pick j (no h) = 0

  -- the state that stands for the part j
  pub rep : ℕ → ℕ
  rep j = pick j (dec_lt j c)

  pub rep_reached : (j : ℕ) → j < c → Reached ks m (rep j)
  unfolding pick rep
  rep_reached j h = go (dec_lt j c)
    where
      go : (d : Dec (j < c)) → Reached ks m (pick j d)
      go (yes g) = v.reached j g
      go (no g) = absurd (g h)

  pub rep_of : (j : ℕ) → j < c → class (rep j) ≡ j
  unfolding pick rep
  rep_of j h = go (dec_lt j c)
    where
      go : (d : Dec (j < c)) → class (pick j d) ≡ j
      go (yes g) = v.member_of j g
      go (no g) = absurd (g h)

-- a finer division into no more parts is the same division
module _ (ks : List ℕ) (m : Meaning) (R S : ℕ → ℕ → Type 0) (c f : ℕ) (class fine : ℕ → ℕ)
    (v : Divides ks m R c class) (w : Divides ks m S f fine) (few : f ≤ c)
    (refines : (p q : ℕ) → Reached ks m p → Reached ks m q → fine p ≡ fine q → class p ≡ class q) where
  standing : ℕ → ℕ
  standing = rep ks m R c class v

  -- a state that is not in the finer part of the state that stands for its part would make one finer part too many
  one_more : (x : ℕ) → Reached ks m x → ¬ (fine x ≡ fine (standing (class x))) → ⊥
  unfolding standing
  one_more x hx apart =
      let z = pigeons (suc c) f (λ i h. fine (at i (dec_lt i c))) (λ i h. w.small _ (at_reached i (dec_lt i c))) pick_once in omega arith
    where
      at : (i : ℕ) → Dec (i < c) → ℕ
      at i (yes h) = standing i
      at i (no h) = x

      at_reached : (i : ℕ) (d : Dec (i < c)) → Reached ks m (at i d)
      at_reached i (yes h) = rep_reached ks m R c class v i h
      at_reached i (no h) = hx

      clear : (i : ℕ) → i < c → ¬ (fine x ≡ fine (standing i))
      clear i h e =
          let j : class x ≡ i = refines x (standing i) hx (rep_reached ks m R c class v i h) e ∙ rep_of ks m R c class v i h in
          apart (e ∙ ap (λ y. fine (standing y)) (sym j))

      once : (i j : ℕ) → i < suc c → j < suc c → (d : Dec (i < c)) (e : Dec (j < c)) → fine (at i d) ≡ fine (at j e) → i ≡ j
      once i j h g (yes a) (yes b) e = sym (rep_of ks m R c class v i a)
          ∙ (refines (standing i) (standing j) (rep_reached ks m R c class v i a) (rep_reached ks m R c class v j b) e ∙ rep_of ks m R c class v j b)
      once i j h g (yes a) (no b) e = absurd (clear i a (sym e))
      once i j h g (no a) (yes b) e = absurd (clear j b e)
      once i j h g (no a) (no b) e = omega arith

      pick_once : (i j : ℕ) (h : i < suc c) (g : j < suc c) → fine (at i (dec_lt i c)) ≡ fine (at j (dec_lt j c)) → i ≡ j
      pick_once i j h g e = once i j h g (dec_lt i c) (dec_lt j c) e

  with_standing : (x : ℕ) → Reached ks m x → fine x ≡ fine (standing (class x))
  with_standing x hx = go (ℕ_discrete (fine x) (fine (standing (class x))))
    where
      go : Dec (fine x ≡ fine (standing (class x))) → fine x ≡ fine (standing (class x))
      go (yes e) = e
      go (no n) = absurd (one_more x hx n)

  pub steady : (p q : ℕ) → Reached ks m p → Reached ks m q → class p ≡ class q → fine p ≡ fine q
  steady p q hp hq e = with_standing p hp ∙ (ap (λ j. fine (standing j)) e ∙ sym (with_standing q hq))
