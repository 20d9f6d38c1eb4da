-- Surroundings: a record in the gap, one surrounding inside another, and what stays the same there.
use Rattle.std.proofs.Common.{◌≡◌, ℕ, List, sym, refl, ap, ◌∙◌, subst}
use Rattle.ruling.specs.Trees.{Tree, Over}
use Rattle.ruling.specs.Meanings.{Meaning, run}
use Rattle.ruling.specs.Surroundings.{Surrounding, gap, under, left, right, SurroundingOver, plug, around}
use Rattle.ruling.specs.Classes.{Reached, Same}
use Rattle.ruling.specs.Sets.{Agree}
use Rattle.ruling.specs.Theorems.{Plugging}

pub plugging : Plugging
plugging m gap t = refl
plugging m (under k s) t = ap (λ p. m.target k p 0) (plugging m s t)
plugging m (left k s u) t = ap (λ p. m.target k p (run m u)) (plugging m s t)
plugging m (right k u s) t = ap (λ p. m.target k (run m u) p) (plugging m s t)

-- a surrounding over the kinds, with a record over them in its gap, is a record over them
pub plug_over : (ks : List ℕ) (s : Surrounding) (t : Tree) → SurroundingOver ks s → Over ks t → Over ks (plug s t)
plug_over ks gap t a o = o
plug_over ks (under k s) t a o = (a.0, plug_over ks s t a.1 o)
plug_over ks (left k s u) t a o = (a.0, plug_over ks s t a.1 o, a.2)
plug_over ks (right k u s) t a o = (a.0, a.1, plug_over ks s t a.2 o)

-- with a reached state in the gap, the root's state is reached
pub reached_around : (ks : List ℕ) (m : Meaning) (s : Surrounding) → SurroundingOver ks s → (p : ℕ) → Reached ks m p → Reached ks m (around m s p)
reached_around ks m s o p r = record {
  tree = plug s r.tree;
  over = plug_over ks s r.tree o r.over;
  runs = plugging m s r.tree ∙ ap (around m s) r.runs;
}

-- the surrounding s with the surrounding i in its gap
pub within : Surrounding → Surrounding → Surrounding
within gap i = i
within (under k s) i = under k (within s i)
within (left k s t) i = left k (within s i) t
within (right k t s) i = right k t (within s i)

pub within_over : (ks : List ℕ) (s i : Surrounding) → SurroundingOver ks s → SurroundingOver ks i → SurroundingOver ks (within s i)
unfolding within
within_over ks gap i a b = b
within_over ks (under k s) i a b = (a.0, within_over ks s i a.1 b)
within_over ks (left k s t) i a b = (a.0, within_over ks s i a.1 b, a.2)
within_over ks (right k t s) i a b = (a.0, a.1, within_over ks s i a.2 b)

pub within_around : (m : Meaning) (s i : Surrounding) (p : ℕ) → around m (within s i) p ≡ around m s (around m i p)
unfolding within
within_around m gap i p = refl
within_around m (under k s) i p = ap (λ x. m.target k x 0) (within_around m s i p)
within_around m (left k s t) i p = ap (λ x. m.target k x (run m t)) (within_around m s i p)
within_around m (right k t s) i p = ap (λ x. m.target k (run m t) x) (within_around m s i p)

-- states that no surrounding tells apart stay so inside a surrounding
pub inside : (ks : List ℕ) (m : Meaning) (i : Surrounding) → SurroundingOver ks i → (p q : ℕ) → Same ks m p q
    → Same ks m (around m i p) (around m i q)
inside ks m i oi p q same s os =
    ap m.mark (sym (within_around m s i p)) ∙ (same (within s i) (within_over ks s i os oi) ∙ ap m.mark (within_around m s i q))

-- rulings that agree, the other way round
pub agree_back : (m n : Meaning) → Agree m n → Agree n m
agree_back m n g = record { kinds = sym g.kinds; trees = λ t o. sym (g.trees t (subst (λ ks. Over ks t) (sym g.kinds) o)) }

-- and by way of a third
pub agree_on : (m n o : Meaning) → Agree m n → Agree n o → Agree m o
agree_on m n o g h = record { kinds = g.kinds ∙ h.kinds; trees = λ t v. g.trees t v ∙ h.trees t (subst (λ ks. Over ks t) g.kinds v) }
