-- Argument lists, and the test for them in the question for a target.
use Rattle.std.proofs.Common.{◌≡◌, ℕ, zero, suc, ◌<◌, Bool, true, false, cond, ◌&&◌, ltb, List, length, get_or, Some, None, sym, refl, ap, ◌∙◌, ap₂, arith}
use Rattle.std.proofs.lemmas.Bool.{lt-ltb, eq-eqb, ltb-true, eqb-true, and_from, and_parts}
use Rattle.ruling.specs.Meanings.{Meaning, Fits, none, one, two}
use Rattle.ruling.specs.Questions.{fitting, targeted, marked}
use Rattle.ruling.specs.ReducedTables.{Equal}

pub fits_kind : (ks : List ℕ) (s k a b : ℕ) → Fits ks s k a b → k < length ks
fits_kind ks s k a b (none x y z) = x.0
fits_kind ks s k a b (one x y z) = x.0
fits_kind ks s k a b (two x y z) = x.0

-- An argument list passes the test, and what passes is one.
pub fits_told : (ks : List ℕ) (n k a b : ℕ) → Fits ks n k a b → (ltb k (length ks) && fitting n (get_or ks k 0) a b) ≡ true
fits_told ks n k a b f = and_from _ _ (lt-ltb k (length ks) (fits_kind ks n k a b f)) (go f)
  where
    go : Fits ks n k a b → fitting n (get_or ks k 0) a b ≡ true
    go (none h p q) = ap (λ r. fitting n r a b) h.1 ∙ and_from _ _ (eq-eqb a 0 p) (eq-eqb b 0 q)
    go (one h p q) = ap (λ r. fitting n r a b) h.1 ∙ and_from _ _ (lt-ltb a n p) (eq-eqb b 0 q)
    go (two h p q) = ap (λ r. fitting n r a b) h.1 ∙ and_from _ _ (lt-ltb a n p) (lt-ltb b n q)

pub told_fits : (ks : List ℕ) (n k a b : ℕ) → (ltb k (length ks) && fitting n (get_or ks k 0) a b) ≡ true → Fits ks n k a b
told_fits ks n k a b e = let w = and_parts _ _ e in go (get_or ks k 0) refl (ltb-true k (length ks) w.0) w.1
  where
    go : (r : ℕ) → get_or ks k 0 ≡ r → k < length ks → fitting n r a b ≡ true → Fits ks n k a b
    go zero z l f = let w = and_parts _ _ f in none (l, z) (eqb-true a 0 w.0) (eqb-true b 0 w.1)
    go (suc zero) z l f = let w = and_parts _ _ f in one (l, z) (ltb-true a n w.0) (eqb-true b 0 w.1)
    go (suc (suc zero)) z l f = let w = and_parts _ _ f in two (l, z) (ltb-true a n w.0) (ltb-true b n w.1)
    go (suc (suc (suc r))) z l f = absurd (let x : ◌≡◌ {A = ℕ} 0 1 = cc in omega arith)

-- An argument list has its target, and a state its mark.
pub fits_targeted : (m : Meaning) (k a b : ℕ) → Fits m.kinds m.states k a b → targeted m k a b ≡ Some (m.target k a b)
fits_targeted m k a b f = ap (λ z. cond z (Some (m.target k a b)) None) (fits_told m.kinds m.states k a b f)

pub state_marked : (m : Meaning) (s : ℕ) → s < m.states → marked m s ≡ Some (m.mark s)
state_marked m s h = ap (λ z. cond z (Some (m.mark s)) None) (lt-ltb s m.states h)

-- Equal meanings answer alike.
pub equal_marked : (m p : Meaning) → Equal m p → (s : ℕ) → marked m s ≡ marked p s
equal_marked m p e s = go (ltb s m.states) refl
  where
    go : (b : Bool) → ltb s m.states ≡ b → cond b (Some (m.mark s)) None ≡ marked p s
    go true h = ap Some (e.mark s (ltb-true s m.states h)) ∙ ap (λ b. cond b (Some (p.mark s)) None) (sym (ap (ltb s) (sym e.states) ∙ h))
    go false h = ap (λ b. cond b (Some (p.mark s)) None) (sym (ap (ltb s) (sym e.states) ∙ h))

pub equal_targeted : (m p : Meaning) → Equal m p → (k a b : ℕ) → targeted m k a b ≡ targeted p k a b
equal_targeted m p e k a b = go (ltb k (length m.kinds) && fitting m.states (get_or m.kinds k 0) a b) refl
  where
    same : (ltb k (length m.kinds) && fitting m.states (get_or m.kinds k 0) a b) ≡ (ltb k (length p.kinds) && fitting p.states (get_or p.kinds k 0) a b)
    same = ap₂ (λ ks n. ltb k (length ks) && fitting n (get_or ks k 0) a b) e.kinds e.states

    go : (t : Bool) → (ltb k (length m.kinds) && fitting m.states (get_or m.kinds k 0) a b) ≡ t → cond t (Some (m.target k a b)) None ≡ targeted p k a b
    go true h = ap Some (e.target k a b (told_fits m.kinds m.states k a b h)) ∙ ap (λ t. cond t (Some (p.target k a b)) None) (sym (sym same ∙ h))
    go false h = ap (λ t. cond t (Some (p.target k a b)) None) (sym (sym same ∙ h))
