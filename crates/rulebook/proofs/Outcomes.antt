-- The rules fix the answers and the set.
use Rattle.std.proofs.Common.{◌≡◌, ℕ, ◌<◌, Bool, true, false, cond, leb, ◌↔◌, List, ◌∷◌, length, Some, None, Ok, Err, Option, sym, refl, ap, ◌∙◌, subst, ap₂, arith, leb-false, leb-true}
use Rattle.ruling.specs.declared.refusal.Refusal.{Refusal}
use Rattle.ruling.specs.declared.refusal.Refusal.TheVariants.{TooManyStates}
use Rattle.ruling.specs.declared.refusal.Notice.{Notice}
use Rattle.ruling.specs.Refusals.{told}
use Rattle.ruling.specs.Trees.{node_count}
use Rattle.ruling.specs.Meanings.{Meaning}
use Rattle.ruling.specs.Questions.{rank_in}
use Rattle.ruling.specs.Checks.{first}
use Rattle.ruling.specs.KindLists.{kinds_fault}
use Rattle.ruling.specs.Sets.{Set, Rules, Need}
use Rattle.ruling.specs.ReducedTables.{Equal}
use Rattle.ruling.proofs.ArgumentLists.{equal_marked, equal_targeted}
use Rattle.ruling.proofs.Files.{same_file}
use Rattle.ruling.proofs.Needing.{one_need}
use Rattle.encoder.specs.Encodings.{room_fault}
use Rattle.rulebook.specs.Calls.{Change, Question, judge, write, states, rank, target, mark, change, ask, Answer, count, verdict, wrote, found, marked, refused, changed}
use Rattle.rulebook.specs.Outcomes.{unless_fault, early_fault, reply, Stays, Changes, Checked, Outcome}
use Rattle.rulebook.specs.Histories.{History, opened, called, kinds_of, calls_of, Reckons, Twelves}
use Rattle.rulebook.specs.Laws.{OneOutcome, OneReckoning}
use Rattle.rulebook.proofs.TablesFor.{one_table_for}

-- Equal tables answer alike.
reply_same : (S : Set) (t u : Meaning) (q : Question) → Equal t u → reply S t q ≡ reply S u q
reply_same S t u (judge r room) e =
    ap (λ ks. unless_fault (first (kinds_fault ks r.kinds) (room_fault (node_count r.tree) room)) (verdict (S r.tree))) e.kinds
reply_same S t u (write room) e = ap (λ f. unless_fault (room_fault (length f) room) (wrote f)) (same_file t u e)
reply_same S t u states e = ap count e.states
reply_same S t u (rank k) e = ap (λ ks. found (rank_in ks k)) e.kinds
reply_same S t u (target k a b) e = ap found (equal_targeted t u e k a b)
reply_same S t u (mark s) e = ap marked (equal_marked t u e s)

stays_one : (S S₁ S₂ : Set) (said a₁ a₂ : Answer) → Stays S said a₁ S₁ → Stays S said a₂ S₂ → (a₁ ≡ a₂) × (S₁ ≡ S₂)
stays_one S S₁ S₂ said a₁ a₂ x y = (x.answer ∙ sym y.answer, x.set ∙ sym y.set)

checked_one : (ks : List ℕ) (S S₁ S₂ : Set) (c : Change) (e : Option Refusal) (a₁ a₂ : Answer)
    → Checked ks S c e a₁ S₁ → Checked ks S c e a₂ S₂ → (a₁ ≡ a₂) × (S₁ ≡ S₂)
checked_one ks S S₁ S₂ c (Some r) a₁ a₂ x y = stays_one S S₁ S₂ (refused (told r)) a₁ a₂ x y
checked_one ks S S₁ S₂ c None a₁ a₂ x y =
    let e = one_need ks (changed S c) x.need y.need x.needed y.needed in (
      x.answer ∙ (ap (λ n. cond (leb n 32) (count n) (refused (told (TooManyStates n)))) e ∙ sym y.answer),
      x.set ∙ (ap (λ n. cond (leb n 32) (changed S c) S) e ∙ sym y.set),
    )

pub one_outcome : OneOutcome
one_outcome ks S S₁ S₂ (Err r) a₁ a₂ x y = stays_one S S₁ S₂ (refused (told r)) a₁ a₂ x y
one_outcome ks S S₁ S₂ (Ok (change c)) a₁ a₂ x y =
    let e = one_need ks S y.0 x.0 y.1 x.1 in
    checked_one ks S S₁ S₂ c (early_fault ks x.0 c) a₁ a₂ x.2 (subst (λ n. Checked ks S c (early_fault ks n c) a₂ S₂) e y.2)
one_outcome ks S S₁ S₂ (Ok (ask q)) a₁ a₂ x y =
    let e = reply_same S y.0 x.0 q (one_table_for ks S y.0 x.0 y.1 x.1) in
    (x.2.answer ∙ (sym e ∙ sym y.2.answer), x.2.set ∙ sym y.2.set)

pub one_reckoning : OneReckoning
one_reckoning (opened ks) (opened ls) S R k e x y = (refl, x ∙ sym y)
one_reckoning (opened ks) (called g d b) S R k e x y = cc
one_reckoning (called h c a) (opened ls) S R k e x y = cc
one_reckoning (called h c a) (called g d b) S R k e x y =
    let ec : c ≡ d = cc in
    let er : calls_of h ≡ calls_of g = cc in
    let p = one_reckoning h g x.0 y.0 k er x.1 y.1 in
    let w : Outcome (kinds_of h) x.0 c b R =
    subst (λ z. Outcome (kinds_of h) x.0 z b R) (sym ec)
    (subst (λ z. Outcome (kinds_of h) z d b R) (sym p.1) (subst (λ z. Outcome z y.0 d b R) (sym k) y.2)) in
    let o = one_outcome (kinds_of h) x.0 S R c a b x.2 w in
    (ap₂ ◌∷◌ o.0 p.0, o.1)

-- A change that passed the earlier checks is refused by number 12 exactly when every complete ruling for the changed set has more than 32 states.
twelve : (ks : List ℕ) (S after : Set) (c : Change) (a : Answer) (n : ℕ) → Need ks S n → early_fault ks n c ≡ None → Outcome ks S (Ok (change c)) a after
    → ((p : Notice) × (a ≡ refused p) × (p.number ≡ 12)) ↔ ((m : Meaning) → Rules ks (changed S c) m → 32 < m.states)
twelve ks S after c a n need e x = go x.2
  where
    same : early_fault ks x.0 c ≡ None
    same = ap (λ z. early_fault ks z c) (one_need ks S x.0 n x.1 need) ∙ e

    by_test : (k : ℕ) (b : Bool) → leb k 32 ≡ b → Need ks (changed S c) k → a ≡ cond b (count k) (refused (told (TooManyStates k)))
        → ((p : Notice) × (a ≡ refused p) × (p.number ≡ 12)) ↔ ((m : Meaning) → Rules ks (changed S c) m → 32 < m.states)
    by_test k true t w f = (
      (λ o. cc (f, o.1)),
      (λ all. let l = all w.ruling w.rules in let s = w.states in let u = leb-true k 32 t in absurd (omega arith)),
    )
    by_test k false t w f = (
      (λ o m r. let l = w.least m r in let u = leb-false k 32 t in omega arith),
      (λ all. (told (TooManyStates k), f, refl)),
    )

    go : Checked ks S c (early_fault ks x.0 c) a after → ((p : Notice) × (a ≡ refused p) × (p.number ≡ 12)) ↔ ((m : Meaning) → Rules ks (changed S c) m → 32 < m.states)
    go y = let p : Changes ks S c a after = subst (λ z. Checked ks S c z a after) same y in
        by_test p.need (leb p.need 32) refl p.needed p.answer

pub twelves : (h : History) (S : Set) → Reckons h S → Twelves h
twelves (opened ks) S x = tt
twelves (called h (Err r) a) S x = twelves h x.0 x.1
twelves (called h (Ok (ask q)) a) S x = twelves h x.0 x.1
twelves (called h (Ok (change c)) a) S x = (
  twelves h x.0 x.1,
  λ R n y w e. twelve (kinds_of h) R S c a n w e
      (subst (λ z. Outcome (kinds_of h) z (Ok (change c)) a S) (one_reckoning h h x.0 R refl refl x.1 y).1 x.2),
)
