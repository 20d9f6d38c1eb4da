-- Two rulebooks, and that every rulebook has a history.
use Rattle.std.proofs.Common.{◌≡◌, ℕ, true, false, Ok, sym, refl, ap, ◌∙◌, subst, arith}
use Rattle.ruling.specs.Trees.{Over}
use Rattle.ruling.specs.Meanings.{Meaning, Fits, none, one, two, Complete}
use Rattle.ruling.specs.KindLists.{has_leaf}
use Rattle.ruling.specs.Sets.{Rules, empty}
use Rattle.ruling.specs.Written.{file}
use Rattle.ruling.specs.WrittenTables.{WrittenTable}
use Rattle.std.specs.Option.{option_map}
use Rattle.ruling.specs.declared.refusal.Refusal.TheVariants.{KindsDiffer}
use Rattle.ruling.proofs.Lists.{same_kinds}
use Rattle.ruling.proofs.Files.{file_same}
use Rattle.ruling.proofs.Uniqueness.{equal_agree}
use Rattle.ruling.proofs.TablesOf.{one_written}
use Rattle.rulebook.specs.Calls.{load, change, count}
use Rattle.rulebook.specs.Outcomes.{TableFor}
use Rattle.rulebook.specs.Histories.{opened, called, kinds_of, Stands}
use Rattle.rulebook.specs.Laws.{SameWritten, SomeCalls}
use Rattle.rulebook.proofs.Stepping.{standing}
use Rattle.rulebook.proofs.Loading.{load_done}
use Rattle.rulebook.proofs.Opened.{leaf_has, one_state}

pub same_written : SameWritten
same_written h g b d x y k = (
  (λ e t o. (equal_agree b d (subst (λ z. Complete z b) (sym x.exact.kinds) x.exact.complete)
      (file_same b d (x.exact.kinds ∙ (k ∙ sym y.exact.kinds)) e)).trees t (subst (λ z. Over z t) (sym x.exact.kinds) o)),
  (λ e.
      let r : Rules (kinds_of h) x.set d = record {
        kinds = y.exact.kinds ∙ sym k;
        complete = subst (λ z. Complete z d) (sym k) y.exact.complete;
        exact = λ t o. sym (e t o) ∙ x.exact.exact t o;
      } in
      one_written d d (file b) (file d) (record { kinds = refl; trees = λ t o. refl })
      (subst (λ z. WrittenTable z d (file b)) (sym r.kinds) (x.written d r))
      (subst (λ z. WrittenTable z d (file d)) (sym y.exact.kinds) (y.written d y.exact))),
)

pub some_calls : SomeCalls
some_calls w red few = (called (opened w.plain.kinds) (Ok (change (load w))) (count w.plain.states), go)
  where
    leafy : (k x y : ℕ) → Fits w.plain.kinds 0 k x y → has_leaf w.plain.kinds ≡ true
    leafy k x y (none p q r) = leaf_has w.plain.kinds k p
    leafy k x y (one p q r) = absurd (omega arith)
    leafy k x y (two p q r) = absurd (omega arith)

    go : Stands (called (opened w.plain.kinds) (Ok (change (load w))) (count w.plain.states)) w.plain
    go =
        let f = red.numbered 0 w.some in
        let z : Meaning = record { kinds = w.plain.kinds; states = 1; target = λ k x y. 0; mark = λ s. false } in
        let v : TableFor w.plain.kinds empty z = one_state w.plain.kinds z (leafy f.kind f.first f.second f.fits) refl refl (λ k x y i. refl) (λ s i. refl) in
        load_done (opened w.plain.kinds) z w (standing (opened w.plain.kinds) empty z refl v) v.reduced w.plain
        (ap (λ o. option_map (λ k. KindsDiffer k) o) (same_kinds w.plain.kinds)) refl
        (record { rules = record { kinds = refl; complete = red.complete; exact = λ t o. refl }; reduced = red }) few
