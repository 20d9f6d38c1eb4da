use Rattle.std.proofs.Common.{ℕ, get_or, ap}
use Rattle.ruling.specs.Trees.{Kind}
use Rattle.ruling.specs.Meanings.{Meaning}
use Rattle.ruling.specs.Classes.{Reached}
use Rattle.reduction.specs.Searching.{ReachedList, two}
use Rattle.reduction.specs.Searches.{searched}
use Rattle.reduction.proofs.Searching.{meaning_same, reached_as, further_on}
use Rattle.reduction.proofs.found.Search.pair.Goals as goal

of_two : {A : Type 0} (m : Meaning) (k a b : ℕ) → (ReachedList m k a b → A) → Kind m.kinds k 2 → Reached m.kinds m a → Reached m.kinds m b → A
of_two m k a b f kind x y = f (two kind x y)

pub returns-then-i-j-clause-onto : goal.returns-then-i-j-clause-onto
returns-then-i-j-clause-onto g c = record {
  further = further_on c.visit.ensures.further c.visit-then-i-j.ensures.further;
  sound = λ found.
      let m = searched c.args.self.now in
      let p = reached_as m _ _ (ap (λ xs. get_or xs c.args.i 0) c.deref.ensures.0) (found.reached _ c.requires.places.0) in
      let q = reached_as m _ _ (ap (λ xs. get_or xs c.args.j 0) c.deref-2.ensures.0) (found.reached _ c.requires.places.1) in
      let first = c.visit.ensures.sound in
      let second = rw (meaning_same c.visit.ensures.further) at c.visit-then-i-j.ensures.sound in
      of_two m _ _ _ second c.requires.kind (assumption) (assumption) (of_two m _ _ _ first c.requires.kind (assumption) (assumption) found);
}
