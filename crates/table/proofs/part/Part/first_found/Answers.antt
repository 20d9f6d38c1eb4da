use Rattle.std.proofs.Common.{◌≡◌, ℕ, ◌+◌, ◌<◌, ◌≤◌, Bool, true, false, Some, None, Option, get_or, sym, rules}
use Rattle.std.specs.Option.{MatchOption}
use Rattle.std.proofs.lemmas.Iterator.{first_from_Range}
use Rattle.ruling.specs.Checks.{lowest}
use Rattle.ruling.proofs.Lowest.{lowest_at, lowest_none}
use Rattle.table.proofs.part.Part.first_found.Goals as goal

-- the first number of a range that passes is the lowest
first_lowest : (P : ℕ → Bool) (from c : ℕ) (r : Option ℕ)
    → MatchOption r ((k : ℕ) → from ≤ k → k < from + c → P k ≡ false) (λ i. (from ≤ i) × (i < from + c) × (P i ≡ true) × ((k : ℕ) → from ≤ k → k < i → P k ≡ false))
    → r ≡ lowest P from c
first_lowest P from c None h = sym (lowest_none P from c h)
first_lowest P from c (Some i) h = sym (lowest_at P from c i h.0 h.1 h.2 h.3)

pub returns : goal.returns
returns g c =
    let P : ℕ → Bool = λ p. g.passes (get_or c.args.bytes.now p 0) in
    first_lowest P c.args.self.offset c.args.self.length c.find.result
    (first_from_Range _ _ _ _ (λ x. P x ≡ true) (λ x. P x ≡ false) c.find.ensures.ran
    (λ x q k. search (rules, c.requires.1.1.1)) (λ x q k. search (rules, c.requires.1.1.1)))
