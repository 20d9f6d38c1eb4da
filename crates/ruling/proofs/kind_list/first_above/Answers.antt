use Rattle.std.proofs.Common.{◌≡◌, true, false, ltb, rules, tests}
use Rattle.std.proofs.lemmas.Iterator.{IsFirst-from_position, YieldsList-from_slice}
use Rattle.ruling.proofs.Lowest.{lowest_first}
use Rattle.ruling.proofs.kind_list.first_above.Goals as goal

pub returns : goal.returns
returns c =
    lowest_first (λ x. ltb 2 x) c.args.ranks.now c.position.result (IsFirst-from_position _ _ c.position.result (λ x. ltb 2 x ≡ true) (λ x. ltb 2 x ≡ false)
    c.position.ensures.ran (YieldsList-from_slice c.args.ranks.now cc) (λ x q k. search (rules, tests)) (λ x q k. search (rules, tests)))
