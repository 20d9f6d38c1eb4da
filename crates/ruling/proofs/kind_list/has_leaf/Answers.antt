use Rattle.std.proofs.Common.{◌≡◌, true, false, eqb, sym, rules, tests}
use Rattle.std.proofs.lemmas.Iterator.{cases_from_any, YieldsList-from_slice}
use Rattle.ruling.proofs.Lists.{leaf_found}
use Rattle.ruling.proofs.kind_list.has_leaf.Goals as goal

pub returns : goal.returns
returns c =
    sym (leaf_found c.args.ranks.now c.any.result (cases_from_any _ _ c.any.result (λ x. eqb x 0 ≡ true) (λ x. eqb x 0 ≡ false)
    c.any.ensures.ran (YieldsList-from_slice c.args.ranks.now cc) (λ x q k. search (rules, tests)) (λ x q k. search (rules, tests))))
