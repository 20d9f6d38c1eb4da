use Rattle.std.proofs.Common.{◌<◌, ◌≤◌, length, rules, tests, arith}
use Rattle.std.proofs.lemmas.Iterator.{first_from_Range}
use Rattle.ruling.proofs.compare.kind_count.Goals as goal

pub returns : goal.returns
returns g c =
    let ks = (g.R.Ruling.meaning c.args.ruling.now).plain.kinds in
    let h = first_from_Range _ _ _ c.find.result (λ k. length ks ≤ k) (λ k. k < length ks) c.find.ensures.ran (λ x q k. search (rules, tests)) (λ x q k. search (rules, tests)) in
    grind (arith, h, c.unwrap_or.ensures)
