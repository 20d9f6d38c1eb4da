use Rattle.std.proofs.Common.{◌≡◌, ◌≤◌, length, true, false, sym, rules, tests, arith, length-take}
use Rattle.std.proofs.lemmas.Iterator.{first_from_Range}
use Rattle.ruling.specs.Questions.{rank_in}
use Rattle.ruling.specs.KindLists.{same_rank}
use Rattle.ruling.specs.Listed.{list_of}
use Rattle.ruling.proofs.Lists.{differ_first}
use Rattle.ruling.proofs.compare.first_difference.Goals as goal

pub returns : goal.returns
returns g c =
    let ks = (g.R.Ruling.meaning c.args.ruling.now).plain.kinds in
    let ls = list_of c.args.kinds.now in
    let few : length ls ≤ 16 = simp length-take (omega arith) in
    let h = differ_first ks ls (g.R.Ruling.meaning c.args.ruling.now).list.1 few c.find.result (first_from_Range _ _ _ c.find.result
    (λ k. same_rank (rank_in ks k) (rank_in ls k) ≡ false) (λ k. same_rank (rank_in ks k) (rank_in ls k) ≡ true)
    c.find.ensures.ran (λ x q k. search (rules, tests)) (λ x q k. search (rules, tests))) in
    record { lowest = sym h.0; none = h.1 }
