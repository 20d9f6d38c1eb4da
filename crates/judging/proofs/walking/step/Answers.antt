use Rattle.std.proofs.Common.{◌≡◌, Some, length, sym, ap, ◌∙◌, arith}
use Rattle.ruling.specs.Listed.{list_of}
use Rattle.ruling.specs.Questions.{rank_in}
use Rattle.ruling.proofs.Lists.{a_rank}
use Rattle.record.proofs.Counts.{any_rank, small_ranks}
use Rattle.judging.proofs.Walks.{kind_of, fork_step}
use Rattle.judging.proofs.walking.step.Goals as goal

pub returns-in_ok-a-in_default-clause-steps : goal.returns-in_ok-a-in_default-clause-steps
returns-in_ok-a-in_default-clause-steps g c = λ parts next e l q.
    let ks = list_of c.args.kinds.now in
    let rank : Some c.in_ok-ok_or.field-0 ≡ rank_in ks c.args.kind = sym c.in_ok-ok_or.ensures.ok_part ∙ c.rank.ensures in
    let small = any_rank ks (small_ranks c.args.kinds.now) c.args.kind in
    let a = (a_rank ks c.args.kind c.in_ok-ok_or.field-0 rank).1 in
    let same = ap length c.pop-in_default-2.ensures.slots ∙ ap length c.pop-in_default.ensures.slots in
    fork_step _ _ _ ks c.args.at c.args.kind c.pop-in_default-2.new.self.len c.pop-in_default-2.new.self.slots.now c.push-in_default.result _
    _ _ c.in_ok-a-in_default.a c.in_ok-b-in_default.b c.fork.result (kind_of ks c.args.kind _ 2 rank (omega arith))
    (rw c.in_ok-b-in_default.ensures.ok_part at c.pop-in_default.ensures.answer) (rw c.in_ok-a-in_default.ensures.ok_part at c.pop-in_default-2.ensures.answer)
    c.fork.ensures c.push-in_default.ensures.answer parts next e (omega arith) q
