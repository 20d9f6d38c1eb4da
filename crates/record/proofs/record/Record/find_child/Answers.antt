use Rattle.record.proofs.HeldChild.{says, none_held, last_held}
use Rattle.record.proofs.record.Record.find_child.Goals as goal

pub returns-then-number-rank : goal.returns-then-number-rank
returns-then-number-rank c =
    says c.args.self.now c.args.number _ (none_held c.args.self.now c.args.number c.rank_or_zero-rank.result c.rank_or_zero-rank.ensures c.if-number-rank.true)

pub overflow_sub-result : goal.overflow_sub-result
overflow_sub-result c =
    (last_held c.args.self.now c.args.number c.rank_or_zero-rank.result c.part_start-middle.result c.rank_or_zero-rank.ensures c.if-number-rank.false
    c.part_start-middle.ensures).inside

pub returns-then-number-rank-2 : goal.returns-then-number-rank-2
returns-then-number-rank-2 c =
    says c.args.self.now c.args.number _ ((last_held c.args.self.now c.args.number c.rank_or_zero-rank.result c.part_start-middle.result
    c.rank_or_zero-rank.ensures c.if-number-rank.false c.part_start-middle.ensures).last c.if-number-rank-2.true)

pub returns-else-number-rank-2 : goal.returns-else-number-rank-2
returns-else-number-rank-2 c =
    says c.args.self.now c.args.number _ ((last_held c.args.self.now c.args.number c.rank_or_zero-rank.result c.part_start-middle.result
    c.rank_or_zero-rank.ensures c.if-number-rank.false c.part_start-middle.ensures).other c.if-number-rank-2.false)
