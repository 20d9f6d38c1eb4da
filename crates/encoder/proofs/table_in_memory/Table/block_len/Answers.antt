use Rattle.std.proofs.Common.{arith}
use Rattle.std.proofs.Math.Nat.{mul-le-mul}
use Rattle.encoder.proofs.Held.{block_size}
use Rattle.encoder.proofs.table_in_memory.Table.block_len.Goals as goal

pub overflow_mul-result : goal.overflow_mul-result
overflow_mul-result c = omega (arith, mul-le-mul c.choices.ensures.bounds.1 c.choices-2.ensures.bounds.1)

pub returns-clause-value : goal.returns-clause-value
returns-clause-value c =
    let s = c.args.self.now in
    block_size s.inner s.counted s.ranked c.args.kind _ _ (omega (arith, c.requires, s.counted)) c.choices.ensures.value c.choices-2.ensures.value

pub returns-clause-few : goal.returns-clause-few
returns-clause-few c = omega (arith, mul-le-mul c.choices.ensures.bounds.1 c.choices-2.ensures.bounds.1)
