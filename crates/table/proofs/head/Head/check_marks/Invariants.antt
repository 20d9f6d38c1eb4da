use Rattle.std.proofs.Common.{nat_lt}
use Rattle.table.proofs.head.Head.check_marks.Given as goal

abbrev pub ghost-first_found : goal.ghost-first_found
ghost-first_found a = λ x. nat_lt 1 x
