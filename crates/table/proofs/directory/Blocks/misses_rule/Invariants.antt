use Rattle.std.proofs.Common.{nat_eq}
use Rattle.table.proofs.directory.Blocks.misses_rule.Given as goal

abbrev pub ghost-first_found : goal.ghost-first_found
ghost-first_found a = λ x. nat_eq x 255
