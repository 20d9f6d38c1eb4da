use Rattle.std.proofs.Common.{rules, ◌≡◌, None}
use Rattle.table.specs.TableFiles.{table_fault}
use Rattle.table.specs.Faults.{faultless_file}
use Rattle.table.proofs.check.check_table.Goals as goal

pub returns-clause-answer : goal.returns-clause-answer
returns-clause-answer c =
    let f = c.args.bytes.now in
    let e : table_fault f ≡ None = search rules in
    (e, (faultless_file f e, search rules))
