use Rattle.std.proofs.Common.{◌≡◌, None, sym, ◌∙◌, arith}
use Rattle.std.proofs.lemmas.Result.{err_from_is_err_and}
use Rattle.table.proofs.Reading.{pairs_on, pairs_stop, pairs_done}
use Rattle.table.specs.Faults.{blocks_inside}
use Rattle.table.specs.TableFiles.{kind_count_in, directory_fault}
use Rattle.table.proofs.head.Head.check_directory.Goals as goal

pub returns-in_err-from : goal.returns-in_err-from
returns-in_err-from c =
    let f = c.args.self.now.bytes.now in
    let p = err_from_is_err_and c.from_residual.result c.from_residual.ensures.1 in
    rw (p.1, p.2) (sym c.loop-kind.invariant ∙ pairs_stop f c.loop-kind.from c.loop-kind.kind (kind_count_in f) (omega arith) _ c.in_err-from.ensures)

pub loop-kind-preserved : goal.loop-kind-preserved
loop-kind-preserved c =
    let f = c.args.self.now.bytes.now in
    let e = c.in_ok-from.ensures in
    pairs_on f c.loop-kind.from c.loop-kind.kind (kind_count_in f) (omega arith) _ e.0 e.1 ∙ c.loop-kind.invariant

pub invariant_of-result : goal.invariant_of-result
invariant_of-result c =
    let f = c.args.self.now.bytes.now in
    let e : directory_fault f ≡ None = sym c.loop-kind.invariant ∙ pairs_done f c.loop-kind.from c.loop-kind.kind (kind_count_in f) (omega arith) (omega arith) in
    record { inside = blocks_inside f e }
