use Rattle.std.proofs.Common.{sym, ◌∙◌, arith}
use Rattle.std.proofs.lemmas.Result.{err_from_is_err_and}
use Rattle.table.proofs.Reading.{cells_on, cells_stop}
use Rattle.table.specs.TableFiles.{kind_count_in}
use Rattle.table.proofs.directory.Blocks.check_cells.Goals as goal

pub returns-in_err-check_block : goal.returns-in_err-check_block
returns-in_err-check_block c =
    let f = c.args.self.now.head.bytes.now in
    let p = err_from_is_err_and c.from_residual.result c.from_residual.ensures.1 in
    rw (p.1, p.2) (sym c.loop-kind.invariant ∙ cells_stop f c.loop-kind.kind (kind_count_in f) (omega arith) _ c.in_err-check_block.ensures)

pub loop-kind-preserved : goal.loop-kind-preserved
loop-kind-preserved c =
    let f = c.args.self.now.head.bytes.now in
    let e = c.in_ok-check_block.ensures in
    cells_on f c.loop-kind.kind (kind_count_in f) (omega arith) e.0 ∙ c.loop-kind.invariant
