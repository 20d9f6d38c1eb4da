use Rattle.std.proofs.Common.{length, ◌∙◌, arith}
use Rattle.encoder.specs.Tables.{table_meaning}
use Rattle.encoder.proofs.Held.{held_row}
use Rattle.encoder.proofs.Parts.{row_of}
use Rattle.encoder.proofs.table_in_memory.Table.write_row.Goals as goal

pub returns-then-cells-ge-LONG_ROW : goal.returns-then-cells-ge-LONG_ROW
returns-then-cells-ge-LONG_ROW c =
    let s = c.args.self.now in
    c.copy_from_slice.ensures.after ∙ held_row s.inner s.counted c.args.kind c.args.first _ (length c.args.out.now) _ c.place_of_cell-at.ensures (omega arith) (omega arith)

pub returns : goal.returns
returns c = row_of (length c.args.out.now) (λ b. (table_meaning c.args.self.now.inner).target c.args.kind c.args.first b) _ (omega arith)
    (λ k l. c.loop-second.invariant k (omega arith))
