use Rattle.std.proofs.Common.{ℕ, ◌<◌, sym, refl, subst, arith}
use Rattle.reduction.proofs.Cells.{cell_room, filling_at}
use Rattle.reduction.proofs.numbering.Numbering.fill_row.Goals as goal

pub bounds-cells-place_of_cell : goal.bounds-cells-place_of_cell
bounds-cells-place_of_cell g c = subst (λ (i : ℕ). i < 16384) (sym c.place_of_cell.ensures)
    (cell_room (g.R.Ruling.meaning c.args.self.now.ruling.now) _ _ _ _ _ refl c.args.self.now.few
    (c.requires.fits c.loop-second.second c.loop-second-test.true))

pub loop-second-preserved : goal.loop-second-preserved
loop-second-preserved g c = filling_at _ _ _ _ _ _ _ c.place_of_cell.ensures
    (cell_room (g.R.Ruling.meaning c.args.self.now.ruling.now) _ _ _ _ _ (omega arith) c.args.self.now.few
    (c.requires.fits c.loop-second.second c.loop-second-test.true))
    c.cell.ensures c.loop-second.invariant
