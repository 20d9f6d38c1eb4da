use Rattle.std.proofs.Common.{ℕ, ◌<◌, ap, ◌∙◌, arith}
use Rattle.ruling.proofs.Lists.{a_rank}
use Rattle.table.specs.TableFiles.{kind_count_in, ranks_in, states_in, cell_number}
use Rattle.table.specs.FileRuled.{faultless, kind_count, headed, cell_in_file}
use Rattle.table.proofs.flat_table.FlatTableRuling.target.Goals as goal

pub bounds-self-block : goal.bounds-self-block
bounds-self-block c =
    let f = c.args.self.now.bytes.now in
    let t = faultless f c.args.self.now.sound in
    let w = a_rank (ranks_in f) c.args.kind c.in_ok-rank.rank c.in_ok-rank.ensures in
    let e = kind_count f (headed f t) in
    let k : c.args.kind < kind_count_in f = omega (arith, w.0) in
    let n = ap (λ (r : ℕ). cell_number (states_in f) r c.args.a c.args.b) w.1 in
    let p : c.args.a < states_in f = omega arith in
    let q : c.args.b < states_in f = omega arith in
    let o = rw c.head-head.ensures at c.block-block.ensures.offset in
    let m = (rw c.head-head.ensures at c.cell_number-number.ensures) ∙ n in
    omega (arith, o, m, cell_in_file f t c.args.kind c.args.a c.args.b k p q)
