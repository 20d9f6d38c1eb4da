use Rattle.std.proofs.Common.{arith}
use Rattle.reduction.proofs.TableMade.{whole_table, whole_counted, whole_ranks, whole_leaf, whole_complete, whole_some}
use Rattle.reduction.proofs.numbering.Numbering.table.Goals as goal

pub invariant_of-result : goal.invariant_of-result
invariant_of-result g c =
    let w = g.R.Ruling.meaning c.args.self.now.ruling.now in
    let t = c.table_data.result in
    let copy = c.table_data.ensures in
    record {
      some = omega (arith, copy.count, w.list.0);
      few = omega (arith, copy.count, w.list.1);
      counted = whole_counted c.args.self.now c.requires.numbered c.requires.closed t (omega arith) copy;
      ranked = whole_ranks c.args.self.now c.requires.numbered c.requires.closed t (omega arith) copy;
      leaf = whole_leaf c.args.self.now c.requires.numbered c.requires.closed t (omega arith) copy c.requires.leaf;
      filled = whole_some c.args.self.now c.requires.numbered c.requires.closed t (omega arith) copy c.requires.leaf;
      limited = omega (arith, copy.states, c.args.self.now.few);
      complete = whole_complete c.args.self.now c.requires.numbered c.requires.closed t (omega arith) copy;
    }

pub returns-clause-table : goal.returns-clause-table
returns-clause-table g c = whole_table c.args.self.now c.requires.numbered c.requires.closed c.table_data.result (omega arith) c.table_data.ensures
