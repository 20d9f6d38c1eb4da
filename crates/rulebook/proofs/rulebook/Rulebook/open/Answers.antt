use Rattle.std.proofs.Common.{sym, refl, ap, ◌∙◌, subst, arith}
use Rattle.ruling.specs.KindLists.{Ranks, has_leaf}
use Rattle.ruling.specs.Meanings.{Complete}
use Rattle.ruling.specs.ReducedTables.{Reduced}
use Rattle.ruling.specs.Sets.{empty}
use Rattle.encoder.specs.Tables.{table_meaning}
use Rattle.rulebook.specs.Histories.{opened}
use Rattle.rulebook.proofs.Stepping.{standing}
use Rattle.rulebook.proofs.Opened.{opening_list, empty_kinds, empty_count, empty_table, empty_clean}
use Rattle.rulebook.proofs.rulebook.Rulebook.open.Goals as goal

pub invariant_of-table : goal.invariant_of-table
invariant_of-table c =
    let ks = c.args.ranks.now in
    let t = c.empty_data-inner.result in
    let copy = c.empty_data-inner.ensures in
    let l = opening_list ks c.requires in
    let e = empty_kinds ks t c.requires (omega arith) copy in record {
      some = omega (arith, copy.count, l.0.0);
      few = omega (arith, copy.count, l.0.1);
      counted = empty_count ks t c.requires (omega arith) copy;
      ranked = subst Ranks (sym e) l.0.2;
      leaf = ap has_leaf e ∙ l.1;
      filled = omega (arith, copy.states);
      limited = omega (arith, copy.states);
      complete = subst (λ z. Complete z (table_meaning t)) (sym e) (empty_table ks t c.requires (omega arith) copy).rules.complete;
    }

pub invariant_of-result : goal.invariant_of-result
invariant_of-result c =
    let ks = c.args.ranks.now in
    let t = c.empty_data-inner.result in
    let copy = c.empty_data-inner.ensures in
    let e = empty_kinds ks t c.requires (omega arith) copy in record {
      reduced = ∣ subst (λ z. Reduced z (table_meaning t)) (sym e) (empty_table ks t c.requires (omega arith) copy).reduced ∣₁;
      clean = ∣ record { copy = empty_clean ks t c.requires (omega arith) copy; ranks_room = omega arith; marks_room = omega arith; cells_room = omega arith } ∣₁;
    }

pub returns : goal.returns
returns c =
    let ks = c.args.ranks.now in
    let t = c.empty_data-inner.result in
    standing (opened ks) empty (table_meaning t) refl (empty_table ks t c.requires (omega arith) c.empty_data-inner.ensures)
