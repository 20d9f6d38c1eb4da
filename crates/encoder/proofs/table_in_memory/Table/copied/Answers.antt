use Rattle.std.proofs.Common.{◌≡◌, ◌≤◌, length, not, sym, ap, ◌∙◌, subst, arith, le-leb}
use Rattle.std.proofs.lemmas.Bool.{and_from, and_right}
use Rattle.ruling.specs.KindLists.{Ranks, has_leaf}
use Rattle.encoder.specs.Tables.{kinds_held}
use Rattle.encoder.proofs.Copies.{held_kinds, held_count, held_equal, held_complete, leaf_told}
use Rattle.encoder.proofs.table_in_memory.Table.copied.Goals as goal

pub invariant_of-result : goal.invariant_of-result
invariant_of-result g c =
    let m = g.R.Ruling.meaning c.args.ruling.now in
    let t = c.data_of-inner.result in
    let copy = c.data_of-inner.ensures in
    let few : m.plain.states ≤ 32 = omega arith in
    let long : length t.ranks ≡ 16 = omega arith in
    let e = held_kinds m.plain t m.list.1 few long copy in record {
      some = omega (arith, copy.count, m.list.0);
      few = omega (arith, copy.count, m.list.1);
      counted = held_count m.plain t m.list.1 few long copy;
      ranked = subst Ranks (sym e) m.list.2;
      leaf = sym (leaf_told (kinds_held t) _ c.check_leaf_kind.ensures) ∙ (c.is_err.ensures.negation ∙ ap not c.if-is_err.false);
      filled = omega (arith, copy.states, m.some);
      limited = omega (arith, copy.states);
      complete = held_complete m.plain t m.list.1 few long copy m.complete;
    }

pub returns : goal.returns
returns g c =
    let m = g.R.Ruling.meaning c.args.ruling.now in
    let t = c.data_of-inner.result in
    let copy = c.data_of-inner.ensures in
    let few : m.plain.states ≤ 32 = omega arith in
    let long : length t.ranks ≡ 16 = omega arith in
    let e = held_kinds m.plain t m.list.1 few long copy in
    let h = sym (leaf_told (kinds_held t) _ c.check_leaf_kind.ensures) ∙ (c.is_err.ensures.negation ∙ ap not c.if-is_err.false) in
    record {
      made = sym (and_from _ _ (le-leb m.plain.states 32 few) (ap has_leaf (sym e) ∙ h));
      copy = copy;
      same = held_equal m.plain t m.list.1 few long copy;
    }

pub returns-then-is_err : goal.returns-then-is_err
returns-then-is_err g c =
    let m = g.R.Ruling.meaning c.args.ruling.now in
    let t = c.data_of-inner.result in
    let few : m.plain.states ≤ 32 = omega arith in
    let long : length t.ranks ≡ 16 = omega arith in
    let e = held_kinds m.plain t m.list.1 few long c.data_of-inner.ensures in
    let h = sym (leaf_told (kinds_held t) _ c.check_leaf_kind.ensures) ∙ (c.is_err.ensures.negation ∙ ap not c.if-is_err.true) in
    record { made = sym (and_right _ _ (ap has_leaf (sym e) ∙ h)); copy = tt; same = tt }
