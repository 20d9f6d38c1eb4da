use Rattle.std.proofs.lemmas.Result.{err_from_is_err_and}
use Rattle.rulebook.proofs.Gained.{table_reduced, gives_differ, gives_large, gives_done}
use Rattle.rulebook.proofs.rulebook.Rulebook.loaded.Goals as goal

pub returns-in_err-check_same_kinds : goal.returns-in_err-check_same_kinds
returns-in_err-check_same_kinds g c =
    let p = err_from_is_err_and c.from_residual.result c.from_residual.ensures.1 in
    rw (p.1, p.2) (gives_differ c.args.self.now (g.R.Ruling.meaning c.args.ruling.now) _ c.kinds_of.ensures _ c.in_err-check_same_kinds.ensures)

pub returns-in_err-table : goal.returns-in_err-table
returns-in_err-table g c =
    let p = err_from_is_err_and c.from_residual-in_err-table.result c.from_residual-in_err-table.ensures.1 in
    let k = c.in_ok-check_same_kinds.ensures in
    rw (p.1, p.2) (gives_large c.args.self.now (g.R.Ruling.meaning c.args.ruling.now) _ c.kinds_of.ensures k.0 k.1 _ c.in_err-table.ensures.reduces)

pub invariant_of-result : goal.invariant_of-result
invariant_of-result g c =
    let e = c.in_ok-table.ensures.reduces in
    record { reduced = ∣ table_reduced (g.R.Ruling.meaning c.args.ruling.now).plain c.in_ok-table.table.inner e.0 ∣₁; clean = ∣ e.1 ∣₁ }

pub returns : goal.returns
returns g c =
    let k = c.in_ok-check_same_kinds.ensures in
    gives_done c.args.self.now (g.R.Ruling.meaning c.args.ruling.now) _ c.kinds_of.ensures k.0 k.1 c.in_ok-table.table.inner c.in_ok-table.table.limited
    c.in_ok-table.ensures.reduces.0
