use Rattle.std.proofs.lemmas.Result.{err_from_is_err_and}
use Rattle.rulebook.proofs.rulebook.Rulebook.load.Goals as goal

pub returns-in_err-changed-clause-stands : goal.returns-in_err-changed-clause-stands
returns-in_err-changed-clause-stands g c =
    let p = err_from_is_err_and c.from_residual.result c.from_residual.ensures.1 in rw (p.1, p.2) c.in_err-changed.ensures
