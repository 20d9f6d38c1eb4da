use Rattle.std.proofs.Common.{◌∙◌, arith}
use Rattle.std.proofs.lemmas.Result.{err_from_is_err_and}
use Rattle.ruling.specs.Listed.{list_of}
use Rattle.record.proofs.Exact.{within}
use Rattle.record.proofs.Counts.{small_ranks, goes_on, stops, one, several, wrong_length}
use Rattle.record.proofs.Checked.{says_err, says_ok}
use Rattle.record.proofs.check.check_record.Goals as goal

pub returns-in_err-check_length : goal.returns-in_err-check_length
returns-in_err-check_length c =
    let ks = list_of c.args.kinds.now in
    let bytes = c.args.bytes.now in
    let p = err_from_is_err_and c.from_residual.result c.from_residual.ensures.1 in
    rw (p.1, p.2) (says_err ks c.args.limit bytes _ (wrong_length ks c.args.limit bytes _ c.in_err-check_length.ensures))

pub returns-in_err-read : goal.returns-in_err-read
returns-in_err-read c =
    let ks = list_of c.args.kinds.now in
    let bytes = c.args.bytes.now in
    let f = c.in_ok-check_length.ensures.1 in
    let p = err_from_is_err_and c.from_residual-in_err-read.result c.from_residual-in_err-read.ensures.1 in
    let e = c.in_err-read.ensures.answer in
    rw (p.1, p.2) (says_err ks c.args.limit bytes _
    (within ks c.args.limit bytes (omega arith) (omega arith) ∙ stops ks bytes _ _ c.loop-at.invariant.1 (omega arith) _ e))

pub loop-at-preserved : goal.loop-at-preserved
loop-at-preserved c =
    let ks = list_of c.args.kinds.now in
    let e = c.in_ok-read.ensures.answer in
    (omega arith, goes_on ks c.args.bytes.now _ _ c.loop-at.invariant.1 (small_ranks c.args.kinds.now) (omega arith) c.read.new.self.standing e.0 e.1)

pub returns-then-parts-eq1 : goal.returns-then-parts-eq1
returns-then-parts-eq1 c =
    let ks = list_of c.args.kinds.now in
    let bytes = c.args.bytes.now in
    let f = c.in_ok-check_length.ensures.1 in
    let w = one ks bytes _ _ c.loop-at.invariant.1 (omega arith) (omega arith) in
    says_ok ks c.args.limit bytes w.0 (within ks c.args.limit bytes (omega arith) (omega arith) ∙ w.1)

pub returns-else-parts-eq1 : goal.returns-else-parts-eq1
returns-else-parts-eq1 c =
    let ks = list_of c.args.kinds.now in
    let bytes = c.args.bytes.now in
    let f = c.in_ok-check_length.ensures.1 in
    says_err ks c.args.limit bytes _ (within ks c.args.limit bytes (omega arith) (omega arith) ∙ several ks bytes _ _ c.loop-at.invariant.1 (omega arith) (λ e. omega arith))
