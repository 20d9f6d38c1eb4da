use Rattle.std.proofs.Common.{ℕ, false, unwrap_or, sym, ap, ◌∙◌, subst}
use Rattle.ruling.specs.Trees.{Over}
use Rattle.ruling.specs.Questions.{marked}
use Rattle.record.specs.Held.{bytes_of, kinds_of, tree_of}
use Rattle.record.proofs.HeldTree.{is_written}
use Rattle.judging.proofs.Walks.{walked_then}
use Rattle.judging.proofs.Runs.{accepted}
use Rattle.judging.proofs.judging.is_accepted.Goals as goal

pub returns : goal.returns
returns g c =
    let r = c.args.«record».now in
    let m = g.R.Ruling.meaning c.args.ruling.now in
    let o = subst (λ ks. Over ks (tree_of r)) (sym c.requires) (is_written (kinds_of r) (bytes_of r) r.read).over in
    record {
      answer = walked_then _ _ _ _ _ _ c.in_ok-state.ensures.answer (λ q.
          c.unwrap_or.ensures ∙ ap (λ m. unwrap_or m false) c.mark.ensures ∙ ap (λ (s : ℕ). unwrap_or (marked m.plain s) false) q ∙ accepted m (tree_of r) o);
      kept = tt;
    }
