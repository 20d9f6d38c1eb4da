use Rattle.std.proofs.Common.{sym, ap, ◌∙◌, unwrap_or}
use Rattle.reduction.specs.Numberings.{meaning_by}
use Rattle.reduction.proofs.Cells.{cell_target}
use Rattle.reduction.proofs.numbering.Numbering.cell.Goals as goal

pub returns : goal.returns
returns g c = c.unwrap_or.ensures ∙ (ap (λ o. unwrap_or o 0) c.number_at.ensures ∙ sym (cell_target (meaning_by c.args.self.now) _ _ _ c.args.self.now.few c.requires))
