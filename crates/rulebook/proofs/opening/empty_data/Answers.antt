use Rattle.std.proofs.Common.{false, sym, refl, ◌∙◌, arith}
use lib.ListN.{get_or-replicate}
use Rattle.encoder.specs.Tables.{cell_place}
use Rattle.rulebook.proofs.Opened.{either_way}
use Rattle.rulebook.proofs.opening.empty_data.Goals as goal

pub returns : goal.returns
returns c = record {
  count = refl;
  ranks = c.padded.ensures;
  states = refl;
  marks = λ s h. get_or-replicate 32 s false false h ∙ sym (either_way _ false);
  cells = λ k a b x y z. get_or-replicate 16384 (cell_place k a b) 0 0 (omega arith) ∙ sym (either_way _ 0);
}
