use Rattle.std.proofs.Common.{refl}
use Rattle.std.proofs.Common.{◌∷◌, [], ◌++◌, ap, ◌∙◌}
use Rattle.reduction.proofs.Splitting.{whole_parts}
use Rattle.reduction.proofs.partition.Partition.whole.Goals as goal

pub invariant_of-result : goal.invariant_of-result
invariant_of-result c = record {
  parts = whole_parts _ _ c.args.state refl (c.push.ensures.items ∙ ap (λ l. l ++ c.args.state ∷ []) c.new-leader.ensures) c.requires;
}
