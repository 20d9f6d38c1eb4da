use Rattle.std.proofs.Common.{◌<◌, arith}
use Rattle.std.proofs.lemmas.List.Elements.{All-contains}
use Rattle.reduction.proofs.Splitting.{one_more, after_parts, after_split, after_kept}
use Rattle.reduction.proofs.partition.Partition.divide.Goals as goal

pub push-requires : goal.push-requires
push-requires c = (
  omega arith,
  one_more c.args.key.now _ _ c.args.state c.args.self.now.parts (All-contains (λ s. s < 1089) _ c.args.state c.args.live.now.small c.requires.state) c.requires.odd,
)

pub invariant_of-self : goal.invariant_of-self
invariant_of-self c = record {
  parts = after_parts _ _ _ _ _ _ _ _ c.args.self.now.parts c.args.live.now.small c.requires.state c.requires.odd c.len-to.ensures.value c.part.ensures c.push.ensures.items;
}

pub returns-clause-split : goal.returns-clause-split
returns-clause-split c = after_split _ _ _ _ _ _ _ _ c.args.self.now.parts c.args.live.now.small c.requires.state c.requires.odd c.len-to.ensures.value c.part.ensures c.push.ensures.items

pub returns-clause-kept : goal.returns-clause-kept
returns-clause-kept c = after_kept _ _ _ _ _ _ _ _ c.args.self.now.parts c.args.live.now.small c.requires.state c.requires.odd c.len-to.ensures.value c.part.ensures c.push.ensures.items
