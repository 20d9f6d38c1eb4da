use Rattle.std.proofs.Common.{rules, ◌<◌, All, sym, subst}
use Rattle.std.proofs.lemmas.List.Elements.{All-filter}
use Rattle.arrayvec.proofs.ArrayVecLemmas.{filter-from_retain}
use Rattle.reduction.proofs.LiveStates.{In}
use Rattle.reduction.proofs.live.Live.keep_shared.Goals as goal

pub invariant_of-self : goal.invariant_of-self
invariant_of-self c = record {
  small = subst (All (λ s. s < 1089)) (sym (filter-from_retain _ (In c.args.class.now c.args.shared.now) _ (λ x b f' y called. search rules) _ _ c.retain.ensures.filtered))
      (All-filter (In c.args.class.now c.args.shared.now) (λ s. s < 1089) c.args.self.now.states.items c.args.self.now.small);
}

pub returns : goal.returns
returns c = filter-from_retain _ (In c.args.class.now c.args.shared.now) _ (λ x b f' y called. search rules) _ _ c.retain.ensures.filtered
