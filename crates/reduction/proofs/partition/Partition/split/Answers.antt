use Rattle.std.proofs.Common.{◌∙◌, subst, arith}
use Rattle.std.proofs.lemmas.List.{take_all}
use Rattle.std.proofs.lemmas.List.Elements.{All-more}
use Rattle.reduction.specs.Divisions.{LevelFor, LevelOf}
use Rattle.reduction.proofs.Splitting.{split_on}
use Rattle.reduction.proofs.partition.Partition.split.Goals as goal

pub loop-state-preserved : goal.loop-state-preserved
loop-state-preserved c =
    let old = c.loop-state.invariant in
    record {
      split = split_on _ _ _ _ _ _ _ _ old.split c.look.ensures.split;
      still = λ e. let before = old.still (omega (arith, e, old.split.more, c.look.ensures.split.more)) in
          let now-same = c.look.ensures.still (omega (arith, e, old.split.more, c.look.ensures.split.more)) in
          (now-same.0 ∙ before.0, now-same.1 ∙ before.1);
      level = All-more (LevelFor c.args.key.now c.look.new.self) c.as_slice-state-items.result.now c.loop-state.state-index 0 c.loop-state-test.true
          (λ k d h. c.look.ensures.kept _ (old.level k d h)) c.look.ensures.level;
    }

pub returns-clause-level : goal.returns-clause-level
returns-clause-level c = subst (λ xs. LevelOf xs c.args.key.now c.loop-state.self)
    (take_all c.loop-state.state-index c.as_slice-state-items.result.now c.loop-state-test.false ∙ c.as_slice-state-items.ensures.value) c.loop-state.invariant.level
