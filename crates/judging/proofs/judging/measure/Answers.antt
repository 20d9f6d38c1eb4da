use Rattle.std.proofs.Common.{length, ap, ◌∙◌}
use Rattle.ruling.specs.Trees.{node_count}
use Rattle.record.specs.Held.{bytes_of, kinds_of, tree_of}
use Rattle.judging.specs.Walking.{walked}
use Rattle.record.proofs.HeldTree.{is_written}
use Rattle.judging.proofs.Runs.{sizes}
use Rattle.judging.proofs.judging.measure.Goals as goal

pub returns : goal.returns
returns c =
    let r = c.args.«record».now in
    let e = sizes (tree_of r) (is_written (kinds_of r) (bytes_of r) r.read).few in
    record { answer = c.walk.ensures.answer ∙ ap (λ v. walked v (node_count (tree_of r)) (length c.args.slots.now)) e; kept = c.walk.ensures.kept }
