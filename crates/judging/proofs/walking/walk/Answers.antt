use Rattle.std.proofs.Common.{ℕ, ◌≤◌, List, [], length, sym, ap, ◌∙◌, ap₂, arith}
use Rattle.ruling.specs.Trees.{node_count}
use Rattle.ruling.specs.Listed.{list_of}
use Rattle.record.specs.Reading.{read_from}
use Rattle.record.specs.Held.{bytes_of, kinds_of, tree_of}
use Rattle.record.proofs.Exact.{within}
use Rattle.record.proofs.HeldTree.{is_read, count_held, some_held, few_held}
use Rattle.judging.proofs.Walks.{walk_ok, ok_kept}
use Rattle.judging.proofs.walking.walk.Goals as goal

pub returns : goal.returns
returns g c =
    let r = c.args.«record».now in
    let n = count_held (kinds_of r) (bytes_of r) r.read in
    let s = some_held (kinds_of r) (bytes_of r) r.read in
    let f = few_held (kinds_of r) (bytes_of r) r.read in
    let same = ap length c.bytes.ensures in
    let room : node_count (tree_of r) ≤ length c.args.slots.now = omega arith in
    let whole = ap₂ (λ (ks bs : List ℕ). read_from ks 0 [] bs) (ap list_of c.kinds.ensures) c.bytes.ensures
    ∙ (sym (within (kinds_of r) 4096 (bytes_of r) s f) ∙ is_read (kinds_of r) (bytes_of r) r.read) in
    let e = c.work.ensures (tree_of r) whole (omega arith) in
    record { answer = walk_ok _ _ _ _ room e; kept = ok_kept _ _ _ _ e }
