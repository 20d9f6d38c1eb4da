use Rattle.std.proofs.Common.{◌<◌, ◌*◌, [], ◌++◌, length, get_or, take, sym, ap, ◌∙◌, ap₂, arith}
use Rattle.std.proofs.lemmas.List.{take_more, take_all}
use Rattle.std.proofs.lemmas.Slice.{take-put_mid}
use Rattle.ruling.specs.Written.{directory, body_at, low_high}
use Rattle.encoder.specs.Tables.{kinds_held}
use Rattle.encoder.specs.Encodings.{table_blocks}
use Rattle.encoder.proofs.Blocks.{directory_more}
use Rattle.encoder.proofs.Held.{held_blocks}
use Rattle.encoder.proofs.Parts.{length_so_far}
use Rattle.encoder.proofs.table_in_memory.Table.write_directory.Goals as goal

pub loop-kind-preserved : goal.loop-kind-preserved
loop-kind-preserved c =
    let t = c.args.self.now.inner in
    let bs = table_blocks t in
    let k = c.loop-kind.kind in
    let from = body_at t.states (length (kinds_held t)) in
    let i = c.loop-kind.invariant in
    let n = held_blocks t c.args.self.now.counted in
    let l : k < length bs = omega arith in
    let j = length_so_far bs k l in
    let b = c.copy_from_slice.ensures.after ∙ c.pair.ensures in
    let e = c.block_len-cells.ensures in (
      omega (arith, i.0, e.value, j),
      omega (arith, i.1, e.few),
      take-put_mid (4 * k) _ c.loop-kind.out c.copy_from_slice.new.self _ (omega (arith, ap length b)) (omega arith)
          ∙ (ap₂ ◌++◌ i.2 b ∙ (ap₂ (λ x y. directory from (take k bs) ++ (low_high x ++ low_high y)) i.0 e.value
          ∙ (sym (directory_more from (take k bs) (get_or bs k [])) ∙ sym (ap (directory from) (take_more bs k [] l))))),
    )

pub returns : goal.returns
returns c =
    let t = c.args.self.now.inner in
    let bs = table_blocks t in
    let from = body_at t.states (length (kinds_held t)) in
    let n = held_blocks t c.args.self.now.counted in
    let i = c.loop-kind.invariant in
    sym (take_all (4 * c.loop-kind.kind) c.loop-kind.out (omega arith)) ∙ (i.2 ∙ ap (directory from) (take_all c.loop-kind.kind bs (omega arith)))
