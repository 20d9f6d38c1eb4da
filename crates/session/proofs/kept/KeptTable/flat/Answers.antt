use Rattle.std.proofs.Common.{◌≡◌, ℕ, List, None, vec_items, sym, subst}
use Rattle.table.specs.TableFiles.{table_fault, file_meaning}
use Rattle.table.specs.Faults.{file_faultless}
use Rattle.table.specs.FileRuled.{faultless}
use Rattle.session.proofs.kept.KeptTable.flat.Goals as goal

pub make-requires : goal.make-requires
make-requires c =
    let t = c.args.self.now in
    let f = vec_items t.bytes in
    subst (λ (g : List ℕ). (table_fault g ≡ None) × (t.states ≡ (file_meaning g).states)) (sym c.as_slice.ensures.value)
    (file_faultless f (faultless f t.sound), t.counted)
