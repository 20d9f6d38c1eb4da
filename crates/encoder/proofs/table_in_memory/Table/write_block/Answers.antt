use Rattle.std.proofs.Common.{◌≡◌, ◌≤◌, ◌+◌, ◌*◌, ◌++◌, length, sym, ◌∙◌, ap, ap₂, arith}
use Rattle.std.proofs.lemmas.List.{take_all}
use Rattle.std.proofs.lemmas.List.Edits.{length-between}
use Rattle.std.proofs.lemmas.Slice.{take-put_mid}
use Rattle.std.proofs.Math.Nat.{mul-le-mul_right}
use Rattle.ruling.specs.Written.{row, joined}
use Rattle.encoder.specs.Tables.{table_meaning}
use Rattle.encoder.proofs.Blocks.{singles}
use Rattle.encoder.proofs.Held.{block_rows, block_size}
use Rattle.encoder.proofs.Parts.{rows_more}
use Rattle.encoder.proofs.table_in_memory.Table.write_block.Goals as goal

pub slice_bounds-write_row-end : goal.slice_bounds-write_row-end
slice_bounds-write_row-end c =
    let s = c.args.self.now in
    let e = block_size s.inner s.counted s.ranked c.args.kind _ _ (omega arith) c.choices-firsts.ensures.value c.choices-seconds.ensures.value in
    let l : c.loop-first.first + 1 ≤ c.choices-firsts.result = omega arith in
    let w = mul-le-mul_right c.choices-seconds.result l in
    omega arith

pub write_column-requires : goal.write_column-requires
write_column-requires c =
    let s = c.args.self.now in
    let e = block_size s.inner s.counted s.ranked c.args.kind _ _ (omega arith) c.choices-firsts.ensures.value c.choices-seconds.ensures.value in
    let u = ap (λ q. c.choices-firsts.result * q) c.if-seconds-eq1.true in
    (omega arith, omega arith)

-- rows of one cell each
pub returns-then-seconds-eq1 : goal.returns-then-seconds-eq1
returns-then-seconds-eq1 c =
    let s = c.args.self.now in
    let p = c.choices-firsts.result in
    let f = (table_meaning s.inner).target c.args.kind in
    let g = sym c.if-seconds-eq1.true ∙ c.choices-seconds.ensures.value in
    let e = block_size s.inner s.counted s.ranked c.args.kind p 1 (omega arith) c.choices-firsts.ensures.value g in
    let n : length c.args.out.now ≡ p = omega arith in
    c.write_column.ensures ∙ (ap (λ n. row n (λ a. f a 0)) n
    ∙ (sym (singles p (λ a. f a 0)) ∙ block_rows s.inner s.counted s.ranked c.args.kind p 1 (omega arith) c.choices-firsts.ensures.value g))

pub loop-first-preserved : goal.loop-first-preserved
loop-first-preserved c =
    let s = c.args.self.now in
    let a = c.loop-first.first in
    let q = c.choices-seconds.result in
    let e = block_size s.inner s.counted s.ranked c.args.kind _ _ (omega arith) c.choices-firsts.ensures.value c.choices-seconds.ensures.value in
    let l : a + 1 ≤ c.choices-firsts.result = omega arith in
    let w = mul-le-mul_right q l in
    let m = length-between c.loop-first.out (a * q) (a * q + q) (omega arith) in
    take-put_mid (a * q) _ c.loop-first.out c.write_row.new.out _ (omega (arith, c.write_row.auto.out, m)) (omega arith)
    ∙ (ap₂ ◌++◌ c.loop-first.invariant (c.write_row.ensures ∙ ap (λ n. row n (λ b. (table_meaning s.inner).target c.args.kind a b)) (m ∙ omega arith))
    ∙ sym (rows_more a _))

pub returns : goal.returns
returns c =
    let s = c.args.self.now in
    let e = block_size s.inner s.counted s.ranked c.args.kind _ _ (omega arith) c.choices-firsts.ensures.value c.choices-seconds.ensures.value in
    let l : c.loop-first.first ≡ c.choices-firsts.result = omega arith in
    let w = ap (λ n. n * c.choices-seconds.result) l in
    sym (take_all (c.loop-first.first * c.choices-seconds.result) c.loop-first.out (omega arith)) ∙ (c.loop-first.invariant
    ∙ (ap (λ n. joined (row n (λ a. row c.choices-seconds.result (λ b. (table_meaning s.inner).target c.args.kind a b)))) l
    ∙ block_rows s.inner s.counted s.ranked c.args.kind _ _ (omega arith) c.choices-firsts.ensures.value c.choices-seconds.ensures.value))
