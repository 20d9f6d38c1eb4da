use Rattle.std.proofs.Common.{◌≡◌, ℕ, ◌+◌, ◌-◌, reverse, get_or, take, refl, ap, ◌∙◌, arith}
use Rattle.ruling.specs.Listed.{list_of}
use Rattle.record.specs.Scanning.{scanned}
use Rattle.record.proofs.Counts.{any_rank, small_ranks}
use Rattle.record.proofs.Scan.{scans_part, scans_more, scans_none, scans_end}
use Rattle.record.proofs.children.part_start.Goals as goal

pub overflow_add-need : goal.overflow_add-need
overflow_add-need c =
    let h = any_rank (list_of c.args.kinds.now) (small_ranks c.args.kinds.now) (get_or c.args.bytes.now (c.loop-at.at - 1) 0) in
    omega arith

pub returns-then-need-eq0 : goal.returns-then-need-eq0
returns-then-need-eq0 c = λ xs u o e.
    let ks = list_of c.args.kinds.now in
    let bytes = c.args.bytes.now in
    let m = scans_more ks bytes c.loop-at.at c.loop-at.need 0 (omega arith) (omega arith) (omega arith) (omega arith) in
    let z = scans_none ks 0 (reverse (take (c.loop-at.at - 1) bytes)) refl in
    let i = c.loop-at.invariant.2 in
    let w = scans_part ks bytes c.args.end (omega arith) xs u o e (scanned ks 1 (reverse (take c.args.end bytes))) refl in
    omega arith

pub loop-at-preserved : goal.loop-at-preserved
loop-at-preserved c =
    let ks = list_of c.args.kinds.now in
    let bytes = c.args.bytes.now in
    let h = any_rank ks (small_ranks c.args.kinds.now) (get_or bytes (c.loop-at.at - 1) 0) in
    let m = scans_more ks bytes c.loop-at.at c.loop-at.need (c.loop-at.need - 1 + c.rank_or_zero.result) (omega arith) (omega arith) (omega arith) (omega arith) in
    let i = c.loop-at.invariant.2 in
    (omega arith, omega arith, omega arith)

pub returns : goal.returns
returns c = λ xs u o e.
    let ks = list_of c.args.kinds.now in
    let bytes = c.args.bytes.now in
    let z : c.loop-at.at ≡ 0 = omega arith in
    let n = ap (λ (n : ℕ). scanned ks c.loop-at.need (reverse (take n bytes))) z ∙ scans_end ks c.loop-at.need in
    let i = c.loop-at.invariant.2 in
    let w = scans_part ks bytes c.args.end (omega arith) xs u o e (scanned ks 1 (reverse (take c.args.end bytes))) refl in
    omega arith
