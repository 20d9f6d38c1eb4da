use Rattle.std.proofs.Common.{◌≡◌, ℕ, ◌≤◌, [], get_or, length, sum_by, sym, ap, ◌∙◌, rules, arith}
use Rattle.std.specs.List.{range_with_len}
use Rattle.std.proofs.lemmas.Iterator.{YieldsList-from_range, YieldsList-from_map}
use Rattle.std.proofs.lemmas.Iterator.Consumers.{sum_by_from_yields_List, fits_by_from_yields_list}
use Rattle.ruling.specs.Written.{joined}
use Rattle.encoder.specs.declared.table_in_memory.Table.{Table}
use Rattle.encoder.specs.Tables.{table_meaning}
use Rattle.encoder.specs.Encodings.{table_blocks}
use Rattle.encoder.proofs.Held.{held_blocks}
use Rattle.encoder.proofs.Encoded.{tabled}
use Rattle.encoder.proofs.FileLayout.{all_length}
use Rattle.encoder.proofs.Parts.{lengths_added}
use Rattle.encoder.proofs.table_in_memory.Table.cells_len.Goals as goal

size : Table → ℕ → ℕ
size s k = length (get_or (table_blocks s.inner) k [])

all : (s : Table) → sum_by (size s) (range_with_len 0 s.inner.count) ≡ length (joined (table_blocks s.inner))
unfolding size
all s = ap (λ n. sum_by (size s) (range_with_len 0 n)) (sym (held_blocks s.inner s.counted)) ∙ lengths_added (table_blocks s.inner) 0 (size s) (λ k l. ap (size s) (omega arith))

few : (s : Table) → length (joined (table_blocks s.inner)) ≤ 16384
few s = omega (arith, all_length (table_meaning s.inner) (tabled s), s.counted, s.few)

pub sum-requires-clause-fits : goal.sum-requires-clause-fits
unfolding size
sum-requires-clause-fits c =
    let s = c.args.self.now in
    fits_by_from_yields_list (size s) (range_with_len 0 s.inner.count) c.map.result _
    (YieldsList-from_map _ (size s) (YieldsList-from_range 0 s.inner.count s.inner.count (cc) (omega arith)) c.map.ensures.closure (λ x r q k. search rules))
    (omega (arith, all s, few s))

pub returns-clause-value : goal.returns-clause-value
unfolding size
returns-clause-value c =
    let s = c.args.self.now in
    sum_by_from_yields_List (size s) (range_with_len 0 s.inner.count) c.map.result c.sum.result c.sum.ensures.ran
    (YieldsList-from_map _ (size s) (YieldsList-from_range 0 s.inner.count s.inner.count (cc) (omega arith)) c.map.ensures.closure (λ x r q k. search rules))
    ∙ all s

pub returns-clause-few : goal.returns-clause-few
returns-clause-few c = omega (arith, returns-clause-value c, few c.args.self.now)
