use Rattle.std.proofs.Common.{◌≡◌, ◌+◌, ◌*◌, ◌≤◌, length, take}
use Rattle.ruling.specs.Written.{joined, directory, body_at}
use Rattle.encoder.specs.Tables.{kinds_held}
use Rattle.encoder.specs.Encodings.{table_blocks}
use Rattle.encoder.proofs.table_in_memory.Table.write_directory.Given as goal

abbrev pub invariant-loop-kind : goal.invariant-loop-kind
invariant-loop-kind l =
    let t = l.self.inner in
    let from = body_at t.states (length (kinds_held t)) in
    (l.offset ≡ from + length (joined (take l.kind (table_blocks t))))
    × (l.offset ≤ 116 + 1024 * l.kind)
    × (take (4 * l.kind) l.out ≡ directory from (take l.kind (table_blocks t)))
