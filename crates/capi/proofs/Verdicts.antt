-- A stack of 4,096 slots is long enough for every record that is read.
use Rattle.std.proofs.Common.{◌≡◌, ℕ, cond, List, Ok, Err, Result, refl, ap, le-ltb}
use Rattle.ruling.specs.declared.refusal.Refusal.{Refusal}
use Rattle.ruling.specs.declared.refusal.Refusal.TheVariants.{BufferTooShort}
use Rattle.ruling.specs.Trees.{Tree, node_count}
use Rattle.ruling.specs.Meanings.{Meaning, accepts}
use Rattle.record.specs.Reading.{after, read_record}
use Rattle.judging.specs.Walking.{walked}
use Rattle.judging.specs.Judging.{judged_bytes}
use Rattle.record.proofs.Exact.{reads_exactly}
use Rattle.capi.specs.Codes.{accepted}

pub long_enough : (m : Meaning) (bytes : List ℕ) → judged_bytes m bytes 4096 ≡ accepted m bytes
long_enough m bytes = go (read_record m.kinds 4096 bytes) refl
  where
    go : (r : Result Tree Refusal) → read_record m.kinds 4096 bytes ≡ r
        → after r (λ t. walked (accepts m t) (node_count t) 4096) ≡ after r (λ t. Ok (accepts m t))
    go (Err e) p = refl
    go (Ok t) p =
        ap (λ b. cond b (Err (BufferTooShort (node_count t))) (Ok (accepts m t)))
        (le-ltb 4096 (node_count t) ((reads_exactly m.kinds 4096 bytes t).0 p).few)
