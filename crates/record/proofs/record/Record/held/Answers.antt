use Rattle.std.proofs.Common.{refl}
use Rattle.ruling.specs.Listed.{list_of}
use Rattle.record.proofs.HeldTree.{one_ok, is_written, count_held}
use Rattle.record.proofs.record.Record.held.Goals as goal

pub invariant_of-result : goal.invariant_of-result
invariant_of-result c =
    let ks = list_of c.args.kinds in
    let ok = one_ok ks c.args.bytes.now c.requires.one in
    record { read = ok; counted = count_held ks c.args.bytes.now ok; ends = c.requires.ends }

pub returns : goal.returns
returns c =
    let ks = list_of c.args.kinds in
    let bytes = c.args.bytes.now in
    record { bytes = refl; kinds = refl; place = refl; tree = is_written ks bytes (one_ok ks bytes c.requires.one) }
