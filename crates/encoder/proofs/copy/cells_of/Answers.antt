use Rattle.std.proofs.Common.{◌≡◌, ◌/◌, ◌%◌, unwrap_or, rules}
use Rattle.ruling.specs.Questions.{targeted}
use Rattle.encoder.proofs.FromFn.{made_each}
use Rattle.encoder.proofs.copy.cells_of.Goals as goal

pub returns : goal.returns
returns g c i l =
    made_each _ _ _ (λ i y. y ≡ unwrap_or (targeted (g.R.Ruling.meaning c.args.ruling.now).plain (i / 1024) (i / 32 % 32) (i % 32)) 0) (λ i y q k. search rules) 16384 c.from_fn.ensures.items i 0 l
