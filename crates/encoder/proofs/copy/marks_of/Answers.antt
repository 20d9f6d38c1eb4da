use Rattle.std.proofs.Common.{◌≡◌, false, unwrap_or, rules}
use Rattle.ruling.specs.Questions.{marked}
use Rattle.encoder.proofs.FromFn.{made_each}
use Rattle.encoder.proofs.copy.marks_of.Goals as goal

pub returns : goal.returns
returns g c s l =
    made_each _ _ _ (λ i y. y ≡ unwrap_or (marked (g.R.Ruling.meaning c.args.ruling.now).plain i) false) (λ i y q k. search rules) 32 c.from_fn.ensures.items s false l
