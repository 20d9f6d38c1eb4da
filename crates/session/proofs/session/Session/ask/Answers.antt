use Rattle.std.proofs.Common.{refl}
use Rattle.session.proofs.session.Session.ask.Goals as goal

pub returns-in-Some : goal.returns-in-Some
returns-in-Some g c = let e = c.question.ensures in rw c.in-Some.is (c.flat.result, c.flat.ensures, (_, e, refl))
