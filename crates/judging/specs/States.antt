-- The reckoning of a ruling's run.
use Rattle.std.specs.Prelude.{ℕ}
use Rattle.std.specs.Option.{unwrap_or}
use Rattle.ruling.specs.Meanings.{Meaning}
use Rattle.ruling.specs.Questions.{targeted}

-- The state of a node of kind k over states a and b; 0 where there is no target.
abbrev pub state_at : Meaning → ℕ → ℕ → ℕ → ℕ
state_at m k a b = unwrap_or (targeted m k a b) 0
