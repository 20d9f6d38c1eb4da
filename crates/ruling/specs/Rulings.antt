-- What a ruling means, with the proof that it is well formed.
use Rattle.std.specs.Prelude.{◌<◌, ◌≤◌}
use Rattle.ruling.specs.Meanings.{Meaning, Complete}
use Rattle.ruling.specs.KindLists.{KindList}

-- A meaning over a kind list, with 1 to 1,089 states, and a target among them for every argument list.
pub record Ruled : Type 0 where
  pub plain : Meaning
  pub list : KindList plain.kinds
  pub some : 0 < plain.states
  pub few : plain.states ≤ 1089
  pub complete : Complete plain.kinds plain
