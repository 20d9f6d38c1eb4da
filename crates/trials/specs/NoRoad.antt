-- A ruling of a make of its own: no road anywhere.
use Rattle.std.specs.Prelude.{ℕ, ◌<◌, max, Bool, true, false, cond, List, [], ◌∷◌, ◌==◌}
use Rattle.std.proofs.Common.{arith, lit<, lit≤}
use Rattle.ruling.specs.Meanings.{Meaning, Fits, none, one, two}
use Rattle.ruling.specs.KindLists.{Ranks}
use Rattle.ruling.specs.Rulings.{Ruled}

-- path, road, sign, join
abbrev pub trail_kinds : List ℕ
trail_kinds = 0 ∷ (0 ∷ (1 ∷ (2 ∷ [])))

-- State 1 has a road below it.
abbrev pub no_road_plain : Meaning
no_road_plain = record { kinds = trail_kinds; states = 2; target = λ k a b. cond (k == 1) 1 (max a b); mark = λ s. (s == 0) }

pub trail_ranks : Ranks trail_kinds
trail_ranks k l = grind arith

below : (x : Bool) (a b : ℕ) → a < 2 → b < 2 → cond x 1 (max a b) < 2
below true a b p q = omega arith
below false a b p q = omega arith

pub no_road_complete : (k a b : ℕ) → Fits trail_kinds 2 k a b → cond (k == 1) 1 (max a b) < 2
no_road_complete k a b (none h p q) = below (k == 1) a b (omega arith) (omega arith)
no_road_complete k a b (one h p q) = below (k == 1) a b p (omega arith)
no_road_complete k a b (two h p q) = below (k == 1) a b p q

abbrev pub no_road : Ruled
no_road = record { plain = no_road_plain; list = (lit< tt, lit≤ tt, trail_ranks); some = lit< tt; few = lit≤ tt; complete = no_road_complete }
