-- The same of values of Search.
use Rattle.std.specs.Prelude.{◌≡◌}
use Rattle.ruling.specs.declared.ruling.Ruling.{Ghosts}
use Rattle.ruling.specs.Meanings.{Meaning}
use Rattle.reduction.specs.declared.found.Search.{Search}
use Rattle.reduction.specs.Searching.{Found, Grown}

module _ {R : Type 0} {G : Ghosts R} where
  -- What the ruling means whose states are looked for.
  abbrev pub searched : Search R G → Meaning
  searched f = (G.meaning f.ruling.now).plain

  -- g is a search of the ruling of f, and has what f has.
  pub record Further (f g : Search R G) : Type 0 where
    pub same : g.ruling ≡ f.ruling
    pub more : Grown f.order.items f.seen g.order.items g.seen

  -- And what is found is sound, if it was. No ghost field says that it is: it could say only that there is a proof, and the
  -- list takes a record of each state from it.
  pub record Onto (f g : Search R G) : Type 0 where
    pub further : Further f g
    pub sound : Found (searched f) f.order.items f.seen → Found (searched f) g.order.items g.seen
