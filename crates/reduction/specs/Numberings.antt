-- The same of a value of Numbering.
use Rattle.std.specs.Prelude.{ℕ, length, None, Option, slice_index}
use Rattle.ruling.specs.declared.ruling.Ruling.{Ghosts}
use Rattle.ruling.specs.Meanings.{Meaning, Fits}
use Rattle.ruling.specs.Classes.{Classes}
use Rattle.reduction.specs.declared.argument_list.ArgumentList.{ArgumentList}
use Rattle.reduction.specs.declared.numbering.Numbering.{Numbering}
use Rattle.reduction.specs.Numbering.{aimed, number_of, Numbered, Opened, numbered_meaning}

module _ {R : Type 0} {G : Ghosts R} where
  -- What the ruling means whose classes are numbered.
  abbrev pub ruled_by : Numbering R G → Meaning
  ruled_by n = (G.meaning n.ruling.now).plain

  -- An argument list over the numbered classes.
  abbrev pub OverNumbered : Numbering R G → ArgumentList → Type 0
  OverNumbered n list = Fits (ruled_by n).kinds (length n.rep.items) list.kind list.first list.second

  -- Its target, and the number of the target's class.
  abbrev pub aimed_at : Numbering R G → ArgumentList → ℕ
  aimed_at n list = aimed (ruled_by n) n.rep.items list.kind list.first list.second

  abbrev pub number_by : Numbering R G → ArgumentList → Option ℕ
  number_by n list = number_of n.partition.now.class n.number (aimed_at n list)

  -- The partition is that into classes, and they are numbered in the order of discovery. No ghost field: it could say only that
  -- there is a proof, and the table's contract takes records and argument lists from it.
  pub record NumberedBy (n : Numbering R G) : Type 0 where
    pub classes : Classes (ruled_by n).kinds (ruled_by n) (length n.partition.now.leader.items) (λ p. slice_index n.partition.now.class p)
    pub numbered : Numbered (ruled_by n) n.partition.now.class n.rep.items n.number

  -- The first argument list whose target's class has no number, if there is one.
  abbrev pub OpenedBy : Numbering R G → Option ArgumentList → Type 0
  OpenedBy n o = Opened (ruled_by n) n.partition.now.class n.rep.items n.number o

  -- Every target of numbered classes has a number.
  abbrev pub Closed : Numbering R G → Type 0
  Closed n = OpenedBy n None

  -- What the numbered classes mean.
  abbrev pub meaning_by : Numbering R G → Meaning
  meaning_by n = numbered_meaning (ruled_by n) n.partition.now.class n.rep.items n.number
