use Rattle.std.proofs.Common.{◌≡◌, ℕ, ◌≤◌, false, length, get_or}
use Rattle.reduction.specs.Numberings.{meaning_by}
use Rattle.reduction.specs.Filling.{MarksFilled}
use Rattle.reduction.proofs.numbering.Numbering.marks.Given as goal

abbrev pub invariant-loop-number : goal.invariant-loop-number
invariant-loop-number g l = record {
  room : length l.marks ≡ 32;
  filled : MarksFilled (meaning_by l.self) l.marks l.number;
  rest : (s : ℕ) → l.number ≤ s → get_or l.marks s false ≡ false;
}
