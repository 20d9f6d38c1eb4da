-- How an answer is written.
use Rattle.std.specs.Prelude.{ℕ, Bool, true, false, List, ◌++◌, codes, decimal}
use Rattle.ruling.specs.declared.refusal.Notice.{Notice}
use Rattle.ruling.specs.Layers.{layer_text}
use Rattle.ruling.specs.Refusals.{told}
use Rattle.script.specs.declared.answer.Answer.{Answer}
use Rattle.script.specs.declared.answer.Answer.TheVariants.{Kept, Verdict, Measured, Number, Nothing, Refused, NoCall}

-- A refusal: its number, place and layer.
abbrev pub notice_text : Notice → List ℕ
notice_text n = codes "refused " ++ (decimal n.number ++ (codes " at " ++ (decimal n.place ++ (codes " in " ++ layer_text n.layer))))

abbrev pub verdict_text : Bool → List ℕ
verdict_text true = codes "yes"
verdict_text false = codes "no"

abbrev pub answer_text : Answer → List ℕ
answer_text (Kept states) = codes "states " ++ decimal states
answer_text (Verdict b) = verdict_text b
answer_text (Measured nodes height) = codes "nodes " ++ (decimal nodes ++ (codes " height " ++ decimal height))
answer_text (Number n) = decimal n
answer_text Nothing = codes "none"
answer_text (Refused r) = notice_text (told r)
answer_text NoCall = codes "no call"
