use Rattle.std.proofs.Common.{◌<◌, length, refl, ap, ◌∙◌, sym, arith, eqb-true, rules}
use Rattle.std.proofs.lemmas.Bool.{eqb-false}
use Rattle.script.specs.Words.{words_of}
use Rattle.script.proofs.Splitting.{no_word, next_word}
use Rattle.script.proofs.words.WordsIterator.next.Goals as goal

pub returns-in_default-clause-steps : goal.returns-in_default-clause-steps
returns-in_default-clause-steps c = (no_word c.args.self.now.rest.now (sym c.in_default.is ∙ c.word_start.ensures), refl)

pub returns-then-is_empty-clause-steps : goal.returns-then-is_empty-clause-steps
returns-then-is_empty-clause-steps c =
    let n = next_word c.args.self.now.rest.now _ _ _ _ _ _ (sym c.in-Some.is ∙ c.word_start.ensures) refl c.word_end.ensures c.unwrap_or.ensures c.split_at.ensures.front c.split_at.ensures.back in
    n.0 (eqb-true _ _ (sym c.is_empty.ensures ∙ c.if-is_empty.true))

pub returns-else-is_empty : goal.returns-else-is_empty
returns-else-is_empty c =
    let rest = c.args.self.now.rest.now in
    let n = next_word rest _ _ _ _ _ _ (sym c.in-Some.is ∙ c.word_start.ensures) refl c.word_end.ensures c.unwrap_or.ensures c.split_at.ensures.front c.split_at.ensures.back in
    let e = n.1 (eqb-false _ _ (sym c.is_empty.ensures ∙ c.if-is_empty.false)) in
    let l : length (words_of c.split_at.result.1.now) < length (words_of rest) = omega (arith, ap length e) in
    record { steps = e; goes = search rules }
