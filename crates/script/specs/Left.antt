-- The words that are still to come.
use Rattle.std.specs.Prelude.{ℕ, List}
use Rattle.script.specs.declared.words.Words.{Words}
use Rattle.script.specs.Words.{words_of}

abbrev pub words_left : Words → List (List ℕ)
words_left w = words_of w.rest.now
