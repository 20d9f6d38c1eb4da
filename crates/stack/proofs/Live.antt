-- The live values of a stack.
use Rattle.std.proofs.Common.{◌≡◌, ℕ, min, List, length, take, ◌∙◌, length-take}
use lib.ListN.{length-reverse}
use Rattle.stack.specs.Stacks.{live}

pub live_length : {A : Type 0} (n : ℕ) (s : List A) → length (live n s) ≡ min n (length s)
live_length n s = length-reverse (take n s) ∙ length-take n s
