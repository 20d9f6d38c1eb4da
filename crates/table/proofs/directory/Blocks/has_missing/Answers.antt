use Rattle.std.proofs.Common.{◌≡◌, ℕ, zero, suc, ◌||◌, Bool, List, nat_eq, is_some, sym, refl, ap, ◌∙◌, add-one, arith, rules}
use Rattle.std.specs.List.{list_any, range_with_len}
use Rattle.std.proofs.lemmas.Iterator.{YieldsList-from_range}
use Rattle.std.proofs.lemmas.Iterator.Search.{any_from_yields_List}
use Rattle.ruling.specs.Checks.{lowest}
use Rattle.table.specs.TableFiles.{kind_count_in, byte_at, offset_at, length_at, missing_from}
use Rattle.table.proofs.directory.Blocks.has_missing.Goals as goal

misses : List ℕ → ℕ → Bool
misses f k = is_some (lowest (λ p. nat_eq (byte_at f p) 255) (offset_at f k) (length_at f k))

some_misses : (f : List ℕ) (k c : ℕ) → missing_from f k c ≡ list_any (misses f) (range_with_len k c)
unfolding misses
some_misses f k zero = refl
some_misses f k (suc c) = ap (λ b. misses f k || b) (some_misses f (suc k) c ∙ ap (λ j. list_any (misses f) (range_with_len j c)) (sym (add-one k)))

pub returns : goal.returns
unfolding misses
returns c =
    let f = c.args.self.now.head.bytes.now in
    let n = kind_count_in f in
    any_from_yields_List (misses f) _ _ _ c.any.ensures.ran (YieldsList-from_range 0 n n (cc) (omega arith)) (λ x b q k. search rules)
    ∙ sym (some_misses f 0 n)
