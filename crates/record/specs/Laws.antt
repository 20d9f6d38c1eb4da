-- What reading a record finds, in the subject's words.
use Rattle.std.specs.Prelude.{◌≡◌, ℕ, ◌≤◌, List, Ok}
use Rattle.ruling.specs.Trees.{Tree, Over, postorder, node_count}
use Rattle.record.specs.Reading.{read_record}

-- The record t is over the kinds, is written in these bytes, and has at most `limit` nodes.
pub record Written (ks : List ℕ) (limit : ℕ) (bytes : List ℕ) (t : Tree) : Type 0 where
  pub over : Over ks t
  pub written : postorder t ≡ bytes
  pub few : node_count t ≤ limit

-- Reading gives exactly the record that the bytes are written for.
abbrev pub ReadsExactly : List ℕ → ℕ → List ℕ → Type 0
ReadsExactly ks limit bytes = (t : Tree) → (read_record ks limit bytes ≡ Ok t → Written ks limit bytes t) × (Written ks limit bytes t → read_record ks limit bytes ≡ Ok t)
