-- The children of a record's root, and where they stand in its bytes.
use Rattle.std.specs.Prelude.{◌≡◌, ℕ, zero, suc, ◌+◌, List, [], ◌∷◌, take, drop, Some, None, Option, slice_index_or}
use Rattle.ruling.specs.Trees.{Tree, leaf, stem, fork, node_count}
use Rattle.record.specs.declared.children.Span.{Span}
use Rattle.record.specs.declared.record.Record.{Record}
use Rattle.record.specs.Held.{bytes_of, tree_of}

abbrev pub root_kind : Tree → ℕ
root_kind (leaf k) = k
root_kind (stem k t) = k
root_kind (fork k t u) = k

-- The children of the root, the left one first.
abbrev pub children_of : Tree → List Tree
children_of (leaf k) = []
children_of (stem k t) = t ∷ []
children_of (fork k t u) = t ∷ (u ∷ [])

-- The child of this number, from 0; a leaf where there is none.
abbrev pub child_tree : Tree → ℕ → Tree
child_tree t n = slice_index_or (children_of t) n (leaf 0)

-- Where record number n of these stands, where their bytes follow one another from `from` on.
abbrev pub span_in : ℕ → List Tree → ℕ → Option Span
span_in from [] n = None
span_in from (t ∷ ts) zero = Some (record { start = from; len = node_count t })
span_in from (t ∷ ts) (suc n) = span_in (from + node_count t) ts n

-- Where the child of this number stands in the record's own bytes; none where there is no such child.
abbrev pub child_span : Tree → ℕ → Option Span
child_span t n = span_in 0 (children_of t) n

-- The record `child` is the child of this number of the record r, a part of its bytes, under the same kind list.
pub record ChildOf (r : Record) (n : ℕ) (child : Record) : Type 0 where
  pub span : Span
  pub found : Some span ≡ child_span (tree_of r) n
  pub tree : tree_of child ≡ child_tree (tree_of r) n
  pub bytes : bytes_of child ≡ take span.len (drop span.start (bytes_of r))
  pub kinds : child.kinds ≡ r.kinds
  pub place : child.place ≡ r.place + span.start
