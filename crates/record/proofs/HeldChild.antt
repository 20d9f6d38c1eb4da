-- The children of a checked record.
use Rattle.std.proofs.Common.{◌≡◌, ℕ, ◌+◌, ◌-◌, ◌<◌, ◌≤◌, ltb, List, ◌++◌, length, get_or, take, drop, is_some, Some, None, Option, refl, ap, ◌∙◌, arith, length-append, length-take, length-take-le}
use Rattle.std.proofs.lemmas.List.{length-drop}
use Rattle.ruling.specs.Trees.{Tree, Over, postorder}
use Rattle.record.specs.declared.record.Record.{Record}
use Rattle.record.specs.declared.children.Span.{Span}
use Rattle.record.specs.Reading.{tree_in, OneRecord}
use Rattle.record.specs.Held.{bytes_of, kinds_of, tree_of}
use Rattle.record.specs.Children.{root_kind, children_of, child_tree, child_span}
use Rattle.record.proofs.Exact.{reads_all, one_record}
use Rattle.record.proofs.HeldTree.{is_written, held_is}
use Rattle.record.proofs.ChildParts.{Part, child_part, no_child, some_child, rank_children, root_rank, last_child}

module _ (r : Record) (n : ℕ) where
  rooted : get_or (kinds_of r) (get_or (bytes_of r) (length (bytes_of r) - 1) 0) 0 ≡ length (children_of (tree_of r))
  rooted =
      let w = is_written (kinds_of r) (bytes_of r) r.read in
      root_rank (kinds_of r) (bytes_of r) (tree_of r) w.over w.written

  known_held : is_some (child_span (tree_of r) n) ≡ ltb n (get_or (kinds_of r) (root_kind (tree_of r)) 0)
  known_held =
      some_child 0 (children_of (tree_of r)) n
      ∙ ap (λ (k : ℕ). ltb n k) (rank_children (kinds_of r) (tree_of r) (is_written (kinds_of r) (bytes_of r) r.read).over)

  -- the parts of the search's contract
  abbrev pub Said : Option Span → Type 0
  Said o = record { span : o ≡ child_span (tree_of r) n; known : is_some o ≡ ltb n (get_or (kinds_of r) (root_kind (tree_of r)) 0) }

  pub says : (o : Option Span) → o ≡ child_span (tree_of r) n → Said o
  says o e = record { span = e; known = ap is_some e ∙ known_held }

  pub none_held : (rank : ℕ) → rank ≡ get_or (kinds_of r) (get_or (bytes_of r) (length (bytes_of r) - 1) 0) 0 → rank ≤ n → None ≡ child_span (tree_of r) n
  none_held rank e l = let q = rooted in no_child 0 (children_of (tree_of r)) n (omega arith)

  -- what the number says, where the last child begins at `middle`
  pub record Last (rank middle : ℕ) : Type 0 where
    pub inside : middle ≤ length (bytes_of r) - 1
    pub last : n + 1 ≡ rank → Some (record { start = middle; len = length (bytes_of r) - 1 - middle }) ≡ child_span (tree_of r) n
    pub other : (n + 1 ≡ rank → ⊥) → Some (record { start = 0; len = middle }) ≡ child_span (tree_of r) n

  pub last_held : (rank middle : ℕ) → rank ≡ get_or (kinds_of r) (get_or (bytes_of r) (length (bytes_of r) - 1) 0) 0 → n < rank
      → ((xs : List ℕ) (u : Tree) → Over (kinds_of r) u → take (length (bytes_of r) - 1) (bytes_of r) ≡ xs ++ postorder u → middle ≡ length xs) → Last rank middle
  last_held rank middle e l starts =
      let q = rooted in
      let w = is_written (kinds_of r) (bytes_of r) r.read in
      let c = last_child (kinds_of r) (bytes_of r) (tree_of r) w.over w.written (omega arith) in
      let m : middle ≡ length c.before = starts c.before c.last c.over c.split in
      let f = ap length c.split in
      let g = length-append c.before (postorder c.last) in
      let h = length-take (length (bytes_of r) - 1) (bytes_of r) in
      record {
        inside = omega arith;
        last = λ o. ap (λ (j : ℕ). Some (record { start = j; len = length (bytes_of r) - 1 - j })) m ∙ c.span n (omega arith);
        other = λ o. ap (λ (j : ℕ). Some (record { start = 0; len = j })) m ∙ c.other n (omega arith);
      }

  module _ (span : Span) (found : Some span ≡ child_span (tree_of r) n) where
    pub part : Part (kinds_of r) 4096 (bytes_of r) (child_tree (tree_of r) n) span
    part = child_part (kinds_of r) 4096 (bytes_of r) (tree_of r) (is_written (kinds_of r) (bytes_of r) r.read) n span found

    same : (span.start + span.len) - span.start ≡ span.len
    same = omega arith

    -- the part as the code takes it
    pub part_one : OneRecord (kinds_of r) 4096 (take ((span.start + span.len) - span.start) (drop span.start (bytes_of r)))
    part_one = rw same (one_record (kinds_of r) 4096 (take span.len (drop span.start (bytes_of r))) (child_tree (tree_of r) n)
        (reads_all (kinds_of r) 4096 (take span.len (drop span.start (bytes_of r))) (child_tree (tree_of r) n) part.written))

    pub part_tree : tree_in (kinds_of r) (take ((span.start + span.len) - span.start) (drop span.start (bytes_of r))) ≡ child_tree (tree_of r) n
    part_tree = rw same (held_is (kinds_of r) (take span.len (drop span.start (bytes_of r))) (child_tree (tree_of r) n) part.written)

    pub part_bytes : take ((span.start + span.len) - span.start) (drop span.start (bytes_of r)) ≡ take span.len (drop span.start (bytes_of r))
    part_bytes = rw same refl

    pub part_length : length (take ((span.start + span.len) - span.start) (drop span.start (bytes_of r))) ≡ span.len
    part_length =
        let i = part.inside in
        let d = length-drop span.start (bytes_of r) in
        rw same (length-take-le span.len (drop span.start (bytes_of r)) (omega arith))
