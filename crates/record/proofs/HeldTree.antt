-- The tree that a checked record holds.
use Rattle.std.proofs.Common.{◌≡◌, ℕ, ◌<◌, ◌≤◌, true, List, length, is_ok, Ok, Err, Result, sym, refl, ap, ◌∙◌, arith}
use Rattle.std.specs.Result.{result_unwrap_or}
use Rattle.ruling.specs.declared.refusal.Refusal.{Refusal}
use Rattle.ruling.specs.Trees.{Tree, leaf, node_count}
use Rattle.record.specs.Reading.{read_record, tree_in, OneRecord}
use Rattle.record.specs.Laws.{Written}
use Rattle.record.proofs.Exact.{reads_all, written_all, count_length, some_nodes}

pub ok_tree : (r : Result Tree Refusal) → is_ok r ≡ true → r ≡ Ok (result_unwrap_or r (leaf 0))
ok_tree (Ok t) e = refl
ok_tree (Err x) e = cc

module _ (ks bytes : List ℕ) where
  pub is_read : is_ok (read_record ks 4096 bytes) ≡ true → read_record ks 4096 bytes ≡ Ok (tree_in ks bytes)
  is_read e = ok_tree (read_record ks 4096 bytes) e

  pub is_written : is_ok (read_record ks 4096 bytes) ≡ true → Written ks 4096 bytes (tree_in ks bytes)
  is_written e = written_all ks 4096 bytes (tree_in ks bytes) (is_read e)

  pub count_held : is_ok (read_record ks 4096 bytes) ≡ true → length bytes ≡ node_count (tree_in ks bytes)
  count_held e = sym (count_length (tree_in ks bytes) ∙ ap length (is_written e).written)

  pub some_held : is_ok (read_record ks 4096 bytes) ≡ true → 0 < length bytes
  some_held e =
      let c = count_held e in
      let s = some_nodes (tree_in ks bytes) in
      omega arith

  pub few_held : is_ok (read_record ks 4096 bytes) ≡ true → length bytes ≤ 4096
  few_held e =
      let c = count_held e in
      let f = (is_written e).few in
      omega arith

  pub held_ok : (t : Tree) → Written ks 4096 bytes t → is_ok (read_record ks 4096 bytes) ≡ true
  held_ok t w = ap is_ok (reads_all ks 4096 bytes t w)

  pub held_is : (t : Tree) → Written ks 4096 bytes t → tree_in ks bytes ≡ t
  held_is t w = ap (λ r. result_unwrap_or r (leaf 0)) (reads_all ks 4096 bytes t w)

  pub one_ok : OneRecord ks 4096 bytes → is_ok (read_record ks 4096 bytes) ≡ true
  one_ok o = held_ok o.tree (record { over = o.over; written = o.written; few = o.few })
