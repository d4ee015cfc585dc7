-- `added_entries::write_tree` meets its contract: by recursion on the length of the list. Assumes nothing.
use mathlib.Core.Path.{◌≡◌, sym, ◌∙◌, subst}
use mathlib.Core.List.{List, ◌++◌}
use mathlib.Core.Bool.{Bool}
use Prim.Native.Nat.{ℕ, ◌+◌, ◌-◌, ◌/◌, ◌≤◌, min}
use native.Mathlib.Omega.{arith}
use lib.Dec.{ltb}
use lib.IntN.{ℤ}
use lib.ListN.{length, length-take, length-drop}
use Rattle.lists.specs.Slice.{Wrote}
use Rattle.lists.proofs.Slices.{filled_nil}
use Rattle.counting.specs.Over.{variables_over}
use Rattle.counting.proofs.Laws.{two_variables}
use Rattle.added_entries.specs.Rest.{entries_of, entries_over, count_over}
use Rattle.added_entries.proofs.Laws.{wrote_three, one_entries, count_within, pair_entries, pair_count, two_count, entries_length, two_entries}
use Rattle.added_entries.proofs.+write_tree.Goals as goal

pub returns-then-tree-lt2 : goal.returns-then-tree-lt2
returns-then-tree-lt2 t c =
    let tree = c.args.tree in
    let e : tree.l ≡ 1 = omega arith in
    record {
      count_value = rw e c.leaf.ensures.1;
      wrote = rw (one_entries c.args.marks.now tree.ceiling.c tree.l tree.x c.args.y c.if-tree-lt2.true) (c.leaf.ensures.0, sym (filled_nil _));
    }

-- two inputs: the node alone
pub write_node-requires : goal.write_node-requires
write_node-requires t c =
    let tree = c.args.tree in
    let two = two_variables tree.ceiling.c tree.l c.if-tree-lt2.false in
    let all = pair_count c.args.marks.now tree.l tree.x c.if-tree-eq2.true in
    let most = count_within c.args.marks.now tree.l tree.x in
    let first = c.leaf-first.ensures in
    let second = c.leaf-second.ensures in
    record { count_bound = (omega arith, omega arith); room = (omega arith, omega arith) }

pub returns-then-tree-eq2 : goal.returns-then-tree-eq2
returns-then-tree-eq2 t c =
    let args = c.args in
    let tree = c.args.tree in
    let all : c.leaf-first.result.count + c.leaf-second.result.count ≡ count_over args.marks.now tree.l tree.x =
    omega (arith, pair_count args.marks.now tree.l tree.x c.if-tree-eq2.true, c.leaf-first.ensures.1, c.leaf-second.ensures.1) in
    record {
      count_value = c.write_node.ensures.count_value ∙ all;
      wrote =
          subst (λ (out : List ℤ). Wrote out args.z.now c.write_node.new.z c.write_node.result.entries)
          (pair_entries args.marks.now tree.ceiling.c tree.l tree.x args.y args.z.now c.if-tree-eq2.true c.leaf-first.ensures.0 c.leaf-second.ensures.0 all)
          c.write_node.ensures.wrote;
    }

pub write_tree-left-requires : goal.write_tree-left-requires
write_tree-left-requires t c =
    let two = two_variables c.args.tree.ceiling.c c.args.tree.l c.if-tree-lt2.false in
    rw (c.left.ensures.0, c.left.ensures.1, c.left.ensures.2) (omega arith, (omega arith, omega arith, omega arith))

-- the left subtree's entries, and all
left_entries : (marks : List Bool) (c l x y : ℕ) {a : ℕ} → 2 ≤ l → a ≡ length (entries_over marks c (l / 2) x y)
    → (a ≡ variables_over c (l / 2)) × (variables_over c l ≡ variables_over c (l / 2) + variables_over c (l - l / 2) + min l (c + 1))
left_entries marks c l x y h e = (e ∙ entries_length marks c (l / 2) x y, two_variables c l h)

pub offset_bounds-z-at : goal.offset_bounds-z-at
offset_bounds-z-at t c =
    let left = rw (c.left.ensures.0, c.left.ensures.1, c.left.ensures.2) at c.write_tree-left.ensures in
    omega (arith, left_entries c.args.marks.now c.args.tree.ceiling.c c.args.tree.l c.args.tree.x c.args.y c.if-tree-lt2.false left.wrote.0)

pub slice_bounds-write_tree-count : goal.slice_bounds-write_tree-count
slice_bounds-write_tree-count t c =
    let left = rw (c.left.ensures.0, c.left.ensures.1, c.left.ensures.2) at c.write_tree-left.ensures in
    omega (arith, left_entries c.args.marks.now c.args.tree.ceiling.c c.args.tree.l c.args.tree.x c.args.y c.if-tree-lt2.false left.wrote.0)

pub slice_bounds-write_tree-start : goal.slice_bounds-write_tree-start
slice_bounds-write_tree-start t c =
    let left = rw (c.left.ensures.0, c.left.ensures.1, c.left.ensures.2) at c.write_tree-left.ensures in
    omega (arith, left_entries c.args.marks.now c.args.tree.ceiling.c c.args.tree.l c.args.tree.x c.args.y c.if-tree-lt2.false left.wrote.0)

pub overflow_add-y : goal.overflow_add-y
overflow_add-y t c =
    let left = rw (c.left.ensures.0, c.left.ensures.1, c.left.ensures.2) at c.write_tree-left.ensures in
    omega (arith, left_entries c.args.marks.now c.args.tree.ceiling.c c.args.tree.l c.args.tree.x c.args.y c.if-tree-lt2.false left.wrote.0)

pub write_tree-right-requires : goal.write_tree-right-requires
write_tree-right-requires t c =
    let left = rw (c.left.ensures.0, c.left.ensures.1, c.left.ensures.2) at c.write_tree-left.ensures in
    let l = left_entries c.args.marks.now c.args.tree.ceiling.c c.args.tree.l c.args.tree.x c.args.y c.if-tree-lt2.false left.wrote.0 in
    rw (c.right.ensures.0, c.right.ensures.1, c.right.ensures.2)
    (omega arith, (omega arith, omega arith, simp (length-take, length-drop) (omega arith)))

-- the right subtree's entries, and how many inputs are true
right_entries : (marks : List Bool) (c l x y : ℕ) {b m n : ℕ} → b ≡ length (entries_over marks c (l - l / 2) (x + l / 2) y)
    → m ≡ count_over marks (l / 2) x → n ≡ count_over marks (l - l / 2) (x + l / 2)
    → (b ≡ variables_over c (l - l / 2)) × (m + n ≡ count_over marks l x)
right_entries marks c l x y e em en = (e ∙ entries_length marks c (l - l / 2) (x + l / 2) y, omega (arith, two_count marks l x))

pub write_node-requires-2 : goal.write_node-requires-2
write_node-requires-2 t c =
    let marks = c.args.marks.now in
    let tree = c.args.tree in
    let left = rw (c.left.ensures.0, c.left.ensures.1, c.left.ensures.2) at c.write_tree-left.ensures in
    let right = rw (c.right.ensures.0, c.right.ensures.1, c.right.ensures.2) at c.write_tree-right.ensures in
    let l = left_entries marks tree.ceiling.c tree.l tree.x c.args.y c.if-tree-lt2.false left.wrote.0 in
    let r = right_entries marks tree.ceiling.c tree.l tree.x (c.args.y + c.write_tree-left.result.entries) right.wrote.0 left.count_value right.count_value in
    let most = count_within marks tree.l tree.x in
    record { count_bound = (omega arith, omega arith); room = (omega arith, omega arith) }

pub returns : goal.returns
returns t c =
    let args = c.args in
    let tree = c.args.tree in
    let marks = c.args.marks.now in
    let first = c.write_tree-left in
    let second = c.write_tree-right in
    let left = rw (c.left.ensures.0, c.left.ensures.1, c.left.ensures.2) at first.ensures in
    let right = rw (c.right.ensures.0, c.right.ensures.1, c.right.ensures.2) at second.ensures in
    let l = left_entries marks tree.ceiling.c tree.l tree.x args.y c.if-tree-lt2.false left.wrote.0 in
    let r = right_entries marks tree.ceiling.c tree.l tree.x (args.y + first.result.entries) right.wrote.0 left.count_value right.count_value in
    let us = entries_over marks tree.ceiling.c (tree.l / 2) tree.x args.y in
    let vs = entries_over marks tree.ceiling.c (tree.l - tree.l / 2) (tree.x + tree.l / 2) (args.y + first.result.entries) in
    let ws = entries_of (λ j. ltb j (first.result.count + second.result.count)) (min tree.l (tree.ceiling.c + 1)) (args.y + (first.result.entries + second.result.entries)) in
    let whole : us ++ vs ++ ws ≡ entries_over marks tree.ceiling.c tree.l tree.x args.y =
    two_entries _ _ _ _ _ c.if-tree-lt2.false l.0 r.0 r.1 in
    record {
      count_value = c.write_node-2.ensures.count_value ∙ r.1;
      wrote =
          subst (λ (out : List ℤ). Wrote out args.z.now c.write_node-2.new.z c.write_node-2.result.entries) whole
          (wrote_three us vs ws args.z.now first.new.z second.new.z c.write_node-2.new.z
          (rw whole (omega (arith, entries_length marks tree.ceiling.c tree.l tree.x args.y, c.requires.2)))
          left.wrote right.wrote c.write_node-2.ensures.wrote);
    }
