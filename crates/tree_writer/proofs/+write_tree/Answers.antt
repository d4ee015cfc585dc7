-- `tree_writer::write_tree` meets its contract: by recursion on the length of the list. Assumes nothing.
use mathlib.Core.Path.{refl, sym}
use native.Mathlib.Omega.{arith}
use borrow.Author.Rules.{rules}
use lib.ListN.{length-take, length-drop}
use Rattle.lists.proofs.Slices.{filled_nil, filling_room}
use Rattle.counting.proofs.Laws.{one_clauses, one_variables, two_clauses, two_variables, outputs_fit}
use Rattle.tree_writer.proofs.Laws.{tree_parts, tree_start, left_done, right_done, own_done, all_written}
use Rattle.tree_writer.proofs.+write_tree.Goals as goal

pub returns-then-tree-lt2 : goal.returns-then-tree-lt2
returns-then-tree-lt2 t c =
    let tree = c.args.tree in
    rw (one_clauses tree.ceiling.c tree.l tree.x c.args.y c.if-tree-lt2.true, one_variables tree.ceiling.c tree.l c.if-tree-lt2.true)
    (refl, omega arith, sym (filled_nil _))

pub write_tree-left-requires : goal.write_tree-left-requires
write_tree-left-requires t c =
    let tree = c.args.tree in
    let v = two_variables tree.ceiling.c tree.l c.if-tree-lt2.false in
    let r = filling_room (tree_start tree.ceiling.c tree.l tree.x c.args.y c.if-tree-lt2.false c.args.f.now c.requires.y_in_bounds) (omega arith) in
    simp (c.left.ensures.0, c.left.ensures.1, c.left.ensures.2) (omega (arith, c.decreases), (omega arith, omega arith))

pub offset_bounds-f-middle : goal.offset_bounds-f-middle
offset_bounds-f-middle t c =
    let tree = c.args.tree in
    let left = simp (c.left.ensures.0, c.left.ensures.1, c.left.ensures.2) at c.write_tree-left.ensures in
    let w = left_done tree.ceiling.c tree.l tree.x c.args.y c.if-tree-lt2.false c.args.f.now c.requires.y_in_bounds left in
    search rules

pub slice_bounds-write_tree-count : goal.slice_bounds-write_tree-count
slice_bounds-write_tree-count t c =
    let tree = c.args.tree in
    let left = simp (c.left.ensures.0, c.left.ensures.1, c.left.ensures.2) at c.write_tree-left.ensures in
    let w = left_done tree.ceiling.c tree.l tree.x c.args.y c.if-tree-lt2.false c.args.f.now c.requires.y_in_bounds left in
    search rules

pub slice_bounds-write_tree-start : goal.slice_bounds-write_tree-start
slice_bounds-write_tree-start t c =
    let tree = c.args.tree in
    let left = simp (c.left.ensures.0, c.left.ensures.1, c.left.ensures.2) at c.write_tree-left.ensures in
    let w = left_done tree.ceiling.c tree.l tree.x c.args.y c.if-tree-lt2.false c.args.f.now c.requires.y_in_bounds left in
    search rules

pub write_tree-right-requires : goal.write_tree-right-requires
write_tree-right-requires t c =
    let tree = c.args.tree in
    let left = simp (c.left.ensures.0, c.left.ensures.1, c.left.ensures.2) at c.write_tree-left.ensures in
    let v = two_variables tree.ceiling.c tree.l c.if-tree-lt2.false in
    let r = filling_room (left_done tree.ceiling.c tree.l tree.x c.args.y c.if-tree-lt2.false c.args.f.now c.requires.y_in_bounds left) (omega arith) in
    simp (c.right.ensures.0, c.right.ensures.1, c.right.ensures.2, left.1)
    (omega (arith, c.decreases), (omega arith, simp (length-take, length-drop) (omega arith)))

pub overflow_add-end : goal.overflow_add-end
overflow_add-end t c =
    let tree = c.args.tree in
    let left = simp (c.left.ensures.0, c.left.ensures.1, c.left.ensures.2) at c.write_tree-left.ensures in
    let right = simp (c.right.ensures.0, c.right.ensures.1, c.right.ensures.2) at c.write_tree-right.ensures in
    let w = right_done tree.ceiling.c tree.l tree.x c.args.y c.if-tree-lt2.false c.args.f.now c.requires.y_in_bounds left right in
    search rules

pub offset_bounds-f-end : goal.offset_bounds-f-end
offset_bounds-f-end t c =
    let tree = c.args.tree in
    let left = simp (c.left.ensures.0, c.left.ensures.1, c.left.ensures.2) at c.write_tree-left.ensures in
    let right = simp (c.right.ensures.0, c.right.ensures.1, c.right.ensures.2) at c.write_tree-right.ensures in
    let w = right_done tree.ceiling.c tree.l tree.x c.args.y c.if-tree-lt2.false c.args.f.now c.requires.y_in_bounds left right in
    search rules

pub slice_bounds-write_own-count : goal.slice_bounds-write_own-count
slice_bounds-write_own-count t c =
    let tree = c.args.tree in
    let left = simp (c.left.ensures.0, c.left.ensures.1, c.left.ensures.2) at c.write_tree-left.ensures in
    let right = simp (c.right.ensures.0, c.right.ensures.1, c.right.ensures.2) at c.write_tree-right.ensures in
    let w = right_done tree.ceiling.c tree.l tree.x c.args.y c.if-tree-lt2.false c.args.f.now c.requires.y_in_bounds left right in
    search rules

pub slice_bounds-write_own-start : goal.slice_bounds-write_own-start
slice_bounds-write_own-start t c =
    let tree = c.args.tree in
    let left = simp (c.left.ensures.0, c.left.ensures.1, c.left.ensures.2) at c.write_tree-left.ensures in
    let right = simp (c.right.ensures.0, c.right.ensures.1, c.right.ensures.2) at c.write_tree-right.ensures in
    let w = right_done tree.ceiling.c tree.l tree.x c.args.y c.if-tree-lt2.false c.args.f.now c.requires.y_in_bounds left right in
    search rules

pub write_own-own-requires-clause-bounds : goal.write_own-own-requires-clause-bounds
write_own-own-requires-clause-bounds t c =
    let tree = c.args.tree in
    let left = simp (c.left.ensures.0, c.left.ensures.1, c.left.ensures.2) at c.write_tree-left.ensures in
    let right = simp (c.right.ensures.0, c.right.ensures.1, c.right.ensures.2) at c.write_tree-right.ensures in
    let v = two_variables tree.ceiling.c tree.l c.if-tree-lt2.false in
    (omega arith, omega (arith, left.1), omega (arith, left.1, right.1))

pub write_own-own-requires-clause-ends : goal.write_own-own-requires-clause-ends
write_own-own-requires-clause-ends t c =
    let left = simp (c.left.ensures.0, c.left.ensures.1, c.left.ensures.2) at c.write_tree-left.ensures in
    let right = simp (c.right.ensures.0, c.right.ensures.1, c.right.ensures.2) at c.write_tree-right.ensures in
    rw (right.1, left.1) ((λ h. outputs_fit _ _ _ h), (λ h. outputs_fit _ _ _ h))

pub write_own-own-requires-clause-v_in_bounds : goal.write_own-own-requires-clause-v_in_bounds
write_own-own-requires-clause-v_in_bounds t c =
    let tree = c.args.tree in
    let left = simp (c.left.ensures.0, c.left.ensures.1, c.left.ensures.2) at c.write_tree-left.ensures in
    let right = simp (c.right.ensures.0, c.right.ensures.1, c.right.ensures.2) at c.write_tree-right.ensures in
    let r = filling_room (right_done tree.ceiling.c tree.l tree.x c.args.y c.if-tree-lt2.false c.args.f.now c.requires.y_in_bounds left right) (omega arith) in
    rw (right.1, left.1) (simp (length-take, length-drop) (omega arith))

pub overflow_add-result : goal.overflow_add-result
overflow_add-result t c =
    let tree = c.args.tree in
    let left = simp (c.left.ensures.0, c.left.ensures.1, c.left.ensures.2) at c.write_tree-left.ensures in
    let right = simp (c.right.ensures.0, c.right.ensures.1, c.right.ensures.2) at c.write_tree-right.ensures in
    let w = own_done tree.ceiling.c tree.l tree.x c.args.y c.if-tree-lt2.false c.args.f.now c.requires.y_in_bounds left right c.write_own-own.ensures in
    search rules

pub overflow_add-result-2 : goal.overflow_add-result-2
overflow_add-result-2 t c =
    let left = simp (c.left.ensures.0, c.left.ensures.1, c.left.ensures.2) at c.write_tree-left.ensures in
    let right = simp (c.right.ensures.0, c.right.ensures.1, c.right.ensures.2) at c.write_tree-right.ensures in
    omega (arith, two_variables c.args.tree.ceiling.c c.args.tree.l c.if-tree-lt2.false, left.1, right.1)

pub returns : goal.returns
returns t c =
    let tree = c.args.tree in
    let left = simp (c.left.ensures.0, c.left.ensures.1, c.left.ensures.2) at c.write_tree-left.ensures in
    let right = simp (c.right.ensures.0, c.right.ensures.1, c.right.ensures.2) at c.write_tree-right.ensures in
    let (count, slice) = all_written (tree_parts tree.ceiling.c tree.l tree.x c.args.y) (sym (two_clauses tree.ceiling.c tree.l tree.x c.args.y c.if-tree-lt2.false))
    (own_done tree.ceiling.c tree.l tree.x c.args.y c.if-tree-lt2.false c.args.f.now c.requires.y_in_bounds left right c.write_own-own.ensures) in
    (count, omega (arith, two_variables tree.ceiling.c tree.l c.if-tree-lt2.false, left.1, right.1), slice)
