-- `added_satisfaction::tree::tree_fault` meets its contract: by recursion on the length of the list. Assumes nothing.
use Prim.Native.Nat.{◌+◌, ◌-◌, ◌/◌}
use native.Mathlib.Omega.{arith}
use borrow.Author.Rules.{rules}
use Rattle.counting.specs.Over.{clauses_over}
use Rattle.counting.proofs.Laws.{one_variables, two_variables, outputs_fit, clauses_bound}
use Rattle.added_satisfaction.specs.Search.{Fails}
use Rattle.added_satisfaction.proofs.Trees.{tree_none, tree_left, tree_right, tree_fails, tree_passes}
use Rattle.added_satisfaction.proofs.tree.+tree_fault.Goals as goal

pub returns-then-tree-lt2 : goal.returns-then-tree-lt2
returns-then-tree-lt2 t c =
    (tree_none c.args.of.entries.now c.args.tree.ceiling.c c.args.tree.l c.args.tree.x c.args.y c.if-tree-lt2.true, omega (arith, one_variables c.args.tree.ceiling.c c.args.tree.l c.if-tree-lt2.true))

pub tree_fault-requires : goal.tree_fault-requires
tree_fault-requires t c =
    let v = two_variables c.args.tree.ceiling.c c.args.tree.l c.if-tree-lt2.false in
    rw (c.left.ensures.0, c.left.ensures.1, c.left.ensures.2) (omega (arith, c.decreases), (omega arith, omega arith))

pub returns-in_err-left : goal.returns-in_err-left
returns-in_err-left t c =
    let f : Fails c.args.of.entries.now (clauses_over c.args.tree.ceiling.c c.args.tree.l c.args.tree.x c.args.y) c.in_err-left.field-0.0 = tree_left c.args.of.entries.now c.args.tree.ceiling.c c.args.tree.l c.args.tree.x c.args.y c.if-tree-lt2.false (rw (c.left.ensures.0, c.left.ensures.1, c.left.ensures.2) at c.in_err-left.ensures) in
    search rules

pub tree_fault-requires-2 : goal.tree_fault-requires-2
tree_fault-requires-2 t c =
    let left = rw (c.left.ensures.0, c.left.ensures.1, c.left.ensures.2) at c.in_ok-left.ensures in
    let v = two_variables c.args.tree.ceiling.c c.args.tree.l c.if-tree-lt2.false in
    rw (c.right.ensures.0, c.right.ensures.1, c.right.ensures.2) (omega (arith, c.decreases), (omega arith, omega arith))

pub overflow_add-result : goal.overflow_add-result
overflow_add-result t c =
    let left = rw (c.left.ensures.0, c.left.ensures.1, c.left.ensures.2) at c.in_ok-left.ensures in
    let right = rw (c.right.ensures.0, c.right.ensures.1, c.right.ensures.2) at c.in-Err.ensures in
    let most = clauses_bound c.args.tree.ceiling.c (c.args.tree.l / 2) c.args.tree.x c.args.y c.args.tree.ceiling.c_most (omega arith) in
    let most' = clauses_bound c.args.tree.ceiling.c (c.args.tree.l - c.args.tree.l / 2) (c.args.tree.x + c.args.tree.l / 2) c.in_ok-left.left.next c.args.tree.ceiling.c_most (omega arith) in
    omega (arith, left.0.count, right.within)

pub returns-in-Err : goal.returns-in-Err
returns-in-Err t c =
    let left = rw (c.left.ensures.0, c.left.ensures.1, c.left.ensures.2) at c.in_ok-left.ensures in
    let right = rw (c.right.ensures.0, c.right.ensures.1, c.right.ensures.2) at c.in-Err.ensures in
    tree_right c.args.of.entries.now c.args.tree.ceiling.c c.args.tree.l c.args.tree.x c.args.y c.if-tree-lt2.false left.0 left.1 right

pub overflow_add-before : goal.overflow_add-before
overflow_add-before t c =
    let left = rw (c.left.ensures.0, c.left.ensures.1, c.left.ensures.2) at c.in_ok-left.ensures in
    let right = rw (c.right.ensures.0, c.right.ensures.1, c.right.ensures.2) at c.in-Ok.ensures in
    let most = clauses_bound c.args.tree.ceiling.c (c.args.tree.l / 2) c.args.tree.x c.args.y c.args.tree.ceiling.c_most (omega arith) in
    let most' = clauses_bound c.args.tree.ceiling.c (c.args.tree.l - c.args.tree.l / 2) (c.args.tree.x + c.args.tree.l / 2) c.in_ok-left.left.next c.args.tree.ceiling.c_most (omega arith) in
    omega (arith, left.0.count, right.0.count)

pub own_fault-requires-clause-bounds : goal.own_fault-requires-clause-bounds
own_fault-requires-clause-bounds t c =
    let left = rw (c.left.ensures.0, c.left.ensures.1, c.left.ensures.2) at c.in_ok-left.ensures in
    let right = rw (c.right.ensures.0, c.right.ensures.1, c.right.ensures.2) at c.in-Ok.ensures in
    let v = two_variables c.args.tree.ceiling.c c.args.tree.l c.if-tree-lt2.false in
    (c.if-tree-lt2.false, omega arith, omega (arith, left.1), omega (arith, left.1, right.1))

pub own_fault-requires-clause-ends : goal.own_fault-requires-clause-ends
own_fault-requires-clause-ends t c =
    let left = rw (c.left.ensures.0, c.left.ensures.1, c.left.ensures.2) at c.in_ok-left.ensures in
    let right = rw (c.right.ensures.0, c.right.ensures.1, c.right.ensures.2) at c.in-Ok.ensures in
    rw (right.1, left.1) ((λ h. outputs_fit _ _ _ h), (λ h. outputs_fit _ _ _ h))

pub overflow_add-result-in-Ok-own_fault : goal.overflow_add-result-in-Ok-own_fault
overflow_add-result-in-Ok-own_fault t c =
    let left = rw (c.left.ensures.0, c.left.ensures.1, c.left.ensures.2) at c.in_ok-left.ensures in
    let right = rw (c.right.ensures.0, c.right.ensures.1, c.right.ensures.2) at c.in-Ok.ensures in
    let most = clauses_bound c.args.tree.ceiling.c c.args.tree.l c.args.tree.x c.args.y c.args.tree.ceiling.c_most (omega arith) in
    omega (arith, (tree_passes c.args.of.entries.now c.args.tree.ceiling.c c.args.tree.l c.args.tree.x c.args.y c.if-tree-lt2.false left.0 left.1 right.0 right.1 c.in-Ok-own_fault.ensures).count)

pub overflow_add-result-in-Ok-own_fault-2 : goal.overflow_add-result-in-Ok-own_fault-2
overflow_add-result-in-Ok-own_fault-2 t c =
    let left = rw (c.left.ensures.0, c.left.ensures.1, c.left.ensures.2) at c.in_ok-left.ensures in
    let right = rw (c.right.ensures.0, c.right.ensures.1, c.right.ensures.2) at c.in-Ok.ensures in
    let v = two_variables c.args.tree.ceiling.c c.args.tree.l c.if-tree-lt2.false in
    omega (arith, left.1, right.1, c.args.of.few)

pub overflow_add-result-in-Err-own_fault : goal.overflow_add-result-in-Err-own_fault
overflow_add-result-in-Err-own_fault t c =
    let left = rw (c.left.ensures.0, c.left.ensures.1, c.left.ensures.2) at c.in_ok-left.ensures in
    let right = rw (c.right.ensures.0, c.right.ensures.1, c.right.ensures.2) at c.in-Ok.ensures in
    let most = clauses_bound c.args.tree.ceiling.c c.args.tree.l c.args.tree.x c.args.y c.args.tree.ceiling.c_most (omega arith) in
    omega (arith, (tree_fails c.args.of.entries.now c.args.tree.ceiling.c c.args.tree.l c.args.tree.x c.args.y c.if-tree-lt2.false left.0 left.1 right.0 right.1 c.in-Err-own_fault.ensures).within)

pub returns-in-Ok-own_fault : goal.returns-in-Ok-own_fault
returns-in-Ok-own_fault t c =
    let left = rw (c.left.ensures.0, c.left.ensures.1, c.left.ensures.2) at c.in_ok-left.ensures in
    let right = rw (c.right.ensures.0, c.right.ensures.1, c.right.ensures.2) at c.in-Ok.ensures in
    let v = two_variables c.args.tree.ceiling.c c.args.tree.l c.if-tree-lt2.false in
    (tree_passes c.args.of.entries.now c.args.tree.ceiling.c c.args.tree.l c.args.tree.x c.args.y c.if-tree-lt2.false left.0 left.1 right.0 right.1 c.in-Ok-own_fault.ensures, omega (arith, left.1, right.1))

pub returns-in-Err-own_fault : goal.returns-in-Err-own_fault
returns-in-Err-own_fault t c =
    let left = rw (c.left.ensures.0, c.left.ensures.1, c.left.ensures.2) at c.in_ok-left.ensures in
    let right = rw (c.right.ensures.0, c.right.ensures.1, c.right.ensures.2) at c.in-Ok.ensures in
    tree_fails c.args.of.entries.now c.args.tree.ceiling.c c.args.tree.l c.args.tree.x c.args.y c.if-tree-lt2.false left.0 left.1 right.0 right.1 c.in-Err-own_fault.ensures
