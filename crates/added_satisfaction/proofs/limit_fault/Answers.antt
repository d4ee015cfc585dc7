-- `added_satisfaction::limit_fault` meets its contract: by the root's output c + 1, where there is one. Assumes nothing.
use Prim.Native.Nat.{ℕ, min, ◌+◌, ◌≤◌, ◌<◌}
use native.Mathlib.Omega.{arith}
use lib.ListN.{length}
use Rattle.answers.proofs.Faults.{holds, fails}
use Rattle.counting.specs.Over.{before_outputs}
use Rattle.added_satisfaction.proofs.Truth.{valuation}
use Rattle.added_satisfaction.proofs.Trees.{before_within}
use Rattle.added_satisfaction.proofs.Added.{limit_none, limit_on, limit_off}
use Rattle.added_satisfaction.proofs.limit_fault.Goals as goal

-- the output that the limit is about is a variable
within : (c l x next size : ℕ) → x + l ≤ size → next ≤ size → (2 ≤ l → min l (c + 1) ≤ next) → c < l → before_outputs c l x next + (c + 1) ≤ size
within c l x next size a b d h = omega (arith, before_within c l x next size a b d)

pub returns-then-tree : goal.returns-then-tree
returns-then-tree c = limit_none c.args.of.entries.now c.args.tree.ceiling.c c.args.tree.l _ c.if-tree.true

pub overflow_add-before_outputs : goal.overflow_add-before_outputs
overflow_add-before_outputs c =
    let tree = c.args.tree in
    omega (arith, within tree.ceiling.c tree.l tree.x c.args.next (length c.args.of.entries.now) c.requires.bounds.0 c.requires.bounds.1 c.requires.outputs_within c.if-tree.false, c.before_outputs.ensures)

pub is_true-requires : goal.is_true-requires
is_true-requires c =
    let tree = c.args.tree in
    (omega arith, omega (arith, within tree.ceiling.c tree.l tree.x c.args.next (length c.args.of.entries.now) c.requires.bounds.0 c.requires.bounds.1 c.requires.outputs_within c.if-tree.false, c.before_outputs.ensures))

pub returns-then-is_true : goal.returns-then-is_true
returns-then-is_true c =
    let tree = c.args.tree in
    let es = c.args.of.entries.now in
    let w = within tree.ceiling.c tree.l tree.x c.args.next (length es) c.requires.bounds.0 c.requires.bounds.1 c.requires.outputs_within c.if-tree.false in
    limit_on es tree.ceiling.c tree.l (valuation es c.args.of.right) _ c.if-tree.false (omega arith) (omega arith) (holds (rw c.before_outputs.ensures at c.is_true.ensures) c.if-is_true.true)

pub returns : goal.returns
returns c =
    let tree = c.args.tree in
    let es = c.args.of.entries.now in
    let w = within tree.ceiling.c tree.l tree.x c.args.next (length es) c.requires.bounds.0 c.requires.bounds.1 c.requires.outputs_within c.if-tree.false in
    limit_off es tree.ceiling.c tree.l (valuation es c.args.of.right) _ c.if-tree.false (omega arith) (omega arith) (fails (rw c.before_outputs.ensures at c.is_true.ensures) c.if-is_true.false)
