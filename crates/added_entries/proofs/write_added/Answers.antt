-- `added_entries::write_added` meets its contract: the tree's entries stand behind those of B. Assumes nothing.
use mathlib.Core.Path.{sym, ◌∙◌, ap}
use mathlib.Core.List.{List}
use Prim.Native.Nat.{suc, ◌+◌, ◌*◌, ◌≤◌}
use native.Mathlib.Omega.{arith}
use borrow.Author.Rules.{rules}
use lib.IntN.{ℤ}
use lib.ListN.{length-take, length-drop}
use Rattle.lists.specs.Slice.{filled}
use Rattle.lists.proofs.Blocks.{for1_length}
use Rattle.lists.proofs.Slices.{filled_nil, filled_part}
use Rattle.ceiling.specs.Tree.{entry_of}
use Rattle.added_entries.specs.Rest.{entries_of, busy_in, entries_over}
use Rattle.added_entries.proofs.Laws.{Added, added, added_entries, none_added}
use Rattle.added_entries.proofs.write_added.Goals as goal

pub returns-then-l-eq0 : goal.returns-then-l-eq0
returns-then-l-eq0 c =
    sym (ap (λ (out : List ℤ). filled out c.args.z.now) (none_added c.args.s.sizes c.args.p.now c.args.ceiling.c c.if-l-eq0.true) ∙ filled_nil _)

pub marks_of-marks-requires : goal.marks_of-marks-requires
marks_of-marks-requires c =
    let known : Added c.args.s.sizes c.args.ceiling.c = added c.args.s.sizes c.args.s.limits c.args.ceiling.c in
    (c.args.s.limits.k_most, known.inputs)

pub write_entries-requires-clause-n_bound : goal.write_entries-requires-clause-n_bound
write_entries-requires-clause-n_bound c =
    let known : Added c.args.s.sizes c.args.ceiling.c = added c.args.s.sizes c.args.s.limits c.args.ceiling.c in
    let k = known in
    (omega (arith, c.variable_count-n.ensures.1), omega (arith, c.requires.1))

pub offset_bounds-z-l : goal.offset_bounds-z-l
offset_bounds-z-l c =
    let known : Added c.args.s.sizes c.args.ceiling.c = added c.args.s.sizes c.args.s.limits c.args.ceiling.c in
    omega (arith, known)

pub slice_bounds-write_tree-count : goal.slice_bounds-write_tree-count
slice_bounds-write_tree-count c =
    let known : Added c.args.s.sizes c.args.ceiling.c = added c.args.s.sizes c.args.s.limits c.args.ceiling.c in
    omega (arith, known, c.requires.1, c.write_entries.auto.z)

pub slice_bounds-write_tree-start : goal.slice_bounds-write_tree-start
slice_bounds-write_tree-start c = slice_bounds-write_tree-count c

pub write_tree-requires : goal.write_tree-requires
write_tree-requires c =
    let known : Added c.args.s.sizes c.args.ceiling.c = added c.args.s.sizes c.args.s.limits c.args.ceiling.c in
    let k = known in
    let room = c.requires.1 in
    let same = c.write_entries.auto.z in (
      omega arith,
      omega (arith, c.variable_count-n.ensures.1),
      simp (length-take, length-drop) (omega arith),
    )

pub returns : goal.returns
unfolding busy_in
returns c =
    let known : Added c.args.s.sizes c.args.ceiling.c = added c.args.s.sizes c.args.s.limits c.args.ceiling.c in
    let count = c.variable_count-n in
    let times = c.rest_times-rest in
    let made = c.marks_of-marks in
    let s = c.args.s.sizes in
    let l = s.m * s.k in
    let n = count.result in
    let marks = made.result in
    let some : 1 ≤ l = omega (arith, c.if-l-eq0.false) in
    filled_part _ c.args.z.now (entries_of (busy_in marks) l n) (entries_over marks c.args.ceiling.c l 0 (n + l)) _ l
    (c.write_entries.ensures (busy_in marks) (λ j b h e. search rules))
    (for1_length l (λ i. entry_of (busy_in marks i) (n + suc i)))
    (omega (arith, known, c.requires.1))
    c.write_tree.ensures.wrote.1
    ∙ ap (λ (out : List ℤ). filled out c.args.z.now) (added_entries s c.args.p.now times.result times.ensures c.args.s.limits.k_least marks made.ensures c.args.ceiling.c some count.ensures.0)
