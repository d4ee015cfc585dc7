-- `added_writer::write_counters` meets its contract: the limit is written to the part of the slice behind the tree. Assumes nothing.
use mathlib.Core.Path.{refl}
use mathlib.Core.List.{List, [], ◌∷◌}
use Prim.Native.Nat.{◌*◌, ◌≤◌}
use native.Mathlib.Nat.{mul-le-mul}
use native.Mathlib.Omega.{arith}
use borrow.Author.Rules.{rules}
use lib.ListN.{length-take, length-drop}
use Rattle.lists.proofs.Slices.{filling_room, filling_on, filling_next}
use Rattle.formula.specs.Formula.{Clause}
use Rattle.formula.proofs.Limits.{agent_steps}
use Rattle.ceiling.specs.Ceiling.{counters, limit}
use Rattle.counting.proofs.Laws.{tree_fits}
use Rattle.tree_writer.proofs.Laws.{none_written, all_written}
use Rattle.added_writer.proofs.Laws.{counters_over}
use Rattle.added_writer.proofs.write_counters.Goals as goal

pub write_tree-tree-requires : goal.write_tree-tree-requires
write_tree-tree-requires c =
    let parts : List (List Clause) = counters c.args.s.sizes c.args.ceiling.c ∷ limit c.args.s.sizes c.args.ceiling.c ∷ [] in
    let before0 = none_written parts refl c.requires.c_in_bounds in
    let few : (1 ≤ c.args.s.sizes.m * c.args.s.sizes.k) × (c.args.s.sizes.m * c.args.s.sizes.k ≤ 512) = (mul-le-mul {n₁ = 1} {m₁ = 1} c.requires.m_nonzero c.args.s.limits.k_least, agent_steps c.args.s.sizes c.args.s.limits) in
    let (l, q) = few in
    let v = tree_fits c.args.ceiling.c (c.args.s.sizes.m * c.args.s.sizes.k) q in
    rw (counters_over c.args.s.sizes c.args.ceiling.c c.variable_count-first.ensures.0)
    record { y_most = omega (arith, c.variable_count-first.ensures.1); y_in_bounds = (let r = filling_room before0 (omega arith) in omega arith) }

pub offset_bounds-f-at : goal.offset_bounds-f-at
offset_bounds-f-at c =
    let parts : List (List Clause) = counters c.args.s.sizes c.args.ceiling.c ∷ limit c.args.s.sizes c.args.ceiling.c ∷ [] in
    let before0 = none_written parts refl c.requires.c_in_bounds in
    let before1 = let o = rw (counters_over c.args.s.sizes c.args.ceiling.c c.variable_count-first.ensures.0) at c.write_tree-tree.ensures in
    filling_on before0 (omega arith) (o.0, o.2) in
    let w = before1 in search rules

pub slice_bounds-write_limit-count : goal.slice_bounds-write_limit-count
slice_bounds-write_limit-count c =
    let parts : List (List Clause) = counters c.args.s.sizes c.args.ceiling.c ∷ limit c.args.s.sizes c.args.ceiling.c ∷ [] in
    let before0 = none_written parts refl c.requires.c_in_bounds in
    let before1 = let o = rw (counters_over c.args.s.sizes c.args.ceiling.c c.variable_count-first.ensures.0) at c.write_tree-tree.ensures in
    filling_on before0 (omega arith) (o.0, o.2) in
    let w = before1 in search rules

pub slice_bounds-write_limit-start : goal.slice_bounds-write_limit-start
slice_bounds-write_limit-start c =
    let parts : List (List Clause) = counters c.args.s.sizes c.args.ceiling.c ∷ limit c.args.s.sizes c.args.ceiling.c ∷ [] in
    let before0 = none_written parts refl c.requires.c_in_bounds in
    let before1 = let o = rw (counters_over c.args.s.sizes c.args.ceiling.c c.variable_count-first.ensures.0) at c.write_tree-tree.ensures in
    filling_on before0 (omega arith) (o.0, o.2) in
    let w = before1 in search rules

pub write_limit-requires : goal.write_limit-requires
write_limit-requires c =
    let parts : List (List Clause) = counters c.args.s.sizes c.args.ceiling.c ∷ limit c.args.s.sizes c.args.ceiling.c ∷ [] in
    let before0 = none_written parts refl c.requires.c_in_bounds in
    let before1 = let o = rw (counters_over c.args.s.sizes c.args.ceiling.c c.variable_count-first.ensures.0) at c.write_tree-tree.ensures in
    filling_on before0 (omega arith) (o.0, o.2) in
    let r = filling_room before1 (omega arith) in
    simp (length-take, length-drop)
    record { next_value = omega (arith, c.write_tree-tree.ensures.1, c.variable_count-first.ensures.0); c_in_bounds = omega arith }

pub returns : goal.returns
returns c =
    let parts : List (List Clause) = counters c.args.s.sizes c.args.ceiling.c ∷ limit c.args.s.sizes c.args.ceiling.c ∷ [] in
    let before0 = none_written parts refl c.requires.c_in_bounds in
    let before1 = let o = rw (counters_over c.args.s.sizes c.args.ceiling.c c.variable_count-first.ensures.0) at c.write_tree-tree.ensures in
    filling_on before0 (omega arith) (o.0, o.2) in
    all_written parts refl (filling_next before1 (omega arith) c.write_limit.ensures)

pub overflow_add-result : goal.overflow_add-result
overflow_add-result c =
    let parts : List (List Clause) = counters c.args.s.sizes c.args.ceiling.c ∷ limit c.args.s.sizes c.args.ceiling.c ∷ [] in
    let before0 = none_written parts refl c.requires.c_in_bounds in
    let before1 = let o = rw (counters_over c.args.s.sizes c.args.ceiling.c c.variable_count-first.ensures.0) at c.write_tree-tree.ensures in
    filling_on before0 (omega arith) (o.0, o.2) in
    let q = (filling_next before1 (omega arith) c.write_limit.ensures).fits in
    omega arith
