-- `added_writer::write_added` meets its contract: each call writes its part behind those before it. Assumes nothing.
use mathlib.Core.Path.{sym}
use native.Mathlib.Omega.{arith}
use borrow.Author.Rules.{rules}
use lib.ListN.{length-take, length-drop}
use Rattle.lists.proofs.Slices.{filled_nil, filling_room, filling_on, filling_next}
use Rattle.tree_writer.proofs.Laws.{none_written, all_written}
use Rattle.added_writer.proofs.Laws.{added_parts, added_whole, added_none}
use Rattle.added_writer.proofs.write_added.Goals as goal

pub returns-then-s-eq0 : goal.returns-then-s-eq0
returns-then-s-eq0 c = rw (added_none c.args.s.sizes c.args.ceiling.c c.if-s-eq0.true) (sym (filled_nil _))

pub write_moves-moved-requires : goal.write_moves-moved-requires
write_moves-moved-requires c =
    let before0 = none_written (added_parts c.args.s.sizes c.args.ceiling.c) (added_whole c.args.s.sizes c.args.ceiling.c) c.requires in
    let r = filling_room before0 (omega arith) in omega arith

pub offset_bounds-f-moved : goal.offset_bounds-f-moved
offset_bounds-f-moved c =
    let before0 = none_written (added_parts c.args.s.sizes c.args.ceiling.c) (added_whole c.args.s.sizes c.args.ceiling.c) c.requires in
    let before1 = filling_on before0 (omega arith) c.write_moves-moved.ensures in
    let w = before1 in search rules

pub slice_bounds-write_chain-count : goal.slice_bounds-write_chain-count
slice_bounds-write_chain-count c =
    let before0 = none_written (added_parts c.args.s.sizes c.args.ceiling.c) (added_whole c.args.s.sizes c.args.ceiling.c) c.requires in
    let before1 = filling_on before0 (omega arith) c.write_moves-moved.ensures in
    let w = before1 in search rules

pub slice_bounds-write_chain-start : goal.slice_bounds-write_chain-start
slice_bounds-write_chain-start c =
    let before0 = none_written (added_parts c.args.s.sizes c.args.ceiling.c) (added_whole c.args.s.sizes c.args.ceiling.c) c.requires in
    let before1 = filling_on before0 (omega arith) c.write_moves-moved.ensures in
    let w = before1 in search rules

pub write_chain-requires : goal.write_chain-requires
write_chain-requires c =
    let before0 = none_written (added_parts c.args.s.sizes c.args.ceiling.c) (added_whole c.args.s.sizes c.args.ceiling.c) c.requires in
    let before1 = filling_on before0 (omega arith) c.write_moves-moved.ensures in
    let r = filling_room before1 (omega arith) in
    simp (length-take, length-drop) record { m_nonzero = omega (arith, c.if-s-eq0.false); s_in_bounds = omega arith }

pub overflow_add-chained : goal.overflow_add-chained
overflow_add-chained c =
    let before0 = none_written (added_parts c.args.s.sizes c.args.ceiling.c) (added_whole c.args.s.sizes c.args.ceiling.c) c.requires in
    let before1 = filling_on before0 (omega arith) c.write_moves-moved.ensures in
    let before2 = filling_next before1 (omega arith) c.write_chain.ensures in
    let w = before2 in search rules

pub offset_bounds-f-chained : goal.offset_bounds-f-chained
offset_bounds-f-chained c =
    let before0 = none_written (added_parts c.args.s.sizes c.args.ceiling.c) (added_whole c.args.s.sizes c.args.ceiling.c) c.requires in
    let before1 = filling_on before0 (omega arith) c.write_moves-moved.ensures in
    let before2 = filling_next before1 (omega arith) c.write_chain.ensures in
    let w = before2 in search rules

pub slice_bounds-write_counters-count : goal.slice_bounds-write_counters-count
slice_bounds-write_counters-count c =
    let before0 = none_written (added_parts c.args.s.sizes c.args.ceiling.c) (added_whole c.args.s.sizes c.args.ceiling.c) c.requires in
    let before1 = filling_on before0 (omega arith) c.write_moves-moved.ensures in
    let before2 = filling_next before1 (omega arith) c.write_chain.ensures in
    let w = before2 in search rules

pub slice_bounds-write_counters-start : goal.slice_bounds-write_counters-start
slice_bounds-write_counters-start c =
    let before0 = none_written (added_parts c.args.s.sizes c.args.ceiling.c) (added_whole c.args.s.sizes c.args.ceiling.c) c.requires in
    let before1 = filling_on before0 (omega arith) c.write_moves-moved.ensures in
    let before2 = filling_next before1 (omega arith) c.write_chain.ensures in
    let w = before2 in search rules

pub write_counters-requires : goal.write_counters-requires
write_counters-requires c =
    let before0 = none_written (added_parts c.args.s.sizes c.args.ceiling.c) (added_whole c.args.s.sizes c.args.ceiling.c) c.requires in
    let before1 = filling_on before0 (omega arith) c.write_moves-moved.ensures in
    let before2 = filling_next before1 (omega arith) c.write_chain.ensures in
    let r = filling_room before2 (omega arith) in
    simp (length-take, length-drop) record { m_nonzero = omega (arith, c.if-s-eq0.false); c_in_bounds = omega arith }

pub returns : goal.returns
returns c =
    let before0 = none_written (added_parts c.args.s.sizes c.args.ceiling.c) (added_whole c.args.s.sizes c.args.ceiling.c) c.requires in
    let before1 = filling_on before0 (omega arith) c.write_moves-moved.ensures in
    let before2 = filling_next before1 (omega arith) c.write_chain.ensures in
    (all_written (added_parts c.args.s.sizes c.args.ceiling.c) (added_whole c.args.s.sizes c.args.ceiling.c)
    (filling_next before2 (omega arith) c.write_counters.ensures)).1
