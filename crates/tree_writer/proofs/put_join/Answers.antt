-- `tree_writer::put_join` meets its contract: by the cases of the join. Assumes nothing.
use mathlib.Core.Path.{refl, sym}
use native.Mathlib.Omega.{arith}
use mir.Facts.{to_z-of_z}
use borrow.Author.Rules.{rules}
use Rattle.lists.proofs.Slices.{filled_nil}
use Rattle.tree_writer.proofs.Laws.{join_none, join_right, join_left, join_both}
use Rattle.tree_writer.proofs.put_join.Goals as goal

pub put_clause-requires : goal.put_clause-requires
put_clause-requires c = let h = rw (join_right c.args.x c.args.y c.args.z c.args.i c.args.j c.in-0-default.is-0 (omega arith)) at c.requires in search rules

pub put_clause-requires-in_default-eq0 : goal.put_clause-requires-in_default-eq0
put_clause-requires-in_default-eq0 c = let h = rw (join_left c.args.x c.args.y c.args.z c.args.i c.args.j (omega arith) c.in_default-eq0.is-1) at c.requires in search rules

pub put_clause-requires-in_default : goal.put_clause-requires-in_default
put_clause-requires-in_default c = let h = rw (join_both c.args.x c.args.y c.args.z c.args.i c.args.j (omega arith) (omega arith)) at c.requires in search rules

pub returns-in-0-eq0 : goal.returns-in-0-eq0
returns-in-0-eq0 c = rw (join_none c.args.x c.args.y c.args.z c.args.i c.args.j c.in-0-eq0.is-0 c.in-0-eq0.is-1) (refl, sym (filled_nil _))

pub returns-in-0-default : goal.returns-in-0-default
returns-in-0-default c = rw (join_right c.args.x c.args.y c.args.z c.args.i c.args.j c.in-0-default.is-0 (omega arith)) (rw (to_z-of_z c.ranges.y, to_z-of_z c.ranges.z) at c.put_clause.ensures)

pub returns-in_default-eq0 : goal.returns-in_default-eq0
returns-in_default-eq0 c = rw (join_left c.args.x c.args.y c.args.z c.args.i c.args.j (omega arith) c.in_default-eq0.is-1) (rw (to_z-of_z c.ranges.x, to_z-of_z c.ranges.z) at c.put_clause-in_default-eq0.ensures)

pub returns-in_default : goal.returns-in_default
returns-in_default c = rw (join_both c.args.x c.args.y c.args.z c.args.i c.args.j (omega arith) (omega arith)) (rw (to_z-of_z c.ranges.x, to_z-of_z c.ranges.y, to_z-of_z c.ranges.z) at c.put_clause-in_default.ensures)
