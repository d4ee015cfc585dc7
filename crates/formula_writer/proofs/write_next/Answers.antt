-- `formula_writer::write_next` meets its contract: what a call on the part from `at` on writes stands behind the first `at` words.
-- Assumes nothing.
use native.Mathlib.Omega.{arith}
use lib.ListN.{length-take, length-drop}
use Rattle.lists.proofs.Slices.{filled_behind}
use Rattle.formula_writer.proofs.write_next.Goals as goal

pub write_family-requires : goal.write_family-requires
write_family-requires c = simp (length-take, length-drop) (omega arith)

pub returns : goal.returns
returns c = filled_behind c.args.f.now _ _ c.args.at (omega arith) c.write_family.ensures

pub overflow_add-result : goal.overflow_add-result
overflow_add-result c = omega (arith, c.write_family.ensures.0)
