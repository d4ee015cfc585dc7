-- `distance_table::goal_row` meets its contract. Assumes nothing.
use mathlib.Core.Path.{sym, ◌∙◌}
use lib.ListN.{get_or}
use Rattle.instance.proofs.Goals.{told_goal}
use Rattle.distance_table.proofs.goal_row.Goals as goal

pub returns-then-is_free : goal.returns-then-is_free
returns-then-is_free c = rw (sym c.is_free.ensures ∙ c.if-is_free.true)

pub row_for-requires : goal.row_for-requires
row_for-requires c = (c.requires.0, c.requires.1 (told_goal (get_or c.args.goals.now c.args.a 0) c.is_free.ensures c.if-is_free.false))

pub returns : goal.returns
returns c = rw (sym c.is_free.ensures ∙ c.if-is_free.false) c.row_for.ensures
