-- `plan_check::second_reason` meets its contract: by the rule. Assumes nothing.
use mathlib.Core.Path.{sym, ◌∙◌}
use Rattle.calls.proofs.Occupied.{number_leaves, number_exchange}
use Rattle.plan_check.proofs.second_reason.Goals as goal

pub returns-then-s-ne2 : goal.returns-then-s-ne2
returns-then-s-ne2 c = c.occupied_reason.ensures ∙ sym (number_leaves _ _ _ _ c.if-s-ne2.true)

pub returns : goal.returns
returns c = sym (number_exchange _ _ _ _ c.if-s-ne2.false)
