-- `solver_lines::mark_literal` meets its contract. Assumes nothing.
use Rattle.std.proofs.Common.{set, ◌-◌, ap, ◌∙◌}
use Rattle.solver_lines.proofs.LineTokens.{mark_none, mark_some}
use Rattle.solver_lines.proofs.mark_literal.Goals as goal

pub returns-then-size-eq0 : goal.returns-then-size-eq0
returns-then-size-eq0 c = mark_none c.args.marks.now c.args.negative c.args.size c.if-size-eq0.true

pub returns : goal.returns
returns c = ap (set c.args.marks.now (c.args.size - 1)) c.mark_after.ensures ∙ mark_some c.args.marks.now c.args.negative c.args.size c.if-size-eq0.false
