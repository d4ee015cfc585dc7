-- `solver_lines::read_v_line` meets its contract. Assumes nothing.
use Rattle.std.proofs.Common.{sym, ◌∙◌, ap}
use Rattle.solver_lines.specs.Lines.{marked}
use Rattle.solver_lines.proofs.TextLines.{line_v_other, line_v_ended, line_v_wrong, line_v, marks_v}
use Rattle.solver_lines.proofs.read_v_line.Goals as goal

pub returns-then-next-ne32-clause-value : goal.returns-then-next-ne32-clause-value
returns-then-next-ne32-clause-value c = line_v_other c.args.text.now c.args.n c.args.from c.args.said c.requires.0 c.byte_at-next.result c.byte_at-next.ensures c.if-next-ne32.true

pub returns-then-said-clause-value : goal.returns-then-said-clause-value
returns-then-said-clause-value c = line_v_ended c.args.text.now c.args.n c.args.from c.args.said c.requires.0 c.byte_at-next.result c.byte_at-next.ensures c.if-next-ne32.false c.if-said.true

pub returns-in_err-v-clause-value : goal.returns-in_err-v-clause-value
returns-in_err-v-clause-value c =
    c.from_residual.ensures
    ∙ line_v_wrong c.args.text.now c.args.n c.args.from c.args.said c.requires.0 c.byte_at-next.result c.byte_at-next.ensures c.if-next-ne32.false c.if-said.false c.in_err-v.ensures.value

pub returns-clause-value : goal.returns-clause-value
returns-clause-value c = line_v c.args.text.now c.args.n c.args.from c.args.said c.requires.0 c.byte_at-next.result c.byte_at-next.ensures c.if-next-ne32.false c.if-said.false c.in_ok-v.v c.in_ok-v.ensures.value

pub returns-clause-marks_after : goal.returns-clause-marks_after
returns-clause-marks_after c = λ s.
    c.in_ok-v.ensures.marks_after s
    ∙ ap (marked c.args.marks.now) (sym (marks_v c.args.text.now c.args.n c.args.from c.args.said c.requires.0 c.byte_at-next.result c.byte_at-next.ensures c.if-next-ne32.false))
