-- `solver_lines::read_values` meets its contract. Assumes nothing.
use Rattle.std.proofs.Common.{sym, ◌∙◌, ap, arith, eqb-true, is_some}
use Rattle.solver_lines.proofs.LineTokens.{values_wrong, values_zero, values_last, values_next, values_more, marks_last, marks_more, token_most, token_later, some_then}
use Rattle.solver_lines.proofs.read_values.Goals as goal

pub returns-in_err-t-clause-value : goal.returns-in_err-t-clause-value
returns-in_err-t-clause-value c = c.from_residual.ensures ∙ values_wrong c.args.text.now c.args.n c.loop-t.at c.in_err-t.ensures ∙ c.loop-t.invariant.same

pub mark_literal-requires : goal.mark_literal-requires
mark_literal-requires c = omega (arith, token_most c.args.text.now c.args.n c.loop-t.at c.in_ok-t.t c.in_ok-t.ensures)

pub returns-then-t-eq0-clause-value : goal.returns-then-t-eq0-clause-value
returns-then-t-eq0-clause-value c =
    c.then_some.ensures
    ∙ values_zero c.args.text.now c.args.n c.loop-t.at c.in_ok-t.t c.in_ok-t.ensures c.byte_at-next.result c.byte_at-next.ensures c.if-t-eq0.true
    ∙ c.loop-t.invariant.same

pub returns-then-t-eq0-clause-marks_after : goal.returns-then-t-eq0-clause-marks_after
returns-then-t-eq0-clause-marks_after c = λ s.
    let e = eqb-true c.byte_at-next.result 10 (some_then _ _ (ap is_some (sym c.then_some.ensures) ∙ s)) in
    marks_last c.args.text.now c.args.n c.loop-t.at c.in_ok-t.t c.in_ok-t.ensures c.loop-t.marks c.mark_literal.new.marks c.mark_literal.ensures (sym c.byte_at-next.ensures ∙ e)
    ∙ c.loop-t.invariant.marks

pub returns-then-next-eq10-clause-value : goal.returns-then-next-eq10-clause-value
returns-then-next-eq10-clause-value c =
    values_last c.args.text.now c.args.n c.loop-t.at c.in_ok-t.t c.in_ok-t.ensures c.byte_at-next.result c.byte_at-next.ensures c.if-t-eq0.false c.if-next-eq10.true
    ∙ c.loop-t.invariant.same

pub returns-then-next-eq10-clause-marks_after : goal.returns-then-next-eq10-clause-marks_after
returns-then-next-eq10-clause-marks_after c = λ s.
    marks_last c.args.text.now c.args.n c.loop-t.at c.in_ok-t.t c.in_ok-t.ensures c.loop-t.marks c.mark_literal.new.marks c.mark_literal.ensures (sym c.byte_at-next.ensures ∙ c.if-next-eq10.true)
    ∙ c.loop-t.invariant.marks

pub loop-t-smaller : goal.loop-t-smaller
loop-t-smaller c =
    omega (
      arith,
      values_next c.args.text.now c.args.n c.loop-t.at c.in_ok-t.t c.in_ok-t.ensures c.byte_at-next.result c.byte_at-next.ensures c.if-t-eq0.false c.if-next-eq10.false,
      token_later c.args.text.now c.args.n c.loop-t.at c.in_ok-t.t c.in_ok-t.ensures,
    )

pub loop-t-preserved : goal.loop-t-preserved
loop-t-preserved c =
    record {
      inside = omega (arith, values_next c.args.text.now c.args.n c.loop-t.at c.in_ok-t.t c.in_ok-t.ensures c.byte_at-next.result c.byte_at-next.ensures c.if-t-eq0.false c.if-next-eq10.false);
      same = values_more c.args.text.now c.args.n c.loop-t.at c.in_ok-t.t c.in_ok-t.ensures c.byte_at-next.result c.byte_at-next.ensures c.if-t-eq0.false c.if-next-eq10.false ∙ c.loop-t.invariant.same;
      marks = marks_more c.args.text.now c.args.n c.loop-t.at c.in_ok-t.t c.in_ok-t.ensures c.loop-t.marks c.mark_literal.new.marks c.mark_literal.ensures (λ e. c.if-next-eq10.false (c.byte_at-next.ensures ∙ e)) ∙ c.loop-t.invariant.marks;
    }
