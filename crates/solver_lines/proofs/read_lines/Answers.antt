-- `solver_lines::read_lines` meets its contract. Assumes nothing.
use Rattle.std.proofs.Common.{sym, ◌∙◌, ap, arith, refl, ◌∷◌}
use Rattle.answers.specs.Answers.{Question, decide}
use Rattle.solver_lines.proofs.TextLines.{all_lines, line_room, line_none, marks_none, line_c, marks_c, end_is, first_wrong, next_line, none_wrong, none_said, none_marked}
use Rattle.solver_lines.proofs.read_lines.Goals as goal

pub loop-at-init : goal.loop-at-init
loop-at-init c = let e = all_lines c.args.text.now in record { wrong = rw e; says = rw e; marks = rw e }

pub returns-in_default-read_line-clause-value : goal.returns-in_default-read_line-clause-value
returns-in_default-read_line-clause-value c = λ qs d.
    ap (λ (q : Question). decide (q ∷ qs) d) (sym c.loop-at.invariant.wrong)
    ∙ first_wrong c.args.text.now c.args.n c.loop-at.at c.loop-at.said c.loop-at-test.true c.in_default-read_line.ensures.value qs d

pub overflow_add-at-in-99 : goal.overflow_add-at-in-99
overflow_add-at-in-99 c = omega (arith, c.line_end-at.ensures, line_room c.args.text.now c.loop-at.at c.loop-at-test.true)

pub overflow_add-at-in_default : goal.overflow_add-at-in_default
overflow_add-at-in_default c =
    omega (arith, end_is c.args.text.now c.args.n c.loop-at.at c.loop-at.said c.loop-at-test.true c.in-Some.l c.in-Some.ensures.value, line_room c.args.text.now c.loop-at.at c.loop-at-test.true)

pub loop-at-smaller : goal.loop-at-smaller
loop-at-smaller c = omega (arith, end_is c.args.text.now c.args.n c.loop-at.at c.loop-at.said c.loop-at-test.true c.in-Some.l c.in-Some.ensures.value)

pub loop-at-preserved-in-10 : goal.loop-at-preserved-in-10
loop-at-preserved-in-10 c =
    let z = sym c.byte_at.ensures ∙ c.in-10.is in
    let (w, s, m) = next_line c.args.text.now c.args.n c.loop-at.at c.loop-at.said c.loop-at-test.true _ (line_none c.args.text.now c.args.n c.loop-at.at c.loop-at.said z)
    c.loop-at.marks c.loop-at.marks (marks_none c.args.text.now c.args.n c.loop-at.at c.loop-at.said c.loop-at.marks z) in
    record { wrong = w ∙ c.loop-at.invariant.wrong; says = s ∙ c.loop-at.invariant.says; marks = m ∙ c.loop-at.invariant.marks }

pub loop-at-preserved-in-99 : goal.loop-at-preserved-in-99
loop-at-preserved-in-99 c =
    let z = sym c.byte_at.ensures ∙ c.in-99.is in
    let (w, s, m) = next_line c.args.text.now c.args.n c.loop-at.at c.loop-at.said c.loop-at-test.true _ (line_c c.args.text.now c.args.n c.loop-at.at c.loop-at.said c.line_end-at.result c.line_end-at.ensures z)
    c.loop-at.marks c.loop-at.marks (marks_c c.args.text.now c.args.n c.loop-at.at c.loop-at.said c.loop-at.marks z) in
    record { wrong = w ∙ c.loop-at.invariant.wrong; says = s ∙ c.loop-at.invariant.says; marks = m ∙ c.loop-at.invariant.marks }

pub loop-at-preserved : goal.loop-at-preserved
loop-at-preserved c =
    let (w, s, m) = next_line c.args.text.now c.args.n c.loop-at.at c.loop-at.said c.loop-at-test.true c.in-Some.l c.in-Some.ensures.value
    c.loop-at.marks c.read_line.new.marks (c.in-Some.ensures.marks_after refl) in
    record { wrong = w ∙ c.loop-at.invariant.wrong; says = s ∙ c.loop-at.invariant.says; marks = m ∙ c.loop-at.invariant.marks }

pub returns-clause-value : goal.returns-clause-value
returns-clause-value c = (
  sym c.loop-at.invariant.wrong ∙ none_wrong c.args.text.now c.args.n c.loop-at.at c.loop-at.said (omega arith),
  sym (none_said c.args.text.now c.args.n c.loop-at.at c.loop-at.said (omega arith)) ∙ c.loop-at.invariant.says,
)

pub returns-clause-marks_after : goal.returns-clause-marks_after
returns-clause-marks_after c = λ s. sym (none_marked c.args.text.now c.args.n c.loop-at.at c.loop-at.said c.loop-at.marks (omega arith)) ∙ c.loop-at.invariant.marks
