-- `encoder::encode` meets its contract: the instance check decides, or the questions of the plan, or the valuation is written. Assumes nothing.
use mathlib.Core.Path.{◌≡◌, ◌∙◌}
use lib.ListN.{length}
use Rattle.answers.specs.Returned.{refused}
use Rattle.answers.proofs.Returned.{passed_on}
use Rattle.instance.proofs.Accepted.{shown}
use Rattle.calls.specs.Calls.{encode_answer}
use Rattle.encoder.proofs.Questions.{known, told, filled_so, left_so, instance_told}
use Rattle.encoder.proofs.encode.Goals as goal
use Rattle.encoder.proofs.encode.Goals.{In_err-ask_encoding, In_ok-ask_encoding}

pub returns-in_err-problem-clause-value : goal.returns-in_err-problem-clause-value
returns-in_err-problem-clause-value c =
    let a = c.args in
    passed_on _ _ c.from_residual.result c.from_residual.ensures.1 (instance_told a.b.now a.m a.rule a.p.now (length a.z.now) _ c.in_err-problem.ensures.answer)

pub returns-in_err-problem-clause-z_after : goal.returns-in_err-problem-clause-z_after
returns-in_err-problem-clause-z_after c =
    let a = c.args in
    let e = c.in_err-problem.field-0.0 in
    left_so a.b.now a.m a.rule a.p.now a.z.now e (instance_told a.b.now a.m a.rule a.p.now (length a.z.now) e c.in_err-problem.ensures.answer)

-- a refusal of the questions
no : (c : In_err-ask_encoding) → refused c.in_err-ask_encoding.field-0.0 ≡ encode_answer c.args.b.now c.args.m c.args.rule c.args.p.now (length c.args.z.now)
no c =
    let a = c.args in
    let ok = c.in_ok-problem.ensures in
    told a.b.now a.m a.rule _ ok.answer ok.problem _ c.variable_count-count.ensures.0 a.p.now a.z.now _ (c.in_err-ask_encoding.ensures.value _ (shown _ _ (known a.b.now a.m a.rule _ ok.answer ok.problem _ c.variable_count-count.ensures.0 a.p.now a.z.now)))

pub returns-in_err-ask_encoding-clause-value : goal.returns-in_err-ask_encoding-clause-value
returns-in_err-ask_encoding-clause-value c =
    passed_on _ _ c.from_residual-in_err-ask_encoding.result c.from_residual-in_err-ask_encoding.ensures.1 (no (goal.at.returns-in_err-ask_encoding-clause-value c).In_err-ask_encoding)

pub returns-in_err-ask_encoding-clause-z_after : goal.returns-in_err-ask_encoding-clause-z_after
returns-in_err-ask_encoding-clause-z_after c =
    let a = c.args in
    left_so a.b.now a.m a.rule a.p.now a.z.now _ (no (goal.at.returns-in_err-ask_encoding-clause-z_after c).In_err-ask_encoding)

pub returns-clause-value : goal.returns-clause-value
returns-clause-value c =
    let a = c.args in
    let ok = c.in_ok-problem.ensures in
    told a.b.now a.m a.rule _ ok.answer ok.problem _ c.variable_count-count.ensures.0 a.p.now a.z.now _ (c.in_ok-ask_encoding.ensures.value _ (shown _ _ (known a.b.now a.m a.rule _ ok.answer ok.problem _ c.variable_count-count.ensures.0 a.p.now a.z.now)))

pub returns-clause-z_after : goal.returns-clause-z_after
returns-clause-z_after c =
    let a = c.args in
    let ok = c.in_ok-problem.ensures in
    c.write_valuation.ensures
    ∙ filled_so a.b.now a.m a.rule _ ok.answer ok.problem _ c.variable_count-count.ensures.0 a.p.now a.z.now (c.in_ok-ask_encoding.ensures.value _ (shown _ _ (known a.b.now a.m a.rule _ ok.answer ok.problem _ c.variable_count-count.ensures.0 a.p.now a.z.now)))
