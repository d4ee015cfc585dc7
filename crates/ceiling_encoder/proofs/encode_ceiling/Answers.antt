-- `ceiling_encoder::encode_ceiling` meets its contract: the check decides, or the questions of the plan, or the valuation is written. Assumes nothing.
use mathlib.Core.Path.{◌∙◌, ap}
use native.Mathlib.Omega.{arith}
use Rattle.answers.specs.Returned.{refused}
use Rattle.answers.proofs.Returned.{passed_on}
use Rattle.instance.proofs.Accepted.{shown}
use Rattle.ceiling.specs.Ceiling.{ceiling_variables}
use Rattle.ceiling_size.proofs.Laws.{known}
use Rattle.ceiling_encoder.proofs.Laws.{refuses, asks_no, too_dear, gives}
use Rattle.ceiling_encoder.proofs.encode_ceiling.Goals as goal

pub returns-in_err-problem : goal.returns-in_err-problem
returns-in_err-problem c =
    let a = c.args in
    let (x, w) = refuses a.b.now a.m a.rule a.c a.p.now a.z.now _ c.in_err-problem.ensures.answer in
    record { value = passed_on _ _ c.from_residual.result c.from_residual.ensures.1 x; z_after = w }

pub returns-in_err-ask_encoding : goal.returns-in_err-ask_encoding
returns-in_err-ask_encoding c =
    let a = c.args in
    let ok = c.in_ok-problem in
    let found = ok.ensures.found in
    let (x, w) = asks_no a.b.now a.m a.rule a.c a.p.now a.z.now ok.problem ok.ensures.answer found.0 _ (c.variables-count.ensures.0 ∙ ap (ceiling_variables ok.problem.shape.sizes) found.1) _
    (c.in_err-ask_encoding.ensures.value _ (shown _ _ (known a.b.now a.m a.rule a.c ok.problem ok.ensures.answer found.0))) in
    record { value = passed_on _ _ c.from_residual-in_err-ask_encoding.result c.from_residual-in_err-ask_encoding.ensures.1 x; z_after = w }

pub plan_cost-cost-requires : goal.plan_cost-cost-requires
plan_cost-cost-requires c = c.in_ok-ask_encoding.ensures.p_len.0

pub returns-then-c-cost : goal.returns-then-c-cost
returns-then-c-cost c =
    let a = c.args in
    let ok = c.in_ok-problem in
    let found = ok.ensures.found in
    let (x, w) = too_dear a.b.now a.m a.rule a.c a.p.now a.z.now ok.problem ok.ensures.answer found.0 _ (c.variables-count.ensures.0 ∙ ap (ceiling_variables ok.problem.shape.sizes) found.1)
    (c.in_ok-ask_encoding.ensures.value _ (shown _ _ (known a.b.now a.m a.rule a.c ok.problem ok.ensures.answer found.0))) _ c.plan_cost-cost.ensures _ c.if-c-cost.true (ap refused c.at.ensures) in
    record { value = x; z_after = w }

pub write_all-requires : goal.write_all-requires
write_all-requires c = let (l, r) = c.in_ok-ask_encoding.ensures.p_len in (l, omega (arith, r, c.variables-count.ensures.0))

pub returns : goal.returns
returns c =
    let a = c.args in
    let ok = c.in_ok-problem in
    let found = ok.ensures.found in
    let (x, w) = gives a.b.now a.m a.rule a.c a.p.now a.z.now ok.problem ok.ensures.answer found.0 _ (c.variables-count.ensures.0 ∙ ap (ceiling_variables ok.problem.shape.sizes) found.1)
    (c.in_ok-ask_encoding.ensures.value _ (shown _ _ (known a.b.now a.m a.rule a.c ok.problem ok.ensures.answer found.0))) _ c.plan_cost-cost.ensures (omega arith) in
    record { value = x; z_after = (rw found.1 at c.write_all.ensures) ∙ w }
