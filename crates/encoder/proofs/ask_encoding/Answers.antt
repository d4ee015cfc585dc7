-- `encoder::ask_encoding` meets its contract: each question is answered in its order, by the law of that name. Assumes nothing.
use mathlib.Core.Path.{sym, ◌∙◌, ap}
use Rattle.answers.specs.Returned.{refused}
use Rattle.encoder.proofs.Questions.{stop_13, stop_16, plan_told}
use Rattle.encoder.proofs.ask_encoding.Goals as goal

pub returns-then-p-plan_bytes-clause-value : goal.returns-then-p-plan_bytes-clause-value
returns-then-p-plan_bytes-clause-value c =
    λ I g.
    ap refused c.at.ensures
    ∙ stop_13 I c.args.s.sizes g.graph.sizes c.args.count c.args.p.now c.args.size (λ e. c.if-p-plan_bytes.true (e ∙ sym c.plan_bytes.ensures.0))

pub returns-then-size-count-clause-value : goal.returns-then-size-count-clause-value
returns-then-size-count-clause-value c =
    λ I g.
    ap refused c.at-then-size-count.ensures
    ∙ stop_16 I c.args.s.sizes g.graph.sizes c.args.count c.args.p.now c.args.size (c.if-p-plan_bytes.false ∙ c.plan_bytes.ensures.0) c.if-size-count.true

pub returns-clause-value : goal.returns-clause-value
returns-clause-value c =
    λ I g.
    plan_told I c.args.s.sizes g.graph.sizes c.args.count c.args.p.now c.args.size (c.if-p-plan_bytes.false ∙ c.plan_bytes.ensures.0) c.if-size-count.false _ (c.ask_plan.ensures I g)
