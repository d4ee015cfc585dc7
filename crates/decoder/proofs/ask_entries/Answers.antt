-- `decoder::ask_entries` meets its contract: each question is answered in its order, by the law of that name; what is read is the plan named. Assumes nothing.
use mathlib.Core.Path.{sym, ◌∙◌, ap}
use native.Mathlib.Nat.{le_refl}
use native.Mathlib.Omega.{arith}
use Rattle.std.specs.Prelude.{None, Some}
use Rattle.std.specs.Option.{is_some}
use Rattle.answers.specs.declared.Answer.{Answer}
use Rattle.answers.specs.Returned.{refused}
use Rattle.formula.specs.Variables.{variable_count}
use Rattle.formula.specs.Formula.{formula}
use Rattle.satisfaction.proofs.Families.{whole}
use Rattle.decoder.proofs.Laws.{stop_14, stop_15, stop_23, stop_24, pass_24, accepted, planned}
use Rattle.decoder.proofs.ask_entries.Goals as goal

pub returns-then-len-variable_count-clause-value : goal.returns-then-len-variable_count-clause-value
returns-then-len-variable_count-clause-value c =
    let s = c.args.problem.now.shape.sizes in
    λ I g h. (
      ap refused c.at.ensures ∙ stop_14 I (formula I) s g.graph.sizes c.args.entries.now c.args.size (variable_count s) (ap variable_count g.graph.sizes) (λ e. c.if-len-variable_count.true (e ∙ sym c.variable_count.ensures.0)),
      tt,
    )

pub returns-then-size-bytes-clause-value : goal.returns-then-size-bytes-clause-value
returns-then-size-bytes-clause-value c =
    let s = c.args.problem.now.shape.sizes in
    let long = c.if-len-variable_count.false ∙ c.variable_count.ensures.0 in
    λ I g h. (
      rw (c.at-then-size-bytes.ensures, c.plan_bytes-bytes.ensures.0)
          (stop_15 I (formula I) s g.graph.sizes c.args.entries.now c.args.size (variable_count s) (ap variable_count g.graph.sizes) long (omega (arith, c.plan_bytes-bytes.ensures.0, c.if-size-bytes.true))),
      tt,
    )

pub returns-in-Some-clause-value : goal.returns-in-Some-clause-value
returns-in-Some-clause-value c =
    let s = c.args.problem.now.shape.sizes in
    let long = c.if-len-variable_count.false ∙ c.variable_count.ensures.0 in
    let first = rw c.in-Some.is at c.read_entries.ensures.first_wrong in
    λ I g h. (
      ap refused c.at-in-Some.ensures
          ∙ stop_23 I (formula I) s g.graph.sizes c.args.entries.now c.args.size (variable_count s) (ap variable_count g.graph.sizes) long (omega (arith, c.plan_bytes-bytes.ensures.0, c.if-size-bytes.false)) c.in-Some.wrong first.1 first.0,
      tt,
    )

pub returns-in-Some-clause_fault-clause-value : goal.returns-in-Some-clause_fault-clause-value
returns-in-Some-clause_fault-clause-value c =
    let p = c.args.problem.now in
    let s = p.shape.sizes in
    let long = c.if-len-variable_count.false ∙ c.variable_count.ensures.0 in
    λ I g h. (
      ap refused c.at-in-Some-clause_fault.ensures
          ∙ stop_24 I (formula I) s g.graph.sizes c.args.entries.now c.args.size (variable_count s) (ap variable_count g.graph.sizes) long (omega (arith, c.plan_bytes-bytes.ensures.0, c.if-size-bytes.false)) (variable_count s) c.in_default.ensures.first_wrong (le_refl _)
          c.in-Some-clause_fault.fault
          (whole I s p.starts p.goals p.near g h c.args.entries.now (Some c.in-Some-clause_fault.fault) c.in-Some-clause_fault.ensures),
      tt,
    )

pub returns-clause-value : goal.returns-clause-value
returns-clause-value c =
    let p = c.args.problem.now in
    let s = p.shape.sizes in
    let long = c.if-len-variable_count.false ∙ c.variable_count.ensures.0 in
    λ I g h.
    let q =
    pass_24 I (formula I) s g.graph.sizes c.args.entries.now c.args.size (variable_count s) (ap variable_count g.graph.sizes) long (omega (arith, c.plan_bytes-bytes.ensures.0, c.if-size-bytes.false)) (variable_count s) c.in_default.ensures.first_wrong (le_refl _)
    (whole I s p.starts p.goals p.near g h c.args.entries.now None c.in_default-clause_fault.ensures) in
    let y = accepted I (formula I) s g.graph.sizes c.args.entries.now c.args.size (sym (ap (λ (x : Answer). x.number) q)) in
    (rw c.plan_bytes-bytes.ensures.0 q, (c.plan_bytes-bytes.ensures.0, planned I s g.graph.sizes c.args.entries.now y.satisfies _ (c.read_entries.ensures.read (ap is_some c.in_default.is))))
