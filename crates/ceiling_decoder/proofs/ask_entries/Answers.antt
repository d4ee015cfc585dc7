-- `ceiling_decoder::ask_entries` meets its contract: each question is answered in its order, by the law of that name; what is read is the plan named. Assumes nothing.
use mathlib.Core.Path.{◌≡◌, sym, ◌∙◌, ap, subst}
use Prim.Native.Nat.{ℕ}
use native.Mathlib.Nat.{le_refl}
use native.Mathlib.Omega.{arith}
use Rattle.std.specs.Prelude.{None, Some}
use Rattle.std.specs.Option.{is_some}
use Rattle.answers.specs.declared.Answer.{Answer}
use Rattle.answers.specs.Returned.{refused}
use Rattle.answers.specs.Fault.{FirstFailing}
use Rattle.instance.specs.declared.Sizes.{Sizes}
use Rattle.valuation.specs.Valuation.{right_entry}
use Rattle.ceiling.specs.Ceiling.{ceiling_variables, under_ceiling}
use Rattle.decoder.proofs.Laws.{stop_14, stop_15, stop_23, stop_24, pass_24, accepted}
use Rattle.ceiling_decoder.proofs.Laws.{all_right, base_holds, plan_read}
use Rattle.ceiling_decoder.proofs.ask_entries.Goals as goal

-- all variables are those of the formula
abbrev same_count : (c : ℕ) {s t : Sizes} → s ≡ t → ceiling_variables s c ≡ ceiling_variables t c
same_count c e = ap (λ (s : Sizes). ceiling_variables s c) e

pub returns-then-len-variables-clause-value : goal.returns-then-len-variables-clause-value
returns-then-len-variables-clause-value c =
    let s = c.args.problem.now.shape.sizes in
    let k = c.args.ceiling.c in
    λ I g e h. (
      ap refused c.at.ensures ∙ stop_14 I (under_ceiling k I) s g.graph.sizes c.args.entries.now c.args.size (ceiling_variables s k) (same_count k g.graph.sizes) (λ z. c.if-len-variables.true (z ∙ sym c.variables.ensures.0)),
      tt,
    )

pub returns-then-size-bytes-clause-value : goal.returns-then-size-bytes-clause-value
returns-then-size-bytes-clause-value c =
    let s = c.args.problem.now.shape.sizes in
    let k = c.args.ceiling.c in
    let long = c.if-len-variables.false ∙ c.variables.ensures.0 in
    λ I g e h. (
      rw (c.at-then-size-bytes.ensures, c.plan_bytes-bytes.ensures.0)
          (stop_15 I (under_ceiling k I) s g.graph.sizes c.args.entries.now c.args.size (ceiling_variables s k) (same_count k g.graph.sizes) long (omega (arith, c.plan_bytes-bytes.ensures.0, c.if-size-bytes.true))),
      tt,
    )

pub entry_fault-requires : goal.entry_fault-requires
unfolding ceiling_variables
entry_fault-requires c =
    let long = c.if-len-variables.false ∙ c.variables.ensures.0 in
    (omega arith, omega (arith, c.if-len-variables.false, c.variables.ensures.1), c.requires.vertices_len)

-- `first`: the first wrong entry of so many
pub returns-in-Some-clause-value : goal.returns-in-Some-clause-value
returns-in-Some-clause-value c =
    let s = c.args.problem.now.shape.sizes in
    let k = c.args.ceiling.c in
    let long = c.if-len-variables.false ∙ c.variables.ensures.0 in
    let first = subst (λ (n : ℕ). FirstFailing n (right_entry c.args.entries.now) (Some c.in-Some.wrong)) long (rw c.in-Some.is at c.entry_fault.ensures.first_wrong) in
    λ I g e h. (
      ap refused c.at-in-Some.ensures
          ∙ stop_23 I (under_ceiling k I) s g.graph.sizes c.args.entries.now c.args.size (ceiling_variables s k) (same_count k g.graph.sizes) long (omega (arith, c.plan_bytes-bytes.ensures.0, c.if-size-bytes.false)) c.in-Some.wrong first.1 first.0,
      tt,
    )

pub returns-in-Some-clause_fault-clause-value : goal.returns-in-Some-clause_fault-clause-value
returns-in-Some-clause_fault-clause-value c =
    let s = c.args.problem.now.shape.sizes in
    let k = c.args.ceiling.c in
    let long = c.if-len-variables.false ∙ c.variables.ensures.0 in
    let none = subst (λ (n : ℕ). FirstFailing n (right_entry c.args.entries.now) None) long c.in_default.ensures.first_wrong in
    λ I g e h. (
      ap refused c.at-in-Some-clause_fault.ensures
          ∙ stop_24 I (under_ceiling k I) s g.graph.sizes c.args.entries.now c.args.size (ceiling_variables s k) (same_count k g.graph.sizes) long (omega (arith, c.plan_bytes-bytes.ensures.0, c.if-size-bytes.false)) (ceiling_variables s k) none (le_refl _)
          c.in-Some-clause_fault.fault (rw c.in-Some-clause_fault.is at (c.clause_fault.ensures I g e h)),
      tt,
    )

pub returns-clause-value : goal.returns-clause-value
returns-clause-value c =
    let s = c.args.problem.now.shape.sizes in
    let k = c.args.ceiling.c in
    let es = c.args.entries.now in
    let long = c.if-len-variables.false ∙ c.variables.ensures.0 in
    let none = subst (λ (n : ℕ). FirstFailing n (right_entry es) None) long c.in_default.ensures.first_wrong in
    let valid = all_right es (ceiling_variables s k) long none in
    λ I g e h.
    let q =
    pass_24 I (under_ceiling k I) s g.graph.sizes es c.args.size (ceiling_variables s k) (same_count k g.graph.sizes) long (omega (arith, c.plan_bytes-bytes.ensures.0, c.if-size-bytes.false)) (ceiling_variables s k) none (le_refl _)
    (rw c.in_default-clause_fault.is at (c.clause_fault.ensures I g e h)) in
    let y = accepted I (under_ceiling k I) s g.graph.sizes es c.args.size (sym (ap (λ (x : Answer). x.number) q)) in (
      rw c.plan_bytes-bytes.ensures.0 q,
      (
        c.plan_bytes-bytes.ensures.0,
        plan_read I s g.graph.sizes e h k es valid (base_holds I s g.graph.sizes e h k es valid y.satisfies) _ (c.entry_fault.ensures.read (ap is_some c.in_default.is)),
      ),
    )
