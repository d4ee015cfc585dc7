-- `EdgeBytes::refusal` meets its contract by the first edge that fails. Assumes nothing.
use mathlib.Core.Path.{◌≡◌, sym, ◌∙◌, ap, subst}
use Prim.Native.Nat.{suc, ◌+◌, ◌-◌}
use native.Mathlib.Omega.{arith}
use Rattle.answers.specs.Answers.{refuse}
use Rattle.answers.specs.Returned.{refused}
use Rattle.answers.specs.Fault.{FirstFailing}
use Rattle.answers.proofs.Laws.{fault_pass, fault_stop}
use Rattle.instance.specs.Instance.{edges}
use Rattle.instance.specs.Questions.{later_edge}
use Rattle.instance_check.proofs.Laws.{order_fails}
use Rattle.instance_check.proofs.edge_bytes.EdgeBytes.refusal.Goals as goal

pub returns-in-Some : goal.returns-in-Some
returns-in-Some c = λ later. let (l, f) = c.in-Some.ensures in ap refused c.at.ensures ∙ sym (fault_stop f _ _ _ l)

pub unwrap-requires : goal.unwrap-requires
unwrap-requires c = order_fails _ _ _ _ c.requires c.in_default.ensures _ c.first_unordered.ensures

pub returns : goal.returns
returns c = λ later.
    let i = c.unwrap.result in
    let at : 5 + i ≡ 4 + suc i = omega arith in
    let (l, f) = subst (FirstFailing (edges c.args.self.now.b.now - 1) (λ i. later_edge c.args.self.now.b.now (suc i) i)) c.unwrap.ensures c.first_unordered.ensures in
    ap refused c.at-2.ensures
    ∙ ap (refuse 7) at
    ∙ sym (fault_pass c.in_default.ensures _ _ _ (omega arith) ∙ fault_stop f _ _ _ l)
