-- `satisfaction::family_g::fault_g` meets its contract: the rule chooses the blocks. Assumes nothing.
use mathlib.Core.Path.{sym, subst}
use mathlib.Core.List.{List}
use Rattle.instance.specs.Instance.{joined}
use Rattle.formula.specs.Formula.{Clause}
use Rattle.satisfaction.specs.Rows.{Failing}
use Rattle.satisfaction.proofs.Families.{one_G, two_G}
use Rattle.satisfaction.proofs.family_g.fault_g.Goals as goal

pub returns-then-problem-eq2 : goal.returns-then-problem-eq2
returns-then-problem-eq2 c =
    let p = c.args.problem.now in
    let e = two_G p.shape.sizes (joined p.near) c.args.t c.if-problem-eq2.true in
    λ es w c'. subst (λ (L : List Clause). Failing es L c.fault_exchange.result) (sym e) (c.fault_exchange.ensures es w c')

pub returns : goal.returns
returns c =
    let p = c.args.problem.now in
    let e = one_G p.shape.sizes (joined p.near) c.args.t c.if-problem-eq2.false in
    λ es w c'. subst (λ (L : List Clause). Failing es L c.fault_following.result) (sym e) (c.fault_following.ensures es w c')
