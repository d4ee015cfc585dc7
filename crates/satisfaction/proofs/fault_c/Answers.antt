-- `satisfaction::fault_c` meets its contract: the byte n stands where no vertex is. Assumes nothing.
use native.Mathlib.Omega.{arith}
use Rattle.plan.specs.Plan.{plan_row}
use Rattle.satisfaction.proofs.Steps.{on_row}
use Rattle.satisfaction.proofs.Truth.{in_C}
use Rattle.satisfaction.proofs.fault_c.Goals as goal

pub returns : goal.returns
returns c =
    let s = c.args.s.sizes in
    λ es rd. in_C s es rd.valid c.args.p.now rd c.args.t (omega (arith, c.requires.1)) c.first_on.result
    (on_row s.k c.row_at.result.now (plan_row s c.args.p.now c.args.t) c.row_at.ensures s.n c.first_on.result c.first_on.ensures)
