-- `satisfaction::fault_f` meets its contract: the first agent that fails condition 1, and its vertex. Assumes nothing.
use mathlib.Core.Path.{refl}
use Rattle.instance.specs.Instance.{joined}
use Rattle.plan.specs.Plan.{plan_row, condition1}
use Rattle.satisfaction.proofs.Truth.{none_row_f, here_row_f}
use Rattle.satisfaction.proofs.fault_f.Goals as goal

pub returns-in_err-a : goal.returns-in_err-a
unfolding condition1
returns-in_err-a c =
    let s = c.args.problem.now.shape.sizes in
    λ es w c'. rw c.from_residual.ensures (none_row_f s es w (plan_row s c.args.p.now) c' (joined c.args.problem.now.near) c.args.t c.requires.1 s.k c.in_err-a.ensures refl)

pub returns : goal.returns
unfolding condition1
returns c =
    let s = c.args.problem.now.shape.sizes in
    let f = c.in_ok-a.ensures in
    λ es w c'. rw (c.from.ensures, c.row_at.ensures.1 c.in_ok-a.a f.0) (here_row_f s es w (plan_row s c.args.p.now) c' (joined c.args.problem.now.near) c.args.t c.requires.1 c.in_ok-a.a f.1 f.0)
