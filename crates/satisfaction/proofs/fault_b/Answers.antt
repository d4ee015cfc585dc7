-- `satisfaction::fault_b` meets its contract: the agents with a goal before the first that is not there are counted. Assumes nothing.
use Prim.Native.Nat.{ℕ}
use lib.ListN.{get_or}
use Rattle.std.specs.Prelude.{None, Some}
use Rattle.formula.specs.Variables.{X}
use Rattle.formula.specs.Blocks.{block, blocks_at}
use Rattle.satisfaction.specs.Rows.{row}
use Rattle.satisfaction.proofs.Units.{goal_units}
use Rattle.satisfaction.proofs.fault_b.Goals as goal

pub returns-in_err-a : goal.returns-in_err-a
unfolding row block blocks_at
returns-in_err-a c =
    let s = c.args.problem.now.shape.sizes in
    let goal_of : ℕ → ℕ = λ a. get_or c.args.problem.now.goals a 0 in
    λ t. rw c.from_residual.ensures (goal_units c.args.entries.now goal_of (λ a. X s s.m a (goal_of a)) s.k None c.in_err-a.ensures)

pub returns : goal.returns
unfolding row block blocks_at
returns c =
    let s = c.args.problem.now.shape.sizes in
    let goal_of : ℕ → ℕ = λ a. get_or c.args.problem.now.goals a 0 in
    λ t. rw c.count.ensures.0 (goal_units c.args.entries.now goal_of (λ a. X s s.m a (goal_of a)) s.k (Some c.in_ok-a.a) c.in_ok-a.ensures)
