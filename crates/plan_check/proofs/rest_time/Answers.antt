-- `plan_check::rest_time` meets its contract. The loop keeps the time until rest in the rows passed, and that it is not after them (so
-- that a count of moves is refused for its value alone). Assumes nothing.
use mathlib.Core.Path.{◌≡◌, ◌∙◌, ap}
use Prim.Native.Nat.{ℕ, ◌-◌}
use native.Mathlib.Omega.{arith}
use Rattle.plan.specs.Plan.{plan_row, rest_time}
use Rattle.plan_check.proofs.Laws.{rest_begins, rest_same, rest_changed}
use Rattle.plan_check.proofs.rest_time.Goals as goal
use Rattle.plan_check.proofs.rest_time.Goals.{then-p-row, else-p-row}

pub loop-t-init : goal.loop-t-init
loop-t-init c = (omega arith, (rest_begins c.args.s c.args.p.now c.args.a, omega arith))

pub loop-t-preserved : goal.loop-t-preserved
loop-t-preserved c =
    let s = c.args in
    let l = c.loop-t in
    elim c.if-p-row.branch [
      | then-p-row w ↦ (omega arith, (rw w.rest-is (omega (arith, rest_changed s.s s.p.now s.a l.t w.if-p-row.true)), omega arith))
      | else-p-row w ↦ (omega arith, (rw w.rest-is (rest_same s.s s.p.now s.a l.t l.rest l.invariant.1.0 w.if-p-row.false), omega arith))
    ]

pub returns : goal.returns
returns c =
    let s = c.args in
    let l = c.loop-t in
    let e : l.t ≡ s.rows - 1 = omega arith in
    l.invariant.1.0 ∙ ap (λ (j : ℕ). rest_time j (plan_row s.s s.p.now) s.a) e
