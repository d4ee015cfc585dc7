-- `plan_check::plan_cost` meets its contract. The loop keeps the sum over the agents passed. Assumes nothing.
use mathlib.Core.Path.{◌≡◌, refl, ◌∙◌, ap, ap₂}
use Prim.Native.Nat.{ℕ, ◌+◌, ◌≤◌}
use native.Mathlib.Numerals.{add-one}
use native.Mathlib.Omega.{arith}
use Rattle.lists.specs.Loop.{sum}
use Rattle.plan.specs.Plan.{plan_row, rest_time, cost}
use Rattle.plan.proofs.Rest.{rest_until}
use Rattle.plan_check.proofs.plan_cost.Goals as goal

pub loop-a-init : goal.loop-a-init
loop-a-init c = (omega arith, (refl, omega arith))

pub rest_time-cost-requires : goal.rest_time-cost-requires
rest_time-cost-requires c = (c.requires, omega arith, c.loop-a-test.true)

pub overflow_add-cost : goal.overflow_add-cost
overflow_add-cost c =
    let added : (c.rest_time-cost.result ≡ rest_time c.args.s.sizes.m (plan_row c.args.s.sizes c.args.p.now) c.loop-a.a) × (c.rest_time-cost.result ≤ 32) = let r : c.rest_time-cost.result ≡ rest_time c.args.s.sizes.m (plan_row c.args.s.sizes c.args.p.now) c.loop-a.a =
    c.rest_time-cost.ensures ∙ ap (λ (j : ℕ). rest_time j (plan_row c.args.s.sizes c.args.p.now) c.loop-a.a) (omega arith) in
    (r, omega (arith, r, (rest_until c.args.s.sizes.m (plan_row c.args.s.sizes c.args.p.now) c.loop-a.a).within, c.args.s.limits.m_most)) in
    omega (arith, added.1, c.args.s.limits.k_most)

pub loop-a-preserved : goal.loop-a-preserved
loop-a-preserved c =
    let added : (c.rest_time-cost.result ≡ rest_time c.args.s.sizes.m (plan_row c.args.s.sizes c.args.p.now) c.loop-a.a) × (c.rest_time-cost.result ≤ 32) = let r : c.rest_time-cost.result ≡ rest_time c.args.s.sizes.m (plan_row c.args.s.sizes c.args.p.now) c.loop-a.a =
    c.rest_time-cost.ensures ∙ ap (λ (j : ℕ). rest_time j (plan_row c.args.s.sizes c.args.p.now) c.loop-a.a) (omega arith) in
    (r, omega (arith, r, (rest_until c.args.s.sizes.m (plan_row c.args.s.sizes c.args.p.now) c.loop-a.a).within, c.args.s.limits.m_most)) in
    (omega arith, (rw (add-one c.loop-a.a) (ap₂ ◌+◌ c.loop-a.invariant.1.0 added.0), omega (arith, added.1)))

pub returns : goal.returns
unfolding cost
returns c =
    let e : c.loop-a.a ≡ c.args.s.sizes.k = omega arith in
    c.loop-a.invariant.1.0 ∙ ap (λ (j : ℕ). sum j (rest_time c.args.s.sizes.m (plan_row c.args.s.sizes c.args.p.now))) e
