-- `Rows::fault` meets its contract. The loop keeps that every agent passed meets the condition, and the word of their vertices in the next row. Assumes nothing.
use mathlib.Core.Path.{subst}
use Prim.Native.Nat.{ℕ}
use native.Mathlib.Omega.{arith}
use borrow.Author.Count.{below_more, below_none}
use borrow.Author.Tests.{not-true, not-false}
use Rattle.answers.proofs.Faults.{holds, fails, fault_at, fault_none}
use Rattle.plan.specs.Plan.{row}
use Rattle.conditions.specs.Inside.{Standing}
use Rattle.conditions.proofs.Laws.{standing_none, standing_next}
use Rattle.conditions.proofs.Rows.fault.Goals as goal

pub loop-a-init : goal.loop-a-init
loop-a-init c = (omega arith, below_none _, standing_none (row c.args.self.now.next.now))

pub passes-requires : goal.passes-requires
passes-requires c = (c.loop-a-test.true, subst (λ (n : ℕ). Standing (row c.args.self.now.here.now) n c.occupied-stood.result) c.args.self.now.long.0 c.occupied-stood.ensures, c.loop-a.invariant.2)

pub returns-then-not-passes : goal.returns-then-not-passes
returns-then-not-passes c = (omega arith, fault_at (omega arith) c.loop-a.invariant.1 (fails c.passes.ensures (not-true _ c.if-not-passes.true-raw)))

pub with_bit-taken-requires : goal.with_bit-taken-requires
with_bit-taken-requires c =
    let (here, next) = c.args.self.now.inside in
    let a = c.loop-a.a in
    omega (arith, c.from.ensures, here a (omega arith), next a (omega arith))

pub loop-a-preserved : goal.loop-a-preserved
loop-a-preserved c =
    let loop = c.loop-a in (
      omega arith,
      below_more _ _ loop.invariant.1 (holds c.passes.ensures (not-false _ c.if-not-passes.false-raw)),
      standing_next (row c.args.self.now.next.now) loop.a _ _ _ loop.invariant.2 c.from.ensures c.with_bit-taken.ensures,
    )

pub returns : goal.returns
returns c = fault_none (omega arith) c.loop-a.invariant.1
