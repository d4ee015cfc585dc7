-- `satisfaction::tally_row` meets its contract: before turn v the entries below v are tallied. Assumes nothing.
use mathlib.Core.Bool.{Bool}
use Prim.Native.Nat.{ℕ, ◌+◌, ◌-◌}
use mathlib.Core.Path.{◌≡◌}
use native.Mathlib.Omega.{arith}
use mathlib.Core.Logic.{⊎_elim}
use Rattle.answers.proofs.Faults.{holds, fails}
use Rattle.satisfaction.specs.Rows.{Tallied, denies}
use Rattle.satisfaction.proofs.Laws.{tallied_none, tallied_pass, tallied_fail}
use Rattle.satisfaction.proofs.tally_row.Goals as goal

pub loop-v-init : goal.loop-v-init
loop-v-init c = (omega arith, omega arith, omega arith, tallied_none _)

pub overflow_add-negatives : goal.overflow_add-negatives
overflow_add-negatives c = omega (arith, c.loop-v.invariant, c.loop-v-test.true, c.requires)

pub overflow_cast-sum : goal.overflow_cast-sum
overflow_cast-sum c = omega (arith, c.loop-v.invariant, c.loop-v-test.true, c.requires)

pub overflow_add-sum : goal.overflow_add-sum
overflow_add-sum c = omega (arith, c.loop-v.invariant, c.loop-v-test.true, c.requires)

pub loop-v-preserved : goal.loop-v-preserved
loop-v-preserved c =
    let l = c.loop-v in
    let t : ℕ → Bool = λ u. denies c.args.entries.now (c.args.base + u) in
    ⊎_elim
    (λ w.
    let e : l.v + 1 - c.if-denied.negatives ≡ l.v - l.negatives = omega (arith, w.negatives-is, l.invariant.1) in
    let o : Tallied t (l.v + 1) (l.v + 1 - c.if-denied.negatives) c.if-denied.sum =
    rw (e, w.sum-is) (tallied_pass t l.v (l.v - l.negatives) l.sum l.invariant.3 (holds c.denied.ensures w.if-denied.true)) in
    (omega arith, omega (arith, w.negatives-is, l.invariant.1), omega (arith, w.sum-is, l.invariant.2), o))
    (λ w.
    let e : l.v + 1 - c.if-denied.negatives ≡ l.v - l.negatives + 1 = omega (arith, w.negatives-is, l.invariant.1) in
    let o : Tallied t (l.v + 1) (l.v + 1 - c.if-denied.negatives) c.if-denied.sum =
    rw (e, w.sum-is) (tallied_fail t l.v (l.v - l.negatives) l.sum l.invariant.3 (fails c.denied.ensures w.if-denied.false)) in
    (omega arith, omega (arith, w.negatives-is, l.invariant.1), omega (arith, w.sum-is, l.invariant.2, l.invariant.0, c.requires), o))
    c.if-denied.branch-raw

pub overflow_cast-result : goal.overflow_cast-result
overflow_cast-result c = omega (arith, c.requires)

pub overflow_sub-result : goal.overflow_sub-result
overflow_sub-result c = omega (arith, c.loop-v.invariant.0, c.loop-v.invariant.1)

pub returns : goal.returns
returns c = let e : c.loop-v.v ≡ c.args.n = omega arith in rw e at c.loop-v.invariant.3
