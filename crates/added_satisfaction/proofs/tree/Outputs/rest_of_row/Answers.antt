-- `added_satisfaction::tree::Outputs::rest_of_row` meets its contract: the whole row holds, or each j from 1 to the loop's passes. Assumes nothing.
use Prim.Native.Nat.{◌+◌}
use native.Mathlib.Omega.{arith}
use mathlib.Core.Path.{refl}
use Rattle.answers.proofs.Faults.{holds, fails}
use Rattle.satisfaction.proofs.Laws.{stop_more, stop_at, stop_none}
use Rattle.added_satisfaction.specs.Search.{follows}
use Rattle.added_satisfaction.proofs.tree.Outputs.rest_of_row.Goals as goal

pub returns-then-row_holds : goal.returns-then-row_holds
returns-then-row_holds c =
    let d = c.args.self.d in
    stop_none (follows c.args.self.of.entries.now d c.args.i) 1 (d.b + 1) (d.b + 1) (c.row_holds.ensures c.if-row_holds.true) (omega arith) refl

pub loop-j-init : goal.loop-j-init
loop-j-init c = λ j h l. absurd (let f : ⊥ = omega arith in f)

pub returns-then-not-implies : goal.returns-then-not-implies
returns-then-not-implies c =
    let d = c.args.self.d in (
      stop_at (follows c.args.self.of.entries.now d c.args.i) 1 (d.b + 1) c.loop-j.j c.loop-j.invariant c.loop-j.auto.j c.loop-j-test.true
          (fails (rw c.outputs.ensures at c.implies.ensures) c.if-not-implies.true),
      c.loop-j-test.true,
    )

pub loop-j-preserved : goal.loop-j-preserved
loop-j-preserved c =
    let d = c.args.self.d in
    stop_more (follows c.args.self.of.entries.now d c.args.i) 1 (d.b + 1) c.loop-j.j c.loop-j.invariant
    (holds (rw c.outputs.ensures at c.implies.ensures) c.if-not-implies.false)

pub returns : goal.returns
returns c =
    let d = c.args.self.d in
    stop_none (follows c.args.self.of.entries.now d c.args.i) 1 (d.b + 1) c.loop-j.j c.loop-j.invariant c.loop-j.auto.j (omega arith)
