-- `EdgeBytes::first_unordered` meets its contract. The invariant: every item so far passes the test. Assumes nothing.
use native.Mathlib.Omega.{arith}
use borrow.Author.Tests.{not-true, not-false}
use borrow.Author.Count.{below_more, below_none}
use Rattle.answers.proofs.Faults.{holds, fails, fault_at}
use Rattle.instance_check.proofs.edge_bytes.EdgeBytes.first_unordered.Goals as goal

pub loop-i-init : goal.loop-i-init
loop-i-init c = (omega arith, below_none _)

pub returns-then-not-is_later : goal.returns-then-not-is_later
returns-then-not-is_later c = (omega arith, fault_at (omega arith) c.loop-i.invariant.1 (fails c.is_later.ensures (not-true _ c.if-not-is_later.true-raw)))

pub loop-i-preserved : goal.loop-i-preserved
loop-i-preserved c = (omega arith, below_more _ _ c.loop-i.invariant.1 (holds c.is_later.ensures (not-false _ c.if-not-is_later.false-raw)))

pub returns : goal.returns
returns c = record { within = omega arith; before = λ i l. c.loop-i.invariant.1 i (omega arith); here = λ l t. omega arith }
