-- `EdgeBytes::first_improper` meets its contract. The invariant: every item so far passes the test. Assumes nothing.
use native.Mathlib.Omega.{arith}
use borrow.Author.Tests.{not-true, not-false}
use borrow.Author.Count.{below_more, below_none}
use Rattle.answers.proofs.Faults.{holds, fails, fault_at}
use Rattle.instance_check.proofs.edge_bytes.EdgeBytes.first_improper.Goals as goal

pub loop-j-init : goal.loop-j-init
loop-j-init c = (omega arith, below_none _)

pub returns-then-not-is_proper : goal.returns-then-not-is_proper
returns-then-not-is_proper c = (omega arith, fault_at (omega arith) c.loop-j.invariant.1 (fails c.is_proper.ensures (not-true _ c.if-not-is_proper.true-raw)))

pub loop-j-preserved : goal.loop-j-preserved
loop-j-preserved c = (omega arith, below_more _ _ c.loop-j.invariant.1 (holds c.is_proper.ensures (not-false _ c.if-not-is_proper.false-raw)))

pub returns : goal.returns
returns c = record { within = omega arith; before = λ i l. c.loop-j.invariant.1 i (omega arith); here = λ l t. omega arith }
