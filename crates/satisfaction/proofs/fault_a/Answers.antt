-- `satisfaction::fault_a` meets its contract: no start is 255, so no agent is passed over. Assumes nothing.
use Prim.Native.Nat.{ℕ}
use mathlib.Core.Path.{ap}
use mathlib.Core.Bool.{Bool, ◌||◌}
use native.Mathlib.Omega.{arith}
use borrow.Author.Tests.{ne_eqb}
use lib.ListN.{get_or}
use Rattle.answers.proofs.Faults.{fault_ext, failing_map}
use Rattle.formula.specs.Variables.{X}
use Rattle.formula.specs.Blocks.{block, blocks_at}
use Rattle.valuation.specs.Valuation.{true?}
use Rattle.satisfaction.specs.Rows.{row}
use Rattle.satisfaction.proofs.Units.{units}
use Rattle.satisfaction.proofs.fault_a.Goals as goal

pub returns : goal.returns
unfolding row block blocks_at
returns c =
    let p = c.args.problem.now in
    let start : ℕ → ℕ = λ a. get_or p.starts a 0 in
    λ t. units c.args.entries.now p.shape.sizes.k (λ a. X p.shape.sizes 0 a (start a)) c.unit_fault.result
    (failing_map c.unit_fault.result (λ i f.
    fault_ext (λ a l. ap (λ (b : Bool). b || true? c.args.entries.now (X p.shape.sizes 0 a (start a))) (ne_eqb (start a) 255 (let h = p.ready.starts_below a l in let m = p.shape.limits.n_most in omega arith))) f)
    c.unit_fault.ensures)
