-- `satisfaction::unit_fault` meets its contract: the agents below a are at their vertices, or passed over. Assumes nothing.
use Prim.Native.Nat.{ℕ, ◌-◌, ◌≤◌, ◌<◌}
use mathlib.Core.Bool.{◌||◌}
use lib.ListN.{get_or}
use lib.Dec.{T}
use Rattle.instance.specs.Instance.{free}
use Rattle.formula.specs.Variables.{X}
use Rattle.valuation.specs.Valuation.{true?}
use Rattle.satisfaction.proofs.unit_fault.Given as goal

abbrev pub invariant-loop-a : goal.invariant-loop-a
invariant-loop-a l = (l.a ≤ l.s.sizes.k) × ((i : ℕ) → i < l.a → T (free (get_or l.ends i 0) || true? l.entries (X l.s.sizes l.t i (get_or l.ends i 0))))

abbrev pub decreases-loop-a : goal.decreases-loop-a
decreases-loop-a l = l.s.sizes.k - l.a
