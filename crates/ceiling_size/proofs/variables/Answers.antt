-- `ceiling_size::variables` meets its contract. Assumes nothing.
use native.Mathlib.Omega.{arith}
use Rattle.ceiling.specs.Ceiling.{ceiling_variables}
use Rattle.ceiling_size.proofs.variables.Goals as goal

pub returns : goal.returns
unfolding ceiling_variables
returns c = (omega arith, omega arith)
