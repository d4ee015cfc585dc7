-- `variables::literal_of` meets its contract: a number below 2 ^ 31 keeps its value with a sign. Assumes nothing.
use native.Mathlib.Omega.{arith}
use mir.Syntax.{w32}
use mir.Facts.{to_z_pos}
use Rattle.variables.proofs.literal_of.Goals as goal

pub returns : goal.returns
returns c = to_z_pos w32 {n = c.args.x.0} (omega arith)
