-- `families::write_apart` meets its contract: of one agent there is no clause. Assumes nothing.
use mathlib.Core.Path.{refl, sym}
use native.Mathlib.Omega.{arith}
use borrow.Author.Tests.{eq-eqb}
use Rattle.lists.proofs.Slices.{filled_nil}
use Rattle.families.proofs.write_apart.Goals as goal

pub returns-then-a-b : goal.returns-then-a-b
returns-then-a-b c = rw (eq-eqb c.args.a.0 c.args.b.0 (omega arith)) (refl, sym (filled_nil _))
