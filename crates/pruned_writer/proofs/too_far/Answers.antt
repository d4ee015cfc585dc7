-- `pruned_writer::too_far` meets its contract: a time is below the mark. Assumes nothing.
use mathlib.Core.Path.{sym, ◌∙◌, ap₂}
use mathlib.Core.Bool.{◌||◌}
use Prim.Native.Nat.{ℕ, ◌-◌}
use native.Mathlib.Omega.{arith}
use lib.Dec.{ltb}
use Rattle.formula.proofs.Pruned.{too_far_ltb}
use Rattle.pruned_writer.proofs.too_far.Goals as goal

pub returns : goal.returns
returns c = ap₂ (λ (x y : ℕ). ltb c.args.t x || ltb (c.args.m - c.args.t) y) c.from.ensures c.from-2.ensures ∙ sym (too_far_ltb c.args.m c.args.t c.args.x c.args.y (omega arith) c.requires.0)
