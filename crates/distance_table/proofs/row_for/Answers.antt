-- `distance_table::row_for` meets its contract. Assumes nothing.
use mathlib.Core.Path.{ap}
use mathlib.Core.List.{[]}
use Prim.Native.Nat.{ℕ}
use lib.ListN.{get_or}
use Rattle.distance_table.proofs.row_for.Goals as goal

pub returns : goal.returns
returns c = ap (λ (v : ℕ). get_or c.args.table.now v []) c.from-v.ensures
