-- `Rows::stands_alone` meets its contract: the vertex is not among those taken by lower agents. Assumes nothing.
use mathlib.Core.Path.{◌∙◌}
use native.Mathlib.Omega.{arith}
use Rattle.conditions.proofs.Laws.{shares_3, unset}
use Rattle.conditions.proofs.Rows.stands_alone.Goals as goal

pub has_bit-requires : goal.has_bit-requires
has_bit-requires c = omega (arith, c.from.ensures)

pub returns : goal.returns
returns c = unset c.args.taken c.from.ensures c.has_bit.ensures ∙ shares_3 _ c.args.a _ c.requires.1
