-- `added_entries::leaf` meets its contract: one input, counted where it is true. Assumes nothing.
use mathlib.Core.Path.{refl, ◌∙◌}
use Rattle.added_entries.specs.Rest.{busy_in}
use Rattle.added_entries.proofs.Laws.{one_count}
use Rattle.added_entries.proofs.leaf.Goals as goal

pub returns : goal.returns
unfolding busy_in
returns c = (refl, c.from.ensures ∙ one_count c.args.marks.now c.args.x)
