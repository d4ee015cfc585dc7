-- `variables::is_entry` meets its contract: the entry is compared with both literals of the variable. Assumes nothing.
use lib.IntN.{pos, neg_ℤ}
use mir.Syntax.{w32}
use mir.Val.{of_z}
use Rattle.variables.proofs.Laws.{pos_fits, neg_fits, same, same_true, same_false, bits_same}
use mathlib.Core.Path.{◌≡◌, sym, ◌∙◌, ap}
use Rattle.variables.proofs.is_entry.Goals as goal

pub returns-then-entry-literal_of : goal.returns-then-entry-literal_of
returns-then-entry-literal_of c =
    let e : c.args.entry ≡ pos c.args.x.0 = same c.ranges.entry (pos_fits c.requires) (c.if-entry-literal_of.true ∙ ap (of_z w32) c.literal_of.ensures) in
    rw (same_true c.args.entry (pos c.args.x.0) e)

pub returns : goal.returns
returns c =
    rw (same_false c.args.entry (pos c.args.x.0) (λ e. c.if-entry-literal_of.false (ap (of_z w32) (e ∙ sym c.literal_of.ensures))), c.negation_of.ensures)
    (bits_same c.args.entry (neg_ℤ (pos c.args.x.0)) c.ranges.entry (neg_fits _ c.requires))
