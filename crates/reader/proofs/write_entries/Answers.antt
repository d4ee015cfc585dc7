-- `reader::write_entries` meets its contract. Assumes nothing.
use mathlib.Core.Path.{refl, sym, ◌∙◌, ap}
use mathlib.Core.List.{[], ◌∷◌}
use native.Mathlib.Omega.{arith}
use lib.IntN.{ℤ}
use lib.ListN.{get_or}
use mir.Facts.{to_z-of_z}
use mir.Syntax.{w32}
use Rattle.lists.proofs.Blocks.{for1_length}
use Rattle.lists.proofs.Slices.{filling_from, filling_set, filling_done}
use Rattle.solver_lines.specs.declared.Mark.TheVariants.{Absent}
use Rattle.reader.specs.Marks.{entry_of}
use borrow.Author.Rules.{sfits_of}
use Rattle.reader.proofs.write_entries.Goals as goal

pub loop-i-init : goal.loop-i-init
loop-i-init c = filling_from 0 (omega arith) refl (omega (arith, for1_length c.args.n (λ j. entry_of (get_or c.args.marks.now j Absent) j), c.requires))

pub loop-i-preserved : goal.loop-i-preserved
loop-i-preserved c = filling_set c.loop-i.invariant c.loop-i-test.true _ (ap (λ (x : ℤ). x ∷ []) (sym (to_z-of_z {w = w32} (sfits_of c.entry_of.type_inv) ∙ c.entry_of.ensures)))

pub returns : goal.returns
returns c = (filling_done c.loop-i.invariant (omega arith)).1
