-- `added_entries::write_entries` meets its contract: one entry a turn, whatever the test answers. Assumes nothing.
use mathlib.Core.Path.{◌∙◌, ap}
use mathlib.Core.Bool.{Bool}
use Prim.Native.Nat.{◌+◌}
use native.Mathlib.Omega.{arith}
use mir.Syntax.{w32}
use mir.Facts.{to_z-of_z}
use borrow.Author.Rules.{sfits_of}
use Rattle.lists.proofs.Slices.{filling_done}
use Rattle.ceiling.specs.Tree.{entry_of}
use Rattle.added_entries.proofs.Laws.{writing_from, writing_next}
use Rattle.added_entries.proofs.write_entries.Goals as goal

pub loop-j-init : goal.loop-j-init
loop-j-init g c = λ h s. writing_from h c.args.y c.args.n c.args.z.now c.requires.n_bound.1

pub loop-j-preserved : goal.loop-j-preserved
loop-j-preserved g c = λ h s.
    let turn = c.loop-j in
    writing_next h c.args.y c.args.n c.args.z.now (turn.invariant h s) c.loop-j-test.true
    (to_z-of_z {w = w32} (sfits_of c.entry_of.type_inv) ∙ c.entry_of.ensures ∙ ap (λ (b : Bool). entry_of b (c.args.y + (turn.j + 1))) (s turn.j c.test.result c.loop-j-test.true c.test.ensures))

pub returns : goal.returns
returns g c = λ h s. (filling_done (c.loop-j.invariant h s) (omega arith)).1
