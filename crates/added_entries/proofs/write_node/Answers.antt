-- `added_entries::write_node` meets its contract: the outputs stand behind what was there. Assumes nothing.
use mathlib.Core.Path.{sym}
use Prim.Native.Nat.{suc, ◌+◌}
use native.Mathlib.Omega.{arith}
use borrow.Author.Rules.{rules}
use lib.Dec.{ltb}
use Rattle.lists.proofs.Blocks.{for1_length}
use Rattle.lists.proofs.Slices.{filled_behind}
use Rattle.ceiling.specs.Tree.{entry_of}
use Rattle.added_entries.specs.Rest.{entries_of}
use Rattle.added_entries.proofs.write_node.Goals as goal

pub returns-clause-wrote : goal.returns-clause-wrote
returns-clause-wrote c =
    let w = c.outputs-w.result in
    let at = c.args.left.entries + c.args.right.entries in
    let count = c.args.left.count + c.args.right.count in
    rw (← c.outputs-w.ensures)
    (filled_behind c.args.z.now (entries_of (λ j. ltb j count) w (c.args.y + at)) c.write_entries.new.z at (omega arith)
    (sym (for1_length w (λ j. entry_of (ltb j count) (c.args.y + at + suc j))), c.write_entries.ensures (λ j. ltb j count) (λ j b l h. search rules)))
