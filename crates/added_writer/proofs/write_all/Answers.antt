-- `added_writer::write_all` meets its contract: what is added is written to the part of the slice behind the seven families. Assumes nothing.
use mathlib.Core.Path.{refl}
use mathlib.Core.List.{List, [], ◌∷◌}
use native.Mathlib.Omega.{arith}
use lib.ListN.{length-take, length-drop}
use Rattle.lists.specs.Loop.{for}
use Rattle.lists.proofs.Slices.{filling_room, filling_on, filling_next}
use Rattle.formula.specs.Formula.{Clause}
use Rattle.formula.specs.Blocks.{held, family}
use Rattle.instance.specs.Problem.{checked_of}
use Rattle.ceiling.specs.Ceiling.{added_clauses}
use Rattle.tree_writer.proofs.Laws.{none_written, all_written}
use Rattle.added_writer.proofs.write_all.Goals as goal

pub write_added-requires : goal.write_added-requires
write_added-requires c =
    let parts : List (List Clause) = for 7 (family (held (checked_of c.args.problem.now))) ∷ added_clauses c.args.problem.now.shape.sizes c.args.ceiling.c ∷ [] in
    let before0 = none_written parts refl c.requires in
    let before1 = filling_on before0 (omega arith) c.write_words-at.ensures in
    let r = filling_room before1 (omega arith) in
    simp (length-take, length-drop) (omega arith)

pub returns : goal.returns
returns c =
    let parts : List (List Clause) = for 7 (family (held (checked_of c.args.problem.now))) ∷ added_clauses c.args.problem.now.shape.sizes c.args.ceiling.c ∷ [] in
    let before0 = none_written parts refl c.requires in
    let before1 = filling_on before0 (omega arith) c.write_words-at.ensures in
    (all_written parts refl (filling_next before1 (omega arith) (refl, c.write_added.ensures))).1
