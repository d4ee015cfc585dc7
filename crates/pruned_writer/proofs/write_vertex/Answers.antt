-- `pruned_writer::write_vertex` meets its contract. Assumes nothing.
use mathlib.Core.Path.{refl, sym, ◌∙◌}
use native.Mathlib.Omega.{arith}
use mir.Facts.{to_z-of_z}
use borrow.Author.Rules.{sfits_of}
use Rattle.lists.proofs.Slices.{filled_nil}
use Rattle.pruned_writer.proofs.write_vertex.Goals as goal

pub put_clause-requires : goal.put_clause-requires
put_clause-requires c = let room = rw (sym c.too_far.ensures ∙ c.if-too_far.true) at c.requires.v_in_bounds in (omega arith, room)

pub returns-then-too_far : goal.returns-then-too_far
returns-then-too_far c = rw (sym c.too_far.ensures ∙ c.if-too_far.true) (rw (to_z-of_z (sfits_of c.negative.type_inv), c.negative.ensures) at c.put_clause.ensures)

pub returns : goal.returns
returns c = rw (sym c.too_far.ensures ∙ c.if-too_far.false) (refl, sym (filled_nil _))
