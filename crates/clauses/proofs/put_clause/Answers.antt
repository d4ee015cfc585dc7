-- `clauses::put_clause` meets its contract. Assumes nothing.
use mathlib.Core.Path.{◌≡◌, refl, sym, ◌∙◌, ap}
use mathlib.Core.List.{List, [], ◌∷◌}
use native.Mathlib.Omega.{arith}
use mir.Facts.{to_z-of_z}
use borrow.Author.Rules.{sfits_of}
use lib.IntN.{ℤ, pos}
use lib.ListN.{length, set}
use Rattle.std.proofs.lemmas.List.{ext_get_or}
use Rattle.std.proofs.Common.{slice_index_or}
use Rattle.lists.specs.Loop.{for}
use Rattle.lists.specs.Slice.{filled}
use Rattle.lists.proofs.Blocks.{for1_length, for1_get_or}
use Rattle.lists.proofs.Slices.{filling_from, filling_set, filling_done, filled_set}
use Rattle.clauses.proofs.Laws.{line_length}
use Rattle.clauses.proofs.put_clause.Goals as goal

pub loop-i-init : goal.loop-i-init
loop-i-init g c = filling_from 0 (omega arith) refl (omega (arith, c.requires, for1_length g.row.N (λ k. slice_index_or c.args.literals k (pos 0))))

pub loop-i-preserved : goal.loop-i-preserved
loop-i-preserved g c = rw (to_z-of_z (sfits_of c.x-1.given)) (filling_set c.loop-i.invariant c.loop-i-test.true (slice_index_or c.args.literals c.loop-i.i (pos 0)) refl)

pub returns : goal.returns
returns g c =
    let x = c.args.literals in
    let long : length x ≡ g.row.N = c.well_formed.1.0.1.0.1 in
    let all : for g.row.N (λ k. slice_index_or x k (pos 0) ∷ []) ≡ x =
    ext_get_or (pos 0) _ x (for1_length g.row.N _ ∙ sym long) (λ i l. for1_get_or g.row.N _ (pos 0) i (omega (arith, l, for1_length g.row.N (λ k. slice_index_or x k (pos 0))))) in
    let e : c.loop-i.f ≡ filled x c.args.f.now = (filling_done c.loop-i.invariant c.loop-i-test.false).1 ∙ ap (λ (k : List ℤ). filled k c.args.f.now) all in (
      omega (arith, line_length x, long),
      ap (λ (k : List ℤ). set k g.row.N (pos 0)) e ∙ filled_set x c.args.f.now g.row.N (pos 0) (pos 0) long c.requires,
    )
