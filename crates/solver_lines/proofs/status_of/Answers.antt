-- `solver_lines::status_of` meets its contract. Assumes nothing.
use Rattle.std.proofs.Common.{◌≡◌, Bool, List, ℕ, true, false, sym, ◌∙◌, ap, eqb}
use Rattle.std.specs.Cmp.Lexicographic.{pointwise}
use Rattle.solver_text.specs.Text.{same, satisfiable, unsatisfiable, unknown}
use Rattle.solver_lines.specs.Lines.{status_of}
use Rattle.solver_lines.proofs.TextLines.{same_is}
use Rattle.solver_lines.proofs.status_of.Goals as goal

-- what a comparison with a word says
is : (line word w : List ℕ) (r b : Bool) → r ≡ pointwise eqb line w → w ≡ word → r ≡ b → same line word ≡ b
is line word w r b e q h = sym (same_is line word) ∙ ap (pointwise eqb line) (sym q) ∙ sym e ∙ h

pub returns-then-eq : goal.returns-then-eq
unfolding status_of
returns-then-eq c = rw (is c.args.line.now satisfiable _ _ true c.eq.ensures c.as_slice.ensures c.if-eq.true)

pub returns-then-eq-2 : goal.returns-then-eq-2
unfolding status_of
returns-then-eq-2 c =
    rw (
      is c.args.line.now satisfiable _ _ false c.eq.ensures c.as_slice.ensures c.if-eq.false,
      is c.args.line.now unsatisfiable _ _ true c.eq-2.ensures c.as_slice-2.ensures c.if-eq-2.true,
    )

pub returns-then-eq-3 : goal.returns-then-eq-3
unfolding status_of
returns-then-eq-3 c =
    rw (
      is c.args.line.now satisfiable _ _ false c.eq.ensures c.as_slice.ensures c.if-eq.false,
      is c.args.line.now unsatisfiable _ _ false c.eq-2.ensures c.as_slice-2.ensures c.if-eq-2.false,
      is c.args.line.now unknown _ _ true c.eq-3.ensures c.as_slice-3.ensures c.if-eq-3.true,
    )

pub returns : goal.returns
unfolding status_of
returns c =
    rw (
      is c.args.line.now satisfiable _ _ false c.eq.ensures c.as_slice.ensures c.if-eq.false,
      is c.args.line.now unsatisfiable _ _ false c.eq-2.ensures c.as_slice-2.ensures c.if-eq-2.false,
      is c.args.line.now unknown _ _ false c.eq-3.ensures c.as_slice-3.ensures c.if-eq-3.false,
    )
