-- `solver_lines::line_start` meets its contract. Assumes nothing.
use mathlib.Core.Path.{◌∙◌, ap, ap₂}
use mathlib.Core.List.{List}
use Prim.Native.Nat.{ℕ}
use lib.ListN.{length, take}
use Rattle.std.specs.Prelude.{min}
use Rattle.std.proofs.lemmas.List.{take_rest}
use Rattle.solver_lines.proofs.TextLines.{line_begun}
use Rattle.solver_lines.proofs.line_start.Goals as goal

pub returns : goal.returns
returns c =
    let text = c.args.text.now in
    let rest = take_rest text c.args.from in
    line_begun text c.args.from c.args.most _ _ (ap₂ (λ (k : ℕ) (l : List ℕ). take k l) (c.min.ensures ∙ ap (λ (l : List ℕ). min (length l) c.args.most) rest) rest)
    (rw c.newline.ensures at c.unwrap_or-end.ensures)
