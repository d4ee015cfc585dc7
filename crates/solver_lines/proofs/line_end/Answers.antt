-- `solver_lines::line_end` meets its contract. Assumes nothing.
use Rattle.std.proofs.Common.{ℕ, ◌+◌, ap, ◌∙◌}
use Rattle.std.proofs.lemmas.List.{take_rest}
use Rattle.solver_lines.proofs.TextLines.{line_length}
use Rattle.solver_lines.proofs.line_end.Goals as goal

pub returns : goal.returns
returns c = ap (λ (k : ℕ). c.args.from + k) (c.unwrap_or.ensures ∙ rw (c.newline.ensures, take_rest c.args.text.now c.args.from) (line_length c.args.text.now c.args.from))
