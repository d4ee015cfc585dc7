-- `solver_lines::read_line` meets its contract, by the line's first byte. Assumes nothing.
use Rattle.std.proofs.Common.{sym, ◌∙◌, arith}
use Rattle.solver_lines.proofs.TextLines.{marks_s, line_other}
use Rattle.solver_lines.proofs.read_line.Goals as goal

pub returns-in-115-clause-marks_after : goal.returns-in-115-clause-marks_after
returns-in-115-clause-marks_after c = λ s. marks_s c.args.text.now c.args.n c.args.from c.args.said (sym c.byte_at.ensures ∙ c.in-115.is) c.args.marks.now

pub returns-in_default-clause-value : goal.returns-in_default-clause-value
returns-in_default-clause-value c = line_other c.args.text.now c.args.n c.args.from c.args.said (λ z. omega arith) (λ z. omega arith) (λ z. omega arith) (λ z. omega arith)
