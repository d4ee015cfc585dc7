-- `solver_lines::read_values` meets its contract: what the rest of the line says is what the whole says. Assumes nothing.
use Rattle.std.proofs.Common.{◌≡◌, ◌+◌, ◌-◌, ◌≤◌, length}
use Rattle.solver_tokens.specs.Token.{line}
use Rattle.solver_lines.specs.Lines.{marked, values_of}
use Rattle.solver_lines.proofs.LineTokens.{literals_in}
use Rattle.solver_lines.proofs.read_values.Given as goal

abbrev pub invariant-loop-t : goal.invariant-loop-t
invariant-loop-t l = record {
  inside : l.at ≤ length l.text;
  same : values_of l.n (line l.text l.at) l.at ≡ values_of l.n (line l.text l.from) l.from;
  marks : marked l.marks (literals_in (line l.text l.at)) ≡ marked l.initial.marks (literals_in (line l.text l.from));
}

abbrev pub decreases-loop-t : goal.decreases-loop-t
decreases-loop-t l = length l.text + 1 - l.at
