-- `solver_lines::read_lines` meets its contract: what the lines ahead say is what all lines say. Assumes nothing.
use Rattle.std.proofs.Common.{◌≡◌, ◌+◌, ◌-◌, length}
use Rattle.solver_text.specs.Text.{lines}
use Rattle.solver_text.specs.Form.{literals_of}
use Rattle.solver_text.specs.Walk.{nothing, said_after, wrong_lines}
use Rattle.solver_lines.specs.Lines.{marked}
use Rattle.solver_lines.proofs.TextLines.{lines_at}
use Rattle.solver_lines.proofs.read_lines.Given as goal

abbrev pub invariant-loop-at : goal.invariant-loop-at
invariant-loop-at l = record {
  wrong : wrong_lines l.n l.at l.said (lines_at l.text l.at) ≡ wrong_lines l.n 0 nothing (lines l.text);
  says : said_after l.at l.said (lines_at l.text l.at) ≡ said_after 0 nothing (lines l.text);
  marks : marked l.marks (literals_of (lines_at l.text l.at)) ≡ marked l.initial.marks (literals_of (lines l.text));
}

abbrev pub decreases-loop-at : goal.decreases-loop-at
decreases-loop-at l = length l.text + 1 - l.at
