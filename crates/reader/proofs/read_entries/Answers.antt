-- `reader::read_entries` meets its contract. Assumes nothing.
use Rattle.std.proofs.Common.{refl, ◌∙◌, ap, arith, length}
use Rattle.answers.specs.Returned.{refused}
use Rattle.answers.proofs.Returned.{refused_lent}
use Rattle.solver_text.specs.Form.{given, in_order}
use Rattle.reader.proofs.Questions.{stop_16, pass_16}
use Rattle.reader.proofs.read_entries.Goals as goal

pub returns-then-z-n-clause-value : goal.returns-then-z-n-clause-value
returns-then-z-n-clause-value c = ap refused c.at.ensures ∙ stop_16 c.args.n c.args.text.now (length c.args.z.now) c.if-z-n.true

pub returns-then-z-n-clause-z_after : goal.returns-then-z-n-clause-z_after
returns-then-z-n-clause-z_after c = refused_lent c.at.result (in_order c.args.n (given c.args.text.now)) c.args.z.now refl

pub returns-clause-value : goal.returns-clause-value
returns-clause-value c = c.read_text.ensures.value ∙ pass_16 c.args.n c.args.text.now (length c.args.z.now) (omega arith)

pub returns-clause-z_after : goal.returns-clause-z_after
returns-clause-z_after c = c.read_text.ensures.z_after
