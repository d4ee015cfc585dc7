-- `reader::read_text` meets its contract. Assumes nothing.
use Rattle.std.proofs.Common.{refl, sym, ◌∙◌, ap, List}
use lib.IntN.{ℤ}
use Rattle.lists.specs.Slice.{filled}
use Rattle.answers.specs.Answers.{lent}
use Rattle.answers.proofs.Returned.{passed_on, refused_lent}
use Rattle.solver_text.specs.Form.{given, in_order}
use Rattle.reader.proofs.read_text.Goals as goal

pub returns-in_err-ask_text-clause-z_after : goal.returns-in_err-ask_text-clause-z_after
returns-in_err-ask_text-clause-z_after c =
    refused_lent c.in_err-ask_text.field-0.0 (in_order c.args.n (given c.args.text.now)) c.args.z.now
    (sym (passed_on (λ k. k) c.in_err-ask_text.field-0.0 c.from_residual.result c.from_residual.ensures.1 refl))

pub returns-clause-z_after : goal.returns-clause-z_after
unfolding lent
returns-clause-z_after c = c.write_entries.ensures ∙ ap (λ (l : List ℤ). filled l c.args.z.now) (c.in_ok-ask_text.ensures.says refl)
