-- `formula_printer::print_answer` meets its contract: where the number is 0, the instance is accepted. Assumes nothing.
use mathlib.Core.Path.{sym, ◌∙◌, ap}
use Prim.Native.Nat.{ℕ}
use Rattle.answers.specs.declared.Answer.{Answer}
use Rattle.answers.proofs.Laws.{by_number_accepted, by_number_refused}
use Rattle.answers.proofs.Returned.{refusal_numbered}
use Rattle.instance.specs.Questions.{instance_answer}
use Rattle.instance.proofs.Accepted.{rule_of}
use Rattle.formula_printer.specs.Output.{answer_status}
use Rattle.formula_printer.proofs.print_answer.Goals as goal

pub print_formula-requires-clause-rule : goal.print_formula-requires-clause-rule
print_formula-requires-clause-rule c =
    rule_of c.args.b.now c.args.m 1 _ c.in-Ok.ensures.problem (ap (λ (x : Answer). x.number) (sym c.in-Ok.ensures.answer))

pub returns-in_ok-print_formula-in-Ok : goal.returns-in_ok-print_formula-in-Ok
unfolding answer_status
returns-in_ok-print_formula-in-Ok c =
    sym (by_number_accepted {A = ℕ} (instance_answer c.args.b.now c.args.m 1).number 0 1 (ap (λ (x : Answer). x.number) (sym c.in-Ok.ensures.answer)))

pub returns-in_ok-print_refusal-in-Err : goal.returns-in_ok-print_refusal-in-Err
unfolding answer_status
returns-in_ok-print_refusal-in-Err c =
    sym
    (by_number_refused {A = ℕ} (instance_answer c.args.b.now c.args.m 1).number 0 1
    (λ z. refusal_numbered c.in-Err.refusal (ap (λ (x : Answer). x.number) c.in-Err.ensures.answer ∙ z)))
