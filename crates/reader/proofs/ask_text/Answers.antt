-- `reader::ask_text` meets its contract. Assumes nothing.
use Rattle.std.proofs.Common.{◌∙◌, ap, refl, length, List}
use Rattle.answers.proofs.Returned.{passed_on}
use Rattle.solver_lines.specs.declared.Mark.{Mark}
use Rattle.solver_lines.specs.Lines.{marked}
use Rattle.solver_text.specs.Form.{given}
use Rattle.reader.proofs.Questions.{text_form, text_stop, text_pass, text_says}
use Rattle.reader.proofs.ask_text.Goals as goal

pub returns-in_err-ask_form-clause-value : goal.returns-in_err-ask_form-clause-value
returns-in_err-ask_form-clause-value c =
    passed_on (λ _. c.args.n) c.in_err-ask_form.field-0.0 c.from_residual.result c.from_residual.ensures.1
    (text_form c.args.n c.args.text.now c.in_err-ask_form.field-0.0 c.in_err-ask_form.ensures.value)

pub returns-in-Some-clause-value : goal.returns-in-Some-clause-value
returns-in-Some-clause-value c =
    let em = c.in_ok-ask_form.ensures.marks_after refl ∙ ap (λ (m : List Mark). marked m (given c.args.text.now)) c.requires.2 in
    rw c.at.ensures
    (text_stop c.args.n c.args.text.now c.in_ok-ask_form.ensures.value (length c.args.marks.now) c.requires.1 c.ask_form.new.marks em c.in-Some.i c.in-Some.ensures)

pub returns-clause-value : goal.returns-clause-value
returns-clause-value c =
    let em = c.in_ok-ask_form.ensures.marks_after refl ∙ ap (λ (m : List Mark). marked m (given c.args.text.now)) c.requires.2 in
    text_pass c.args.n c.args.text.now c.in_ok-ask_form.ensures.value (length c.args.marks.now) c.requires.1 c.ask_form.new.marks em c.in_default.ensures

pub returns-clause-says : goal.returns-clause-says
returns-clause-says c = λ _.
    let em = c.in_ok-ask_form.ensures.marks_after refl ∙ ap (λ (m : List Mark). marked m (given c.args.text.now)) c.requires.2 in
    text_says c.args.n c.args.text.now c.in_ok-ask_form.ensures.value (length c.args.marks.now) c.requires.1 c.ask_form.new.marks em c.in_default.ensures
