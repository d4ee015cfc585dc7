-- `formula_writer::write_formula` meets its contract: the instance check decides, or the slice is too short, or the words are written. Assumes nothing.
use mathlib.Core.Path.{refl, sym, ◌∙◌, ap}
use mathlib.Core.List.{List}
use native.Mathlib.Omega.{arith}
use lib.IntN.{ℤ}
use lib.ListN.{length}
use Rattle.lists.specs.Slice.{filled}
use Rattle.answers.specs.Answers.{accept}
use Rattle.answers.proofs.Returned.{passed_on}
use Rattle.instance.specs.Problem.{checked_of, ProblemOf}
use Rattle.instance.proofs.Call.{passed}
use Rattle.formula.specs.Formula.{formula}
use Rattle.formula.proofs.Held.{words_held, word_count_held}
use Rattle.calls.proofs.Size.{fits_12}
use Rattle.formula_writer.proofs.Laws.{refuses, stops, writes}
use Rattle.formula_writer.proofs.write_formula.Goals as goal

pub returns-in_err-problem : goal.returns-in_err-problem
returns-in_err-problem c =
    let (a, w) = refuses formula c.args.b.now c.args.m c.args.rule c.args.f.now _ c.in_err-problem.ensures.answer in
    record { value = passed_on _ _ c.from_residual.result c.from_residual.ensures.1 a; f_after = w }

pub returns-in_err-ask_room : goal.returns-in_err-ask_room
returns-in_err-ask_room c =
    let b = c.args.b.now in
    let known : ProblemOf b c.in_ok-problem.problem = passed b c.args.m c.args.rule _ _ c.in_ok-problem.ensures.answer c.in_ok-problem.ensures.problem refl in
    let (a, w) = stops formula b c.args.m c.args.rule c.args.f.now _ c.in_ok-problem.ensures.answer c.in_ok-problem.ensures.problem c.word_count-needed.result
    (word_count_held _ _ known ∙ sym c.word_count-needed.ensures) _ c.in_err-ask_room.ensures in
    record { value = passed_on _ _ c.from_residual-in_err-ask_room.result c.from_residual-in_err-ask_room.ensures.1 a; f_after = w }

pub write_words-requires : goal.write_words-requires
write_words-requires c =
    let b = c.args.b.now in
    let known : ProblemOf b c.in_ok-problem.problem = passed b c.args.m c.args.rule _ _ c.in_ok-problem.ensures.answer c.in_ok-problem.ensures.problem refl in
    rw (← (words_held b (checked_of c.in_ok-problem.problem) known))
    (omega (arith, word_count_held _ _ known, c.word_count-needed.ensures, fits_12 c.word_count-needed.result (length c.args.f.now) (accept 0) c.in_ok-ask_room.ensures refl))

pub returns : goal.returns
returns c =
    let b = c.args.b.now in
    let known : ProblemOf b c.in_ok-problem.problem = passed b c.args.m c.args.rule _ _ c.in_ok-problem.ensures.answer c.in_ok-problem.ensures.problem refl in
    let (a, w) = writes formula b c.args.m c.args.rule c.args.f.now _ c.in_ok-problem.ensures.answer c.in_ok-problem.ensures.problem c.word_count-needed.result
    (word_count_held _ _ known ∙ sym c.word_count-needed.ensures) c.in_ok-ask_room.ensures _
    (c.write_words.ensures.1 ∙ ap (λ (l : List ℤ). filled l c.args.f.now) (sym (words_held b (checked_of c.in_ok-problem.problem) known))) in
    record { value = a; f_after = w }
