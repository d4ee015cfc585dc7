-- `pruned_writer::write_pruned` meets its contract: the instance check decides, or the slice is too short, or the words are written. Assumes nothing.
use mathlib.Core.Path.{◌≡◌, refl, sym, ◌∙◌, ap}
use mathlib.Core.List.{List}
use native.Mathlib.Omega.{arith}
use lib.IntN.{ℤ}
use lib.ListN.{length}
use Rattle.lists.specs.Slice.{filled}
use Rattle.answers.specs.Answers.{accept}
use Rattle.answers.proofs.Returned.{passed_on}
use Rattle.instance.specs.Problem.{checked_of, ProblemOf}
use Rattle.instance.specs.Accepted.{instance_of}
use Rattle.instance.proofs.Call.{passed}
use Rattle.formula.specs.Formula.{words}
use Rattle.formula.specs.Pruned.{pruned}
use Rattle.calls.proofs.Size.{fits_12}
use Rattle.formula_size.proofs.Laws.{pruned_word_count_held}
use Rattle.formula_writer.proofs.Laws.{refuses, stops, writes}
use Rattle.pruned_writer.proofs.Laws.{words_held}
use Rattle.pruned_writer.proofs.write_pruned.Goals as goal

pub returns-in_err-problem : goal.returns-in_err-problem
returns-in_err-problem c =
    let (a, w) = refuses pruned c.args.b.now c.args.m c.args.rule c.args.f.now _ c.in_err-problem.ensures.answer in
    record { value = passed_on _ _ c.from_residual.result c.from_residual.ensures.1 a; f_after = w }

pub table_of-table-requires : goal.table_of-table-requires
table_of-table-requires c = let r = c.in_ok-problem.problem.ready in (r.limits.n_most, r.words_below)

pub returns-in_err-ask_room : goal.returns-in_err-ask_room
returns-in_err-ask_room c =
    let b = c.args.b.now in
    let known : ProblemOf b c.in_ok-problem.problem = passed b c.args.m c.args.rule _ _ c.in_ok-problem.ensures.answer c.in_ok-problem.ensures.problem refl in
    let needed : length (words (pruned (instance_of b (checked_of c.in_ok-problem.problem)))) ≡ c.pruned_words-needed.result = omega (arith, c.pruned_words-needed.ensures, pruned_word_count_held _ _ known c.table_of-table.result c.table_of-table.ensures.1 c.count_h-more.result c.count_h-more.ensures.0) in
    let (a, w) = stops pruned b c.args.m c.args.rule c.args.f.now _ c.in_ok-problem.ensures.answer c.in_ok-problem.ensures.problem c.pruned_words-needed.result needed _ c.in_err-ask_room.ensures in
    record { value = passed_on _ _ c.from_residual-in_err-ask_room.result c.from_residual-in_err-ask_room.ensures.1 a; f_after = w }

pub write_all-requires : goal.write_all-requires
write_all-requires c =
    let b = c.args.b.now in
    let known : ProblemOf b c.in_ok-problem.problem = passed b c.args.m c.args.rule _ _ c.in_ok-problem.ensures.answer c.in_ok-problem.ensures.problem refl in
    let needed : length (words (pruned (instance_of b (checked_of c.in_ok-problem.problem)))) ≡ c.pruned_words-needed.result = omega (arith, c.pruned_words-needed.ensures, pruned_word_count_held _ _ known c.table_of-table.result c.table_of-table.ensures.1 c.count_h-more.result c.count_h-more.ensures.0) in
    record {
      table_len = c.table_of-table.ensures.0;
      table_in_bounds = rw (← (words_held b (checked_of c.in_ok-problem.problem) known c.table_of-table.result c.table_of-table.ensures.1))
          (omega (arith, needed, fits_12 c.pruned_words-needed.result (length c.args.f.now) (accept 0) c.in_ok-ask_room.ensures refl));
    }

pub returns : goal.returns
returns c =
    let b = c.args.b.now in
    let known : ProblemOf b c.in_ok-problem.problem = passed b c.args.m c.args.rule _ _ c.in_ok-problem.ensures.answer c.in_ok-problem.ensures.problem refl in
    let needed : length (words (pruned (instance_of b (checked_of c.in_ok-problem.problem)))) ≡ c.pruned_words-needed.result = omega (arith, c.pruned_words-needed.ensures, pruned_word_count_held _ _ known c.table_of-table.result c.table_of-table.ensures.1 c.count_h-more.result c.count_h-more.ensures.0) in
    let (a, w) = writes pruned b c.args.m c.args.rule c.args.f.now _ c.in_ok-problem.ensures.answer c.in_ok-problem.ensures.problem c.pruned_words-needed.result needed c.in_ok-ask_room.ensures _
    (c.write_all.ensures
    ∙ ap (λ (l : List ℤ). filled l c.args.f.now) (sym (words_held b (checked_of c.in_ok-problem.problem) known c.table_of-table.result c.table_of-table.ensures.1))) in
    record { value = a; f_after = w }
