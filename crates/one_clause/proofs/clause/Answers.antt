-- `one_clause::clause` meets its contract: the instance check decides, or there is no such clause, or it does not fit, or it is copied. Assumes nothing.
use mathlib.Core.Path.{sym, ◌∙◌, ap}
use native.Mathlib.Omega.{arith}
use lib.Seq.{length-take-le}
use Rattle.answers.specs.Answers.{refuse}
use Rattle.answers.specs.Returned.{refused}
use Rattle.answers.proofs.Returned.{passed_on}
use Rattle.one_clause.proofs.Out.{fits, copied, refuses, no_clause, short, no_room, gives}
use Rattle.one_clause.proofs.clause.Goals as goal

pub returns-in_err-problem-clause-value : goal.returns-in_err-problem-clause-value
returns-in_err-problem-clause-value c =
    passed_on _ _ c.from_residual.result c.from_residual.ensures.1 (refuses c.args.b.now c.args.m c.args.rule c.args.number c.args.f.now _ c.in_err-problem.ensures.answer).0

pub returns-in_err-problem-clause-f_after : goal.returns-in_err-problem-clause-f_after
returns-in_err-problem-clause-f_after c = (refuses c.args.b.now c.args.m c.args.rule c.args.number c.args.f.now _ c.in_err-problem.ensures.answer).1

pub returns-then-count-number : goal.returns-then-count-number
returns-then-count-number c =
    let q = no_clause c.args.b.now c.args.m c.args.rule c.args.number c.args.f.now c.in_ok-problem.problem c.in_ok-problem.ensures.answer c.in_ok-problem.ensures.problem c.at.result (omega arith) (ap refused c.at.ensures ∙ ap (refuse 11) c.clause_count-count.ensures) in
    record { value = q.0; f_after = q.1 }

pub put_number-words-requires : goal.put_number-words-requires
put_number-words-requires c = (omega arith, short c.args.b.now c.args.m c.args.rule c.args.number c.args.f.now c.in_ok-problem.problem c.in_ok-problem.ensures.answer c.in_ok-problem.ensures.problem (omega arith))

pub returns-then-f-words : goal.returns-then-f-words
returns-then-f-words c =
    let q = no_room c.args.b.now c.args.m c.args.rule c.args.number c.args.f.now c.in_ok-problem.problem c.in_ok-problem.ensures.answer c.in_ok-problem.ensures.problem (omega arith) _ _ _ c.put_number-words.ensures c.at-then-f-words.result c.if-f-words.true (ap refused c.at-then-f-words.ensures) in
    record { value = q.0; f_after = q.1 }

pub slice_bounds-line-end : goal.slice_bounds-line-end
slice_bounds-line-end c = fits _ _ _ c.put_number-words.ensures

pub slice_bounds-copy_from_slice-end-3 : goal.slice_bounds-copy_from_slice-end-3
slice_bounds-copy_from_slice-end-3 c = sym (length-take-le _ _ (fits _ _ _ c.put_number-words.ensures))

pub copy_from_slice-requires : goal.copy_from_slice-requires
copy_from_slice-requires c = length-take-le _ _ c.if-f-words.false ∙ sym (length-take-le _ _ (fits _ _ _ c.put_number-words.ensures))

pub returns : goal.returns
returns c =
    let q = gives c.args.b.now c.args.m c.args.rule c.args.number c.args.f.now c.in_ok-problem.problem c.in_ok-problem.ensures.answer c.in_ok-problem.ensures.problem (omega arith) _ _ _ c.put_number-words.ensures c.if-f-words.false in
    record { value = q.0; f_after = copied _ _ _ (fits _ _ _ c.put_number-words.ensures) c.copy_from_slice.ensures.after ∙ q.1 }
