-- `solver_tokens::near_digits` meets its contract. Assumes nothing.
use Rattle.std.proofs.Common.{get_or, sym, ◌∙◌, arith}
use Rattle.std.proofs.lemmas.List.{get_or_default}
use Rattle.solver_tokens.specs.Token.{token}
use Rattle.solver_tokens.proofs.Laws.{number_done, number_begun, number_over}
use Rattle.solver_tokens.proofs.near_digits.Goals as goal

pub returns-then-n-x : goal.returns-then-n-x
returns-then-n-x c = number_over c.args.n c.loop-at.x c.loop-at.at (token c.args.text.now c.loop-at.at) c.if-n-x.true ∙ c.loop-at.invariant

pub returns-then-not-is_ascii_digit : goal.returns-then-not-is_ascii_digit
returns-then-not-is_ascii_digit c =
    let d = get_or_default c.args.text.now c.loop-at.at 0 10 (omega arith) in
    c.then_some.ensures
    ∙ rw c.is_end.ensures
    (number_done c.args.text.now c.args.n c.loop-at.at (get_or c.args.text.now c.loop-at.at 0) d c.loop-at.x c.if-n-x.false (sym c.is_ascii_digit.ensures.value ∙ c.if-not-is_ascii_digit.true)
    ∙ c.loop-at.invariant)

pub loop-at-preserved : goal.loop-at-preserved
loop-at-preserved c =
    let d = get_or_default c.args.text.now c.loop-at.at 0 10 (omega arith) in
    rw c.from.ensures
    (number_begun c.args.text.now c.args.n c.loop-at.at (get_or c.args.text.now c.loop-at.at 0) d c.loop-at.x (sym c.is_ascii_digit.ensures.value ∙ c.if-not-is_ascii_digit.false)
    ∙ c.loop-at.invariant)
