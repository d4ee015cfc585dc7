-- `solver_tokens::read_token` meets its contract. Assumes nothing.
use Rattle.std.proofs.Common.{None, Some, ◌∙◌}
use Rattle.solver_tokens.proofs.Laws.{token_zero, token_negative, token_positive}
use Rattle.solver_tokens.proofs.read_token.Goals as goal

pub returns-then-first-eq48 : goal.returns-then-first-eq48
returns-then-first-eq48 c =
    c.then_some.ensures
    ∙ rw c.is_end.ensures (token_zero c.args.text.now c.args.n c.args.from c.byte_at-first.result c.byte_at-first.ensures c.byte_at-next.result c.if-first-eq48.true c.byte_at-next.ensures)

pub returns-in_err-x : goal.returns-in_err-x
returns-in_err-x c = c.from_residual.ensures ∙ token_negative c.args.text.now c.args.n c.args.from c.byte_at-first.result c.byte_at-first.ensures None c.if-first-eq45.true c.in_err-x.ensures

pub returns-then-first-eq45 : goal.returns-then-first-eq45
returns-then-first-eq45 c = token_negative c.args.text.now c.args.n c.args.from c.byte_at-first.result c.byte_at-first.ensures (Some c.in_ok-x.x) c.if-first-eq45.true c.in_ok-x.ensures

pub returns-in_err-x-2 : goal.returns-in_err-x-2
returns-in_err-x-2 c = c.from_residual-in_err-x-2.ensures ∙ token_positive c.args.text.now c.args.n c.args.from c.byte_at-first.result c.byte_at-first.ensures None c.if-first-eq48.false c.if-first-eq45.false c.in_err-x-2.ensures

pub returns : goal.returns
returns c = token_positive c.args.text.now c.args.n c.args.from c.byte_at-first.result c.byte_at-first.ensures (Some c.in_ok-x-2.x) c.if-first-eq48.false c.if-first-eq45.false c.in_ok-x-2.ensures
