-- `solver_tokens::read_digits` meets its contract. Assumes nothing.
use Rattle.std.proofs.Common.{◌≡◌, true, sym, ◌∙◌, arith}
use Rattle.decimals.specs.Decimals.{digit?}
use Rattle.solver_tokens.specs.Token.{token}
use Rattle.solver_tokens.proofs.Laws.{number_done, number_begun, number_over, digit_in}
use Rattle.solver_tokens.proofs.read_digits.Goals as goal

pub returns-then-not-is_ascii_digit : goal.returns-then-not-is_ascii_digit
returns-then-not-is_ascii_digit c =
    c.then_some.ensures
    ∙ rw c.is_end.ensures
    (number_done c.args.text.now c.args.n c.loop-x.at c.byte_at-d.result c.byte_at-d.ensures c.loop-x.x c.loop-x-test.true (sym c.is_ascii_digit.ensures.value ∙ c.if-not-is_ascii_digit.true)
    ∙ c.loop-x.invariant.same)

pub loop-x-preserved : goal.loop-x-preserved
loop-x-preserved c =
    let e : digit? c.byte_at-d.result ≡ true = sym c.is_ascii_digit.ensures.value ∙ c.if-not-is_ascii_digit.false in
    record {
      inside = omega (arith, digit_in c.args.text.now c.args.n c.loop-x.at c.byte_at-d.result c.byte_at-d.ensures e);
      same = rw c.from.ensures (number_begun c.args.text.now c.args.n c.loop-x.at c.byte_at-d.result c.byte_at-d.ensures c.loop-x.x e ∙ c.loop-x.invariant.same);
    }

pub returns : goal.returns
returns c = number_over c.args.n c.loop-x.x c.loop-x.at (token c.args.text.now c.loop-x.at) (omega arith) ∙ c.loop-x.invariant.same
