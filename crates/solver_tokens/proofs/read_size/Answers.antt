-- `solver_tokens::read_size` meets its contract. Assumes nothing.
use Rattle.std.proofs.Common.{sym, ◌∙◌}
use Rattle.solver_tokens.proofs.Laws.{size_none, size_zero, size_number}
use Rattle.solver_tokens.proofs.read_size.Goals as goal

pub returns-then-not-is_ascii_digit : goal.returns-then-not-is_ascii_digit
returns-then-not-is_ascii_digit c = size_none c.args.text.now c.args.n c.args.from c.byte_at-d.result c.byte_at-d.ensures (sym c.is_ascii_digit.ensures.value ∙ c.if-not-is_ascii_digit.true)

pub returns-then-d-eq48 : goal.returns-then-d-eq48
returns-then-d-eq48 c = size_zero c.args.text.now c.args.n c.args.from c.byte_at-d.result c.byte_at-d.ensures c.if-d-eq48.true

pub returns-then-from-text : goal.returns-then-from-text
returns-then-from-text c =
    c.near_digits.ensures
    ∙ size_number c.args.text.now c.args.n c.args.from c.byte_at-d.result c.byte_at-d.ensures (sym c.is_ascii_digit.ensures.value ∙ c.if-not-is_ascii_digit.false) c.if-d-eq48.false

pub returns : goal.returns
returns c =
    c.read_digits.ensures
    ∙ size_number c.args.text.now c.args.n c.args.from c.byte_at-d.result c.byte_at-d.ensures (sym c.is_ascii_digit.ensures.value ∙ c.if-not-is_ascii_digit.false) c.if-d-eq48.false
