-- `solver_tokens::near_digits` meets its contract. Assumes nothing.
use Rattle.std.proofs.Common.{◌≡◌}
use Rattle.solver_tokens.specs.Token.{token, number_of}
use Rattle.solver_tokens.proofs.near_digits.Given as goal

abbrev pub invariant-loop-at : goal.invariant-loop-at
invariant-loop-at l = number_of l.n l.x (token l.text l.at) l.at ≡ number_of l.n 0 (token l.text l.from) l.from
