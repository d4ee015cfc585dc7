-- `solver_tokens::read_digits` meets its contract: what is read of the rest is what is read of the whole. Assumes nothing.
use Rattle.std.proofs.Common.{◌-◌, ◌≡◌, ◌≤◌, length}
use Rattle.solver_tokens.specs.Token.{token, number_of}
use Rattle.solver_tokens.proofs.read_digits.Given as goal

abbrev pub invariant-loop-x : goal.invariant-loop-x
invariant-loop-x l = record {
  inside : l.at ≤ length l.text;
  same : number_of l.n l.x (token l.text l.at) l.at ≡ number_of l.n 0 (token l.text l.from) l.from;
}

abbrev pub decreases-loop-x : goal.decreases-loop-x
decreases-loop-x l = length l.text - l.at
