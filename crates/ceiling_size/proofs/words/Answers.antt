-- `ceiling_size::words` meets its contract. Assumes nothing.
use native.Mathlib.Omega.{arith}
use Rattle.formula.proofs.Limits.{words_top}
use Rattle.ceiling.specs.Ceiling.{ceiling_words}
use Rattle.ceiling_size.proofs.words.Goals as goal

pub overflow_add-result : goal.overflow_add-result
overflow_add-result c = omega (arith, words_top _ c.args.s.limits)

pub returns : goal.returns
unfolding ceiling_words
returns c = omega arith
