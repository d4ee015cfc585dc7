-- `formula_size::pruned_words` meets its contract. Assumes nothing.
use native.Mathlib.Omega.{arith}
use Rattle.formula.proofs.Limits.{words_top}
use Rattle.formula_size.proofs.pruned_words.Goals as goal

pub overflow_add-result : goal.overflow_add-result
overflow_add-result c = omega (arith, c.word_count.ensures, words_top c.args.s.sizes c.args.s.limits)
