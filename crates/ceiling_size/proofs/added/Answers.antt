-- `ceiling_size::added` meets its contract. It follows from the contracts of the functions called and the laws cited. Assumes nothing.
use mathlib.Core.Path.{◌∙◌}
use native.Mathlib.Omega.{arith}
use lib.Dec.{ltb}
use Prim.Native.Nat.{◌*◌}
use Rattle.ceiling.specs.Ceiling.{added_variables, added_count, added_words}
use Rattle.counting.specs.Over.{variables_over, clause_count_over, word_count_over}
use Rattle.ceiling_size.proofs.Laws.{as_number, none_added, parts}
use Rattle.ceiling_size.proofs.added.Goals as goal

pub returns-then-inputs-eq0-clause-variables_value : goal.returns-then-inputs-eq0-clause-variables_value
returns-then-inputs-eq0-clause-variables_value c =
    let (x, y, z) = none_added c.args.s.sizes c.args.s.limits c.args.ceiling.c c.if-inputs-eq0.true in (c.default.ensures.0 ∙ x, c.default.ensures.1.0 ∙ y, c.default.ensures.1.1 ∙ z)

pub overflow_add-result : goal.overflow_add-result
overflow_add-result c = let p = parts c.args.s.sizes c.args.s.limits c.args.ceiling.c c.args.ceiling.c_most (omega arith) in omega (arith, as_number)

pub overflow_add-result-3 : goal.overflow_add-result-3
overflow_add-result-3 c = let p = parts c.args.s.sizes c.args.s.limits c.args.ceiling.c c.args.ceiling.c_most (omega arith) in omega (arith, as_number)

pub overflow_add-result-4 : goal.overflow_add-result-4
overflow_add-result-4 c = let p = parts c.args.s.sizes c.args.s.limits c.args.ceiling.c c.args.ceiling.c_most (omega arith) in omega (arith, as_number)

pub overflow_add-result-6 : goal.overflow_add-result-6
overflow_add-result-6 c = let p = parts c.args.s.sizes c.args.s.limits c.args.ceiling.c c.args.ceiling.c_most (omega arith) in omega (arith, as_number)

pub overflow_add-result-7 : goal.overflow_add-result-7
overflow_add-result-7 c = let p = parts c.args.s.sizes c.args.s.limits c.args.ceiling.c c.args.ceiling.c_most (omega arith) in omega (arith, as_number)

pub returns-clause-variables_value : goal.returns-clause-variables_value
unfolding added_variables added_count added_words variables_over clause_count_over word_count_over
returns-clause-variables_value c =
    let o = as_number (ltb c.args.ceiling.c (c.args.s.sizes.m * c.args.s.sizes.k)) in (omega arith, omega arith, omega arith)

pub returns-clause-variables_bound : goal.returns-clause-variables_bound
returns-clause-variables_bound c =
    let p = parts c.args.s.sizes c.args.s.limits c.args.ceiling.c c.args.ceiling.c_most (omega arith) in
    let o = as_number (ltb c.args.ceiling.c (c.args.s.sizes.m * c.args.s.sizes.k)) in (omega arith, omega arith, omega arith)
