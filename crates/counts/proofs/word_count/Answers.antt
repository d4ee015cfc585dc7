-- `counts::word_count` meets its contract. It follows from the contracts of the functions called and the laws cited. Assumes nothing.
use Prim.Native.Nat.{◌*◌, ◌≤◌}
use native.Mathlib.Nat.{mul-le-mul}
use native.Mathlib.Omega.{arith}
use native.Mathlib.Numerals.{add-one}
use Rattle.counts.proofs.Laws.{products}
use Rattle.formula.specs.Counts.{word_count}
use Rattle.counts.proofs.word_count.Goals as goal

pub overflow_mul-result-3 : goal.overflow_mul-result-3
overflow_mul-result-3 c = let p = products c.args.s.sizes c.args.s.limits in omega arith

pub overflow_mul-result-4 : goal.overflow_mul-result-4
overflow_mul-result-4 c = let p = products c.args.s.sizes c.args.s.limits in omega arith

pub overflow_add-result-4 : goal.overflow_add-result-4
overflow_add-result-4 c = let p = products c.args.s.sizes c.args.s.limits in omega arith

pub overflow_add-result-5 : goal.overflow_add-result-5
overflow_add-result-5 c = let p = products c.args.s.sizes c.args.s.limits in omega arith

pub overflow_add-result-6 : goal.overflow_add-result-6
overflow_add-result-6 c = let p = products c.args.s.sizes c.args.s.limits in omega arith

pub overflow_mul-result-7 : goal.overflow_mul-result-7
overflow_mul-result-7 c = let p = products c.args.s.sizes c.args.s.limits in omega arith

pub overflow_mul-result-10 : goal.overflow_mul-result-10
overflow_mul-result-10 c = let p = products c.args.s.sizes c.args.s.limits in omega arith

pub overflow_add-result-8 : goal.overflow_add-result-8
overflow_add-result-8 c = let p = products c.args.s.sizes c.args.s.limits in omega (arith, c.clauses_by-c.ensures.a_bound, c.args.s.limits.g_most, c.args.s.limits.k_most)

pub overflow_mul-result-11 : goal.overflow_mul-result-11
overflow_mul-result-11 c =
    let g : c.words_in_g.result * c.clauses_by-c.result.g ≤ 5 * 15482880 = mul-le-mul {n₂ = 5} {m₂ = 15482880} c.words_in_g.ensures.1 c.clauses_by-c.ensures.a_bound.6 in
    omega arith

pub overflow_add-result-9 : goal.overflow_add-result-9
overflow_add-result-9 c =
    let p = products c.args.s.sizes c.args.s.limits in
    let g : c.words_in_g.result * c.clauses_by-c.result.g ≤ 5 * 15482880 = mul-le-mul {n₂ = 5} {m₂ = 15482880} c.words_in_g.ensures.1 c.clauses_by-c.ensures.a_bound.6 in
    omega (arith, c.clauses_by-c.ensures.a_bound, c.args.s.limits.g_most, c.args.s.limits.k_most)

pub returns : goal.returns
unfolding word_count
returns c = let q = c.clauses_by-c.ensures.a_value in rw (q.3, q.4, q.6, c.words_in_g.ensures.0, add-one c.args.s.sizes.m)
