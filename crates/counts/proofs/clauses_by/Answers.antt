-- `counts::clauses_by` meets its contract. It follows from the contracts of the functions called and the laws cited. Assumes nothing.
use mathlib.Core.Path.{refl}
use native.Mathlib.Omega.{arith}
use native.Mathlib.Numerals.{add-one}
use Rattle.counts.proofs.Laws.{products}
use Rattle.counts.proofs.clauses_by.Goals as goal

pub overflow_mul-result : goal.overflow_mul-result
overflow_mul-result c = let p = products c.args.s.sizes c.args.s.limits in omega arith

pub overflow_mul-result-2 : goal.overflow_mul-result-2
overflow_mul-result-2 c = let p = products c.args.s.sizes c.args.s.limits in omega arith

pub overflow_mul-result-3 : goal.overflow_mul-result-3
overflow_mul-result-3 c = let p = products c.args.s.sizes c.args.s.limits in rw c.pair_count-vertex_pairs.ensures.0 (omega arith)

pub overflow_mul-result-4 : goal.overflow_mul-result-4
overflow_mul-result-4 c = let p = products c.args.s.sizes c.args.s.limits in omega arith

pub overflow_mul-result-5 : goal.overflow_mul-result-5
overflow_mul-result-5 c = let p = products c.args.s.sizes c.args.s.limits in rw c.pair_count-agent_pairs.ensures.0 (omega arith)

pub overflow_mul-result-6 : goal.overflow_mul-result-6
overflow_mul-result-6 c = let p = products c.args.s.sizes c.args.s.limits in omega arith

pub overflow_mul-result-7 : goal.overflow_mul-result-7
overflow_mul-result-7 c = let p = products c.args.s.sizes c.args.s.limits in omega arith

pub returns : goal.returns
returns c =
    let w = c.args.s.limits in
    let p = products c.args.s.sizes w in
    let g = c.clauses_of_g.ensures in
    rw (c.pair_count-vertex_pairs.ensures.0, c.pair_count-agent_pairs.ensures.0) record { a_value = rw add-one (refl, refl, refl, refl, refl, refl, g.0); a_bound = (w.k_most, omega (arith, w.k_most, w.g_most), p.rows', p.d, p.e, p.f, g.1) }
