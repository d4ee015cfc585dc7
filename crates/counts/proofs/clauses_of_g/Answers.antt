-- `counts::clauses_of_g` meets its contract: by the rule. Assumes nothing.
use mathlib.Core.Path.{sym, ap}
use mathlib.Core.Bool.{Bool, cond}
use Prim.Native.Nat.{ℕ, ◌*◌, ◌-◌}
use native.Mathlib.Omega.{arith}
use borrow.Author.Tests.{eq-eqb, ne_eqb}
use Rattle.instance.specs.declared.Sizes.{Sizes}
use Rattle.counts.proofs.Laws.{products}
use Rattle.counts.proofs.clauses_of_g.Goals as goal

-- G's count by a rule
by_rule_lem : Sizes → Bool → ℕ
by_rule_lem s f = cond f (s.m * s.e * (s.k * (s.k - 1))) (s.m * s.k * (s.k - 1) * s.n)

pub overflow_mul-result : goal.overflow_mul-result
overflow_mul-result c = let p = products c.args.s.sizes c.args.s.limits in omega arith

pub overflow_mul-result-then-s-eq2 : goal.overflow_mul-result-then-s-eq2
overflow_mul-result-then-s-eq2 c = let p = products c.args.s.sizes c.args.s.limits in omega arith

pub overflow_mul-result-then-s-eq2-2 : goal.overflow_mul-result-then-s-eq2-2
overflow_mul-result-then-s-eq2-2 c = let p = products c.args.s.sizes c.args.s.limits in omega arith

pub returns-then-s-eq2 : goal.returns-then-s-eq2
unfolding by_rule_lem
returns-then-s-eq2 c = (sym (ap (by_rule_lem c.args.s.sizes) (eq-eqb c.args.s.sizes.rule 2 c.if-s-eq2.true)), (products c.args.s.sizes c.args.s.limits).exchanges)

pub overflow_mul-result-2 : goal.overflow_mul-result-2
overflow_mul-result-2 c = let p = products c.args.s.sizes c.args.s.limits in omega arith

pub overflow_mul-result-3 : goal.overflow_mul-result-3
overflow_mul-result-3 c = let p = products c.args.s.sizes c.args.s.limits in omega arith

pub overflow_mul-result-4 : goal.overflow_mul-result-4
overflow_mul-result-4 c = let p = products c.args.s.sizes c.args.s.limits in omega arith

pub returns : goal.returns
unfolding by_rule_lem
returns c = (sym (ap (by_rule_lem c.args.s.sizes) (ne_eqb c.args.s.sizes.rule 2 c.if-s-eq2.false)), omega (arith, (products c.args.s.sizes c.args.s.limits).followings))
