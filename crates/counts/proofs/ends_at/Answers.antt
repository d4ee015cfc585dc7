-- `counts::ends_at` meets its contract: by the rule. Assumes nothing.
use mathlib.Core.Path.{refl}
use native.Mathlib.Omega.{arith}
use borrow.Author.Tests.{eq-eqb, ne_eqb}
use Rattle.counts.proofs.ends_at.Goals as goal

pub returns-then-s-eq2 : goal.returns-then-s-eq2
returns-then-s-eq2 c = rw (eq-eqb _ _ c.if-s-eq2.true) (refl, c.args.s.limits.n_most)

pub returns : goal.returns
returns c = rw (ne_eqb _ _ c.if-s-eq2.false) (refl, omega (arith, c.args.s.limits.k_most))
