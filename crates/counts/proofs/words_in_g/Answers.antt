-- `counts::words_in_g` meets its contract: by the rule. Assumes nothing.
use mathlib.Core.Path.{sym, ap}
use mathlib.Core.Bool.{Bool, cond}
use Prim.Native.Nat.{ℕ}
use native.Mathlib.Omega.{arith}
use borrow.Author.Tests.{eq-eqb, ne_eqb}
use Rattle.counts.proofs.words_in_g.Goals as goal

pub returns-then-s-eq2 : goal.returns-then-s-eq2
returns-then-s-eq2 c = (sym (ap (λ (f : Bool). cond {A = ℕ} f 5 3) (eq-eqb c.args.s.rule 2 c.if-s-eq2.true)), omega arith)

pub returns : goal.returns
returns c = (sym (ap (λ (f : Bool). cond {A = ℕ} f 5 3) (ne_eqb c.args.s.rule 2 c.if-s-eq2.false)), omega arith)
