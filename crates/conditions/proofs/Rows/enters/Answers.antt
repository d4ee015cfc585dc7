-- `Rows::enters` meets its contract: where the two places differ, the second is not among those on which agents stood, or no agent goes from there to the first. Assumes nothing.
use mathlib.Core.Path.{◌≡◌, subst, ◌∙◌}
use mathlib.Core.Bool.{not, ◌&&◌}
use Prim.Native.Nat.{ℕ}
use native.Mathlib.Omega.{arith}
use lib.Dec.{eqb}
use Rattle.std.specs.Prelude.{is_none}
use Rattle.std.proofs.Common.{rules}
use Rattle.answers.specs.Fault.{FirstFailing}
use Rattle.plan.specs.Plan.{row}
use Rattle.conditions.proofs.Laws.{keeps_2, enters_2, exchanges_2, unset}
use Rattle.conditions.proofs.Rows.enters.Goals as goal

pub has_bit-requires : goal.has_bit-requires
has_bit-requires c = omega (arith, c.from.ensures)

pub returns-then-self-eq2 : goal.returns-then-self-eq2
returns-then-self-eq2 c =
    let e : c.is_none.result ≡ is_none c.first_going.result = search rules in
    e
    ∙ exchanges_2 (row c.args.self.now.here.now) (row c.args.self.now.next.now) c.args.a c.args.self.now.sizes c.if-self-eq2.true c.if-v-w.true c.first_going.result
    (subst (λ (n : ℕ). FirstFailing n (λ b. not (eqb (row c.args.self.now.here.now b) (row c.args.self.now.next.now c.args.a) && eqb (row c.args.self.now.next.now b) (row c.args.self.now.here.now c.args.a))) c.first_going.result) c.args.self.now.long.0 c.first_going.ensures)

pub returns-then-v-w : goal.returns-then-v-w
returns-then-v-w c =
    unset c.args.stood c.from.ensures c.has_bit.ensures
    ∙ enters_2 _ _ c.args.a _ c.if-self-eq2.false c.if-v-w.true _ c.requires.1

pub returns : goal.returns
returns c = keeps_2 _ _ c.args.a _ c.if-v-w.false
