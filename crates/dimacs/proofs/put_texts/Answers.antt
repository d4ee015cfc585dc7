-- `dimacs::put_texts` meets its contract: the numbers first, and after x turns the negatives of those below x. Assumes nothing.
use mathlib.Core.Path.{◌≡◌, ◌∙◌, subst}
use Prim.Native.Nat.{ℕ, ◌+◌}
use native.Mathlib.Omega.{arith}
use Rattle.dimacs.specs.Table.{Negatives}
use Rattle.dimacs.proofs.Table.{texts_whole}
use Rattle.dimacs.proofs.put_texts.Goals as goal

pub loop-x-init : goal.loop-x-init
unfolding Negatives
loop-x-init c = (c.put_numbers.ensures, λ y p l. absurd (let z : ⊥ = omega arith in z))

pub returns : goal.returns
returns c =
    let i = c.loop-x.invariant in
    texts_whole c.args.top c.loop-x.texts (c.requires.0, c.loop-x.auto.texts ∙ c.put_numbers.auto.texts ∙ c.requires.1) i.0
    (subst (λ (j : ℕ). Negatives c.args.top j c.loop-x.texts) (let e : c.loop-x.x ≡ c.args.top + 1 = omega arith in e) i.1)
