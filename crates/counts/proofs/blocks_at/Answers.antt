-- `counts::blocks_at` meets its contract: family by family. Assumes nothing.
use mathlib.Core.Path.{refl}
use mathlib.Core.Logic.{inl, inr}
use native.Mathlib.Omega.{arith}
use Rattle.formula.specs.Blocks.{blocks_at}
use Rattle.counts.proofs.blocks_at.Goals as goal

pub returns-in-E : goal.returns-in-E
unfolding blocks_at
returns-in-E c = rw c.in-E.is (refl, c.args.s.limits.n_most)

pub returns-in-G : goal.returns-in-G
unfolding blocks_at
returns-in-G c = rw c.in-G.is c.ends_at.ensures

pub returns-in-A : goal.returns-in-A
unfolding blocks_at
returns-in-A c =
    let few = c.args.s.limits.k_most in
    elim c.in-A.is [
      | inl e ↦ rw e (refl, omega (arith, few))
      | inr f ↦ elim f [
        | inl e ↦ rw e (refl, omega (arith, few))
        | inr f ↦ elim f [
          | inl e ↦ rw e (refl, omega (arith, few))
          | inr f ↦ elim f [ inl e ↦ rw e (refl, omega (arith, few)) | inr e ↦ rw e (refl, omega (arith, few)) ]
        ]
      ]
    ]
