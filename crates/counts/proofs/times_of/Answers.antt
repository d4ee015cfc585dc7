-- `counts::times_of` meets its contract: family by family. Assumes nothing.
use mathlib.Core.Path.{refl}
use mathlib.Core.Logic.{inl, inr}
use native.Mathlib.Numerals.{add-one}
use native.Mathlib.Omega.{arith}
use Rattle.formula.specs.Blocks.{times}
use Rattle.counts.proofs.times_of.Goals as goal

pub returns-in-A : goal.returns-in-A
unfolding times
returns-in-A c = elim c.in-A.is [ inl e ↦ rw e (refl, omega arith) | inr e ↦ rw e (refl, omega arith) ]

pub returns-in-C : goal.returns-in-C
unfolding times
returns-in-C c =
    let few = c.args.s.limits.m_most in
    elim c.in-C.is [ inl e ↦ rw (e, add-one) (refl, omega (arith, few)) | inr f ↦ elim f [ inl e ↦ rw (e, add-one) (refl, omega (arith, few)) | inr e ↦ rw (e, add-one) (refl, omega (arith, few)) ] ]

pub returns-in-F : goal.returns-in-F
unfolding times
returns-in-F c =
    let few = c.args.s.limits.m_most in
    elim c.in-F.is [ inl e ↦ rw e (refl, omega (arith, few)) | inr e ↦ rw e (refl, omega (arith, few)) ]
