-- `satisfaction::row_size` meets its contract: family by family. Assumes nothing.
use mathlib.Core.Logic.{inl, inr}
use mathlib.Core.Path.{sym, ◌∙◌, ap}
use native.Mathlib.Omega.{arith}
use lib.ListN.{length}
use Rattle.lists.proofs.Loops.{for_length}
use Rattle.instance.specs.Instance.{joined}
use Rattle.instance.specs.Problem.{checked_of}
use Rattle.formula.specs.Blocks.{blocks_at, block, held}
use Rattle.formula.proofs.Places.{exchanges_all}
use Rattle.satisfaction.specs.Rows.{row}
use Rattle.satisfaction.proofs.Bounds.{products}
use Rattle.satisfaction.proofs.Families.{size_A, size_B, size_C, size_D, size_E, size_F, one_G, two_G}
use Rattle.satisfaction.proofs.Truth.{length_G}
use Rattle.satisfaction.proofs.row_size.Goals as goal

pub returns-in-A : goal.returns-in-A
returns-in-A c =
    let g = held (checked_of c.args.problem.now) in
    let few = c.args.problem.now.shape.limits.k_most in
    elim c.in-A.is [ inl e ↦ rw e (size_A g, omega (arith, few)) | inr e ↦ rw e (size_C g, omega (arith, few)) ]

pub returns-in-B : goal.returns-in-B
returns-in-B c =
    let p = c.args.problem.now in
    rw c.in-B.is (λ t. size_B (held (checked_of p)) t ∙ sym p.ready.counted, omega (arith, p.shape.limits.k_most, p.shape.limits.g_most))

pub returns-in-D : goal.returns-in-D
returns-in-D c =
    let p = c.args.problem.now in
    rw (c.in-D.is, c.pair_count.ensures.0) (size_D (held (checked_of p)), omega (arith, (products p.shape.sizes p.shape.limits).D))

pub returns-in-E : goal.returns-in-E
returns-in-E c =
    let p = c.args.problem.now in
    rw (c.in-E.is, c.pair_count-in-E.ensures.0) (size_E (held (checked_of p)), omega (arith, (products p.shape.sizes p.shape.limits).E))

pub returns-in-F : goal.returns-in-F
returns-in-F c =
    let p = c.args.problem.now in
    rw c.in-F.is (size_F (held (checked_of p)), omega (arith, (products p.shape.sizes p.shape.limits).F))

pub returns-then-rule-eq2 : goal.returns-then-rule-eq2
unfolding row block blocks_at
returns-then-rule-eq2 c =
    let p = c.args.problem.now in
    rw c.in-G.is (
      λ t. ap length (two_G p.shape.sizes (joined p.near) t c.if-rule-eq2.true) ∙ exchanges_all p.shape.sizes (joined p.near) t p.ready.edged,
      (products p.shape.sizes p.shape.limits).exchanges,
    )

pub returns-else-rule-eq2 : goal.returns-else-rule-eq2
unfolding row block blocks_at
returns-else-rule-eq2 c =
    let p = c.args.problem.now in
    rw c.in-G.is (
      λ t. ap length (one_G p.shape.sizes (joined p.near) t c.if-rule-eq2.false) ∙ for_length p.shape.sizes.k _ _ (λ a l. length_G p.shape.sizes t a l),
      omega (arith, (products p.shape.sizes p.shape.limits).G),
    )
