-- `encoder::write_agent` meets its contract: before turn v the negatives below v stand in the slice; the last store makes one of them
-- true. Assumes nothing.
use Rattle.encoder.proofs.Laws.{filled_next, filled_but, filled_none}
use mathlib.Core.Path.{◌≡◌, refl, sym, ◌∙◌, ap}
use mathlib.Core.List.{List, [], ◌∷◌}
use Prim.Native.Nat.{ℕ, ◌+◌}
use native.Mathlib.Omega.{arith}
use mir.Syntax.{w32}
use mir.Facts.{to_z-of_z}
use borrow.Author.Rules.{sfits_of}
use lib.ListN.{set, length-set}
use lib.IntN.{ℤ, pos}
use Rattle.lists.specs.Loop.{for}
use Rattle.lists.specs.Slice.{filled}
use Rattle.lists.proofs.Slices.{filled_nil}
use Rattle.encoder.proofs.write_agent.Invariants.{denies}
use Rattle.encoder.proofs.write_agent.Goals as goal

-- the two literals of the variable v after the first
abbrev says : ℕ → ℕ → ℤ
says first v = pos (first + v)

pub loop-v-init : goal.loop-v-init
loop-v-init c = (omega arith, refl, sym (filled_nil _))

pub negation_after-requires : goal.negation_after-requires
negation_after-requires c = omega (arith, c.requires.0, c.loop-v-test.true)

pub offset_bounds-z-v : goal.offset_bounds-z-v
offset_bounds-z-v c = let w = c.requires.0 in omega (arith, c.loop-v-test.true)

pub bounds-z-v : goal.bounds-z-v
bounds-z-v c = let e = c.loop-v.invariant.1 in let r = c.requires.1 in omega (arith, c.loop-v-test.true)

pub loop-v-preserved : goal.loop-v-preserved
loop-v-preserved c =
    let turn = c.loop-v in
    let e = turn.invariant.1 in
    let r = c.requires.1 in (
      omega (arith, c.loop-v-test.true),
      simp length-set turn.invariant.1,
      filled_next (denies c.args.first.0) _ _ turn.v _ turn.invariant.2 (omega (arith, c.loop-v-test.true)) (to_z-of_z {w = w32} (sfits_of c.negation_after.type_inv) ∙ c.negation_after.ensures),
    )

pub overflow_add-first : goal.overflow_add-first
overflow_add-first c = omega (arith, c.requires.0, c.if-vertex-n.true)

pub literal_of-requires : goal.literal_of-requires
literal_of-requires c = omega (arith, c.requires.0, c.if-vertex-n.true)

pub offset_bounds-z-vertex : goal.offset_bounds-z-vertex
offset_bounds-z-vertex c = let w = c.requires.0 in omega (arith, c.if-vertex-n.true)

pub bounds-z-vertex : goal.bounds-z-vertex
bounds-z-vertex c = let e = c.loop-v.invariant.1 in let r = c.requires.1 in omega (arith, c.if-vertex-n.true)

pub shape_of-z-then-vertex-n : goal.shape_of-z-then-vertex-n
shape_of-z-then-vertex-n c = simp length-set c.loop-v.invariant.1

pub returns-then-vertex-n : goal.returns-then-vertex-n
returns-then-vertex-n c =
    let args = c.args in
    let e : c.loop-v.v ≡ args.n = omega arith in
    let all : c.loop-v.z ≡ filled (for args.n λ v. denies args.first.0 v ∷ []) args.z.now =
    c.loop-v.invariant.2 ∙ ap (λ (j : ℕ). filled (for j λ v. denies args.first.0 v ∷ []) args.z.now) e in
    let first = args.first.0 in
    let e = to_z-of_z {w = w32} (sfits_of c.literal_of.type_inv) ∙ c.literal_of.ensures in
    ap (λ (x : ℤ). set c.loop-v.z args.at.0 x) e
    ∙ ap (λ (y : List ℤ). set y args.at.0 (says first args.at.0)) all
    ∙ filled_but (denies first) (says first) args.at.0 args.n args.z.now c.requires.1 c.if-vertex-n.true

pub shape_of-z-else-vertex-n : goal.shape_of-z-else-vertex-n
shape_of-z-else-vertex-n c = c.loop-v.invariant.1

pub returns-else-vertex-n : goal.returns-else-vertex-n
returns-else-vertex-n c =
    let args = c.args in
    let e : c.loop-v.v ≡ args.n = omega arith in
    let all : c.loop-v.z ≡ filled (for args.n λ v. denies args.first.0 v ∷ []) args.z.now =
    c.loop-v.invariant.2 ∙ ap (λ (j : ℕ). filled (for j λ v. denies args.first.0 v ∷ []) args.z.now) e in
    all ∙ filled_none (denies args.first.0) (says args.first.0) args.at.0 args.n args.z.now c.if-vertex-n.false
