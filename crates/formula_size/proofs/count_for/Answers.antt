-- `formula_size::count_for` meets its contract. The invariant: `Passing`, over the first n of each. Assumes nothing.
use mathlib.Core.Path.{◌≡◌, refl, ◌∙◌, ap, ap₂}
use mathlib.Core.Logic.{⊎_elim, inl, inr}
use Prim.Native.Nat.{ℕ, suc, ◌+◌, ◌≤◌, min}
use native.Mathlib.Numerals.{add-one}
use native.Mathlib.Omega.{arith}
use lib.ListN.{length, length-append, length-take, take, get_or}
use lib.Seq.{get_or-take}
use borrow.Author.Rules.{rules}
use Rattle.lists.specs.Loop.{sum}
use Rattle.lists.proofs.Sums.{sum_ext}
use Rattle.formula_size.proofs.Laws.{passing_next, passing_done}
use Rattle.formula_size.proofs.count_for.Goals as goal

pub loop-x-init : goal.loop-x-init
loop-x-init c =
    let a : c.into_iter-x-iterator.result.a.rest.now ≡ take c.args.s.sizes.n c.args.from.now = search rules in
    let b : c.into_iter-x-iterator.result.b.rest.now ≡ take c.args.s.sizes.n c.args.to.now = search rules in
    record {
      all = omega (arith, ap length a, length-take c.args.s.sizes.n c.args.from.now, c.args.s.limits.n_most);
      from_left = a;
      to_left = b;
      same = refl;
      most = omega arith;
    }

pub overflow_add-count : goal.overflow_add-count
overflow_add-count c = omega (arith, c.times_far-count.ensures.1, c.args.s.limits.n_most, c.loop-x.invariant.most, c.loop-x.invariant.all)

pub loop-x-preserved : goal.loop-x-preserved
loop-x-preserved c =
    let steps = c.in-Some.ensures.steps in
    rw length-append
    (passing_next c.loop-x.invariant _ _ _ _ _ _ steps.0 steps.1 (omega (arith, ap length steps.0)) c.times_far-count.ensures.0 c.times_far-count.ensures.1)

pub returns : goal.returns
returns c =
    let w = c.loop-x.invariant in
    let s = c.args.s.sizes in
    let from = c.args.from.now in
    let to = c.args.to.now in
    let room : s.n ≤ 64 = c.args.s.limits.n_most in
    let e : length c.loop-x.yielded ≡ s.n =
    passing_done w (omega (arith, room, length-take s.n from)) (omega (arith, room, length-take s.n to)) (λ l. ⊎_elim (λ h. inl h.1.0) (λ h. inr h.1.0) c.in-None.ensures.steps) in (
      c.from.ensures
          ∙ w.same
          ∙ ap₂ (λ (j t : ℕ). sum j (λ u. min t (get_or (take s.n from) u 0 + get_or (take s.n to) u 0))) e (add-one s.m)
          ∙ sum_ext s.n _ _ (λ u l. ap₂ (λ (x y : ℕ). min (suc s.m) (x + y)) (get_or-take s.n from u 0 l) (get_or-take s.n to u 0 l)),
      omega (arith, w.most, room),
    )
