-- `satisfaction::unit_fault` meets its contract: the agents below a are at their vertices, or passed over. Assumes nothing.
use Prim.Native.Nat.{ℕ, ◌+◌, ◌≤◌, ◌<◌}
use mathlib.Core.Path.{◌≡◌, ◌∙◌, ap}
use mathlib.Core.Logic.{inl, inr, ⊎_elim}
use mathlib.Core.Bool.{Bool, true, false}
use mathlib.Core.List.{List}
use native.Mathlib.Omega.{arith}
use borrow.Author.Count.{below_more}
use lib.ListN.{get_or}
use lib.Dec.{T}
use lib.IntN.{ℤ}
use Rattle.lists.proofs.Tests.{or_iff}
use Rattle.answers.proofs.Faults.{holds, fails, fault_at}
use Rattle.instance.specs.declared.Sizes.{Sizes}
use Rattle.instance.specs.Instance.{free}
use Rattle.formula.specs.Variables.{X, index, variable_count}
use Rattle.formula.proofs.Variables.{vertices_run}
use Rattle.valuation.specs.Valuation.{true?}
use Rattle.valuation.specs.Satisfying.{Valuation}
use Rattle.satisfaction.specs.Rows.{denies}
use Rattle.satisfaction.proofs.Entries.{denied_or_true}
use Rattle.satisfaction.proofs.unit_fault.Goals.{then-not-is_free+else-denied, else-not-is_free}
use Rattle.satisfaction.proofs.unit_fault.Goals as goal

-- what the call answers of the entry of agent a's vertex v: its negative says that the agent is not there, and else it is
module _ (s : Sizes) (es : List ℤ) (w : Valuation (variable_count s) es) (t a v base u : ℕ) (x : t ≤ s.m) (y : a < s.k) (z : v < s.n) (e : base ≡ index s t a 0) (d : u ≡ v) {r : Bool} (h : r ≡ denies es (base + u)) where
  told : r ≡ denies es (index s t a v)
  told = h ∙ ap (denies es) (omega (arith, vertices_run s t a v))

  not_there : r ≡ true → T (true? es (X s t a v)) → ⊥
  not_there q = (denied_or_true s es w t a v (omega arith) y z).0 (holds told q)

  there : r ≡ false → T (true? es (X s t a v))
  there q = (denied_or_true s es w t a v (omega arith) y z).1 (fails told q)

pub returns-then-denied : goal.returns-then-denied
returns-then-denied c =
    let a = c.loop-a.a in
    let v = get_or c.args.ends.now a 0 in
    let bound = fails c.is_free.ensures c.if-not-is_free.true in
    let away = not_there c.args.s.sizes c.args.entries.now c.requires.valuation c.args.t a v c.first_entry-base.result c.from.result c.requires.t_le_m.0 c.loop-a-test.true (c.requires.t_le_m.1 a c.loop-a-test.true bound) c.first_entry-base.ensures.0 c.from.ensures c.denied.ensures c.if-denied.true in
    (c.loop-a-test.true, fault_at c.loop-a-test.true c.loop-a.invariant.1 (λ h. ⊎_elim bound away ((or_iff (free v) _).0 h)))

pub loop-a-preserved : goal.loop-a-preserved
loop-a-preserved c =
    let a = c.loop-a.a in
    let v = get_or c.args.ends.now a 0 in
    elim c.if-not-is_free.branch [
      | then-not-is_free+else-denied w ↦
          let bound = fails c.is_free.ensures w.if-not-is_free.true in
          let here = there c.args.s.sizes c.args.entries.now c.requires.valuation c.args.t a v w.first_entry-base.result w.from.result c.requires.t_le_m.0 c.loop-a-test.true (c.requires.t_le_m.1 a c.loop-a-test.true bound) w.first_entry-base.ensures.0 w.from.ensures w.denied.ensures w.if-denied.false in
          (omega arith, below_more _ _ c.loop-a.invariant.1 ((or_iff (free v) _).1 (inr here)))
      | else-not-is_free w ↦ (omega arith, below_more _ _ c.loop-a.invariant.1 ((or_iff (free v) _).1 (inl (holds c.is_free.ensures w.if-not-is_free.false))))
    ]
