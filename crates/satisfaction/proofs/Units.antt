-- A and B: clauses of one literal, in B those of the agents that have a goal. Where the first without a true literal stands.
use mathlib.Core.Path.{◌≡◌, subst}
use mathlib.Core.Logic.{inl, inr}
use mathlib.Core.List.{List, [], ◌∷◌}
use mathlib.Core.Bool.{true, not, ◌||◌}
use Prim.Native.Nat.{ℕ, ◌+◌, ◌<◌}
use native.Mathlib.Nat.{not-suc-le-zero}
use native.Mathlib.Omega.{arith}
use lib.ListN.{length}
use lib.Dec.{T}
use lib.IntN.{ℤ}
use Rattle.std.specs.Prelude.{Option, None, Some}
use Rattle.std.specs.Option.{option_map}
use Rattle.lists.specs.Loop.{for, when, all}
use Rattle.lists.proofs.Tests.{or_iff, or_imp, not_iff}
use Rattle.lists.proofs.Loops.{for_all, one_all, when_all, any_one}
use Rattle.answers.specs.Fault.{FirstFailing}
use Rattle.answers.proofs.Faults.{T_true, fault_at, failing_map}
use Rattle.instance.specs.Instance.{free, goal_count}
use Rattle.instance.proofs.Goals.{goals_once}
use Rattle.formula.specs.Variables.{Literal}
use Rattle.formula.specs.Formula.{Clause}
use Rattle.valuation.specs.Valuation.{true?, satisfied?}
use Rattle.satisfaction.specs.Rows.{Fault, Failing}
use Rattle.satisfaction.proofs.Laws.{failing_none, for_failing, singles, singles_failing}

pub units : (es : List ℤ) (k : ℕ) (x : ℕ → Literal) (r : Option ℕ) → FirstFailing k (λ a. true? es (x a)) r → Failing es (for k λ a. (x a ∷ []) ∷ []) r
units es k x r f =
    singles_failing es k (λ a. x a ∷ []) r (failing_map r (λ r f.
    record { within = f.within; before = λ i l. (any_one (true? es) (x i)).1 (f.before i l); here = λ l h. f.here l ((any_one (true? es) (x r)).0 h) }) f)

module _ (es : List ℤ) (goal : ℕ → ℕ) (x : ℕ → Literal) where
  abbrev at_goal_lem : ℕ → List Clause
  at_goal_lem a = when (not (free (goal a))) ((x a ∷ []) ∷ [])

  goals_pass : (r : ℕ) → ((a : ℕ) → a < r → T (free (goal a) || true? es (x a))) → T (all (satisfied? es) (for r at_goal_lem))
  goals_pass r h =
      (for_all (satisfied? es) r at_goal_lem).1 (λ a l.
      (when_all (satisfied? es) (not (free (goal a))) _).1 (λ o.
      (one_all (satisfied? es) (x a ∷ [])).1 ((any_one (true? es) (x a)).1 ((or_imp (free (goal a)) _).0 (h a l) ((not_iff (free (goal a))).0 o)))))

  goal_stops : (a : ℕ) → (T (free (goal a) || true? es (x a)) → ⊥) → Fault es (at_goal_lem a) 0 × (0 < length (at_goal_lem a))
  goal_stops a h =
      let o : not (free (goal a)) ≡ true = T_true _ ((not_iff (free (goal a))).1 (λ t. h ((or_iff (free (goal a)) _).1 (inl t)))) in
      rw o (
        singles es 1 (λ i. x a ∷ []) 0
            (fault_at (omega arith) (λ i l. absurd (not-suc-le-zero l)) (λ t. h ((or_iff (free (goal a)) _).1 (inr ((any_one (true? es) (x a)).0 t))))),
        omega arith,
      )

  -- how many agents with a goal come before the first that fails
  pub goal_units : (k : ℕ) (r : Option ℕ) → FirstFailing k (λ a. free (goal a) || true? es (x a)) r → Failing es (for k at_goal_lem) (option_map (λ a. goal_count a goal) r)
  goal_units k None f = failing_none es (for k at_goal_lem) (goals_pass k f.before)
  goal_units k (Some r) (l, f) =
      let count : length (for r at_goal_lem) ≡ goal_count r goal = goals_once goal r (λ a. x a ∷ []) in
      let (stop, some) = goal_stops r (f.here l) in
      let e : length (for r at_goal_lem) + 0 ≡ goal_count r goal = omega (arith, count) in
      subst (λ (y : ℕ). Failing es (for k at_goal_lem) (Some y)) e (for_failing es at_goal_lem k r 0 l (goals_pass r f.before) stop some)
