-- The floor call: it asks what an instance with horizon 0 and rule 1 is asked, then 30; what its answers say of every plan.
use mathlib.Core.Path.{◌≡◌, refl, sym, ◌∙◌, ap}
use mathlib.Core.Logic.{⊎_elim}
use mathlib.Core.List.{List, [], ◌∷◌, ◌++◌}
use mathlib.Core.Bool.{true}
use Prim.Native.Nat.{ℕ, suc, ◌+◌, ◌≤◌, ◌<◌}
use native.Mathlib.Omega.{arith}
use lib.Dec.{T, ltb, eqb}
use Rattle.lists.specs.Loop.{all}
use Rattle.lists.proofs.Tests.{and_iff, not_iff, eqb_iff, ltb_iff}
use Rattle.lists.proofs.Loops.{all_append}
use Rattle.lists.proofs.Blocks.{place_lt}
use Rattle.answers.specs.declared.Answer.{Answer}
use Rattle.answers.specs.Answers.{ask, accept, refuse, decide, clear}
use Rattle.answers.specs.Fault.{FirstFault}
use Rattle.answers.proofs.Laws.{numbered, each_all, each_nil, clear_iff, ask_all, decide_iff, decide_count, decide_after, decide_each, decide_past, decide_skip}
use Rattle.instance.specs.Instance.{instance, agents, goals, adjacent, Endpoints}
use Rattle.instance.specs.Questions.{question10, question31, bytes_questions, instance_questions}
use Rattle.instance.proofs.Instance.{endpoints, limits}
use Rattle.distances.specs.Distance.{unreachable, reachable, start_to_goal, floor}
use Rattle.distances.proofs.Within.{floor_most}
use Rattle.plan.specs.Passing.{Passes}
use Rattle.plan.specs.Plan.{plan_row}
use Rattle.valuation.proofs.Pruned.{steps_most}
use Rattle.calls.specs.Calls.{goal_question, floor_questions, floor_answer}

module _ (b : List ℕ) where
  -- 0 is a horizon and 1 a rule, so 10 and 31 are answered yes
  pub floor_asks : decide (instance_questions b 0 1 ++ goal_question b ∷ []) (floor (instance b 0 1)) ≡ floor_answer b
  unfolding floor_answer instance_questions ask
  floor_asks =
      decide_skip (bytes_questions b) ([] ∷ goal_question b ∷ []) (floor (instance b 0 1))
      ∙ decide_skip (bytes_questions b) (goal_question b ∷ []) (floor (instance b 0 1))

  pub numbered_floor : T (all numbered (floor_questions b))
  numbered_floor =
      simp (and_iff, each_all, ask_all)
      ((λ f. tt), ((λ f. tt), ((λ f. tt), ((λ f. tt), ((λ f. tt), ((λ j l f. tt), ((λ j l f. tt), ((λ a l f. tt), ((λ a l f. tt), ((λ a l f. tt), tt))))))))))

  -- an acceptance holds the floor
  pub floor_count : (floor_answer b).number ≡ 0 → (floor_answer b).second ≡ floor (instance b 0 1)
  unfolding floor_answer
  floor_count e =
      ap (λ (x : Answer). x.second) (decide_count (floor_questions b) _ ((decide_iff (floor_questions b) _ numbered_floor).0 e))

  -- and every goal can be reached
  pub all_reached : (floor_answer b).number ≡ 0
      → T (all clear (bytes_questions b)) × ((a : ℕ) → a < agents b → T (reachable (start_to_goal (instance b 0 1) a)))
  unfolding floor_answer
  all_reached e =
      let (x, y) = (all_append clear (bytes_questions b) (goal_question b ∷ [])).0 ((decide_iff (floor_questions b) _ numbered_floor).0 e) in
      (x, (each_nil (agents b) (λ a. reachable (start_to_goal (instance b 0 1) a)) _).0 ((clear_iff (goal_question b)).0 ((and_iff (clear (goal_question b)) true).0 y).0))

  -- where 1 to 9 are answered yes and every goal can be reached, the floor is accepted
  pub floor_accepts : T (all clear (bytes_questions b)) → ((a : ℕ) → a < agents b → T (reachable (start_to_goal (instance b 0 1) a)))
      → floor_answer b ≡ accept (floor (instance b 0 1))
  unfolding floor_answer
  floor_accepts ok h =
      let thirty : goal_question b ≡ [] = (each_nil (agents b) (λ a. reachable (start_to_goal (instance b 0 1) a)) _).1 h in
      let yes : T (all clear (floor_questions b)) = (all_append clear (bytes_questions b) (goal_question b ∷ [])).1 (ok, (and_iff (clear (goal_question b)) true).1 ((clear_iff (goal_question b)).1 thirty, tt)) in
      decide_count (floor_questions b) _ yes

  -- where 1 to 9 are answered yes, so are 1 to 10 and 31 at horizon 0 under rule 1
  pub bytes_clear : T (all clear (bytes_questions b)) → T (all clear (instance_questions b 0 1))
  unfolding instance_questions ask
  bytes_clear t = (all_append clear (bytes_questions b) (question10 0 ∷ question31 1 ∷ [])).1 (t, tt)

  -- ---- the graph, the starts and the goals are the same at every horizon and under either rule
  module _ (ok : T (all clear (bytes_questions b))) (m rule : ℕ) where
    same_endpoints : Endpoints (instance b 0 1) → Endpoints (instance b m rule)
    unfolding instance
    same_endpoints s = record { starts_inside = s.starts_inside; starts_apart = s.starts_apart; goals_inside = s.goals_inside }

    steps_known : (p : List ℕ) → Passes (instance b m rule) p → (a : ℕ) → a < agents b → (start_to_goal (instance b 0 1) a ≤ m) × (start_to_goal (instance b 0 1) a < unreachable)
    unfolding instance adjacent
    steps_known p w a l =
        let few = (limits b 0 1 (bytes_clear ok)).n_most in
        let (x, y) = steps_most (instance b m rule) (plan_row (instance b m rule).sizes p) w.leads (λ t a h r. w.inside _ (place_lt (suc m) (agents b) t a h r))
        (same_endpoints (endpoints b 0 1 (bytes_clear ok))) (omega arith) a l in
        (x, omega arith)

    -- a plan that passes shows that the floor is accepted, and not above its makespan
    pub floor_below : (p : List ℕ) → Passes (instance b m rule) p → ((floor_answer b).number ≡ 0) × ((floor_answer b).second ≤ m)
    unfolding floor_answer floor instance
    floor_below p w =
        let e : floor_answer b ≡ accept (floor (instance b 0 1)) = floor_accepts ok (λ a l.
        (not_iff (eqb (start_to_goal (instance b 0 1) a) unreachable)).1 (λ t. let e = (eqb_iff (start_to_goal (instance b 0 1) a) unreachable).0 t in let (x, y) = steps_known p w a l in omega arith)) in
        rw e (refl, floor_most (instance b 0 1) m (λ a l. (steps_known p w a l).0))

  -- ---- where 30 is answered, 1 to 9 were answered yes
  pub past_bytes : (floor_answer b).number ≡ 30 → T (all clear (bytes_questions b))
  unfolding floor_answer
  past_bytes e =
      ⊎_elim
      (λ ok. ok)
      (λ t. let l = (ltb_iff (floor_answer b).number 10).0 t in absurd (let f : ⊥ = omega arith in f))
      (decide_past (λ r. ltb r.number 10) (bytes_questions b) (goal_question b ∷ []) _
      (simp (and_iff, each_all, ask_all)
      ((λ f. tt), ((λ f. tt), ((λ f. tt), ((λ f. tt), ((λ f. tt), ((λ j l f. tt), ((λ j l f. tt), ((λ a l f. tt), ((λ a l f. tt), tt)))))))))))

  -- no plan passes at any horizon, under either rule
  pub no_plan : (floor_answer b).number ≡ 30 → (m rule : ℕ) (p : List ℕ) → Passes (instance b m rule) p → ⊥
  no_plan e m rule p w = let z = (floor_below (past_bytes e) m rule p w).0 in omega arith

  -- the first agent that cannot reach its goal gives the place
  pub first_cut : (floor_answer b).number ≡ 30 → (a : ℕ) × (a < agents b) × FirstFault (agents b) (λ a. reachable (start_to_goal (instance b 0 1) a)) a × ((floor_answer b).second ≡ goals b + a)
  unfolding floor_answer
  first_cut e =
      let q = decide_after (bytes_questions b) (goal_question b ∷ []) (floor (instance b 0 1)) (past_bytes e) in
      ⊎_elim
      (λ (h, r).
      let z : 30 ≡ 0 = sym e ∙ ap (λ (x : Answer). x.number) (q ∙ r ∙ decide_count [] (floor (instance b 0 1)) tt) in
      absurd (let f : ⊥ = omega arith in f))
      (λ (a, l, f, r). (a, l, f, ap (λ (x : Answer). x.second) (q ∙ r)))
      (decide_each (agents b) (λ a. reachable (start_to_goal (instance b 0 1) a)) (λ a. refuse 30 (goals b + a)) [] (floor (instance b 0 1)))
