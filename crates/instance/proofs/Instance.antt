-- What an accepted instance and horizon are known to have.
use mathlib.Core.Path.{◌≡◌, refl, sym, ◌∙◌, ap}
use mathlib.Core.Logic.{◌↔◌, ◌≢◌, inl, inr, ⊎_elim}
use mathlib.Core.List.{List, [], ◌∷◌, ◌++◌}
use mathlib.Core.Bool.{Bool}
use Prim.Native.Nat.{ℕ, suc, ◌+◌, ◌*◌, ◌-◌, ◌≤◌, ◌<◌}
use native.Mathlib.Nat.{mul-le-mul}
use native.Mathlib.Omega.{arith}
use lib.ListN.{length}
use lib.Dec.{T, ltb}
use Rattle.lists.specs.Loop.{all}
use Rattle.lists.proofs.Tests.{and_iff, or_iff, or_imp, not_iff, eqb_iff, ltb_iff, leb_iff, every_iff}
use Rattle.lists.proofs.Loops.{all_append}
use Rattle.answers.specs.declared.Answer.{Answer}
use Rattle.answers.specs.Answers.{Question, decide, clear}
use Rattle.answers.proofs.Laws.{numbered, clear_iff, each_all, each_nil, decide_iff, decide_after, decide_refused, ask_nil, ask_all}
use Rattle.instance.specs.Instance.{NewGoals, instance, vertices, agents, edges, low_end, start_of, goal_of, Edges, Endpoints, Counted}
use Rattle.instance.specs.Limits.{Limits}
use Rattle.instance.specs.Questions.{question9, question10, question31, bytes_questions, instance_questions, instance_answer}
use Rattle.instance.proofs.Goals.{goal_count_most}

-- question 9 is answered yes exactly where each goal there is is a vertex, and unlike the earlier ones there are
pub goals_new : (b : List ℕ) → T (clear (question9 b)) ↔ NewGoals b
goals_new b =
    simp (clear_iff, each_nil, or_imp, and_iff, not_iff, eqb_iff, ltb_iff, every_iff) (
      (λ h a l g. let (x, y) = h a l g in (x, λ c o f. y c o)),
      (λ h a l g. let (x, y) = h a l g in (x, λ c o e. y c o (λ z. g (sym e ∙ z)) e)),
    )

-- a test that holds of the numbers of these questions holds of each of their refusals
pub all_bytes : (b : List ℕ) (test : ℕ → Bool) → T (all test (1 ∷ 2 ∷ 3 ∷ 4 ∷ 5 ∷ 6 ∷ 7 ∷ 8 ∷ 9 ∷ [])) → T (all (all (λ r. test r.number)) (bytes_questions b))
all_bytes b test h =
    let w = simp and_iff at h in
    simp (and_iff, each_all, ask_all)
    ((λ f. w.0), ((λ f. w.1.0), ((λ f. w.1.1.0), ((λ f. w.1.1.1.0), ((λ f. w.1.1.1.1.0), ((λ j l f. w.1.1.1.1.1.0), ((λ j l f. w.1.1.1.1.1.1.0), ((λ a l f. w.1.1.1.1.1.1.1.0), ((λ a l f. w.1.1.1.1.1.1.1.1.0), tt)))))))))

module _ (b : List ℕ) (m rule : ℕ) where
  pub all_instance : (test : ℕ → Bool) → T (all test (1 ∷ 2 ∷ 3 ∷ 4 ∷ 5 ∷ 6 ∷ 7 ∷ 8 ∷ 9 ∷ [])) → T (all test (10 ∷ 31 ∷ []))
      → T (all (all (λ r. test r.number)) (instance_questions b m rule))
  unfolding instance_questions
  all_instance test h k =
      let w = simp and_iff at k in
      (all_append (all (λ r. test r.number)) (bytes_questions b) (question10 m ∷ question31 rule ∷ [])).1
      (all_bytes b test h, simp (and_iff, ask_all) ((λ f. w.0), ((λ f. w.1.0), tt)))

  pub numbered_instance : T (all numbered (instance_questions b m rule))
  numbered_instance = all_instance (ltb 0) tt tt

  pub goals_counted : Counted (instance b m rule)
  unfolding instance
  goals_counted = refl

  -- questions 1 to 10 and 31 are all answered yes exactly where the number is 0
  pub instance_iff : ((instance_answer b m rule).number ≡ 0) ↔ T (all clear (instance_questions b m rule))
  unfolding instance_answer
  instance_iff = decide_iff (instance_questions b m rule) 0 numbered_instance

  -- every call asks these first: what they refuse, it refuses, and what they pass goes on to its other questions
  module _ (a : Answer) (ea : a ≡ instance_answer b m rule) (qs : List Question) (count : ℕ) where
    pub first_refused : a.number ≢ 0 → a ≡ decide (instance_questions b m rule ++ qs) count
    unfolding instance_answer
    first_refused d =
        ea ∙ sym (decide_refused (instance_questions b m rule) qs 0 count (λ e. d (ap (λ (x : Answer). x.number) ea ∙ e)))

    pub first_passed : a.number ≡ 0 → decide qs count ≡ decide (instance_questions b m rule ++ qs) count
    first_passed e =
        sym (decide_after (instance_questions b m rule) qs count (instance_iff.0 (sym (ap (λ (x : Answer). x.number) ea) ∙ e)))

  module _ (ok : T (all clear (instance_questions b m rule))) where
    pub endpoints : Endpoints (instance b m rule)
    unfolding instance_questions instance
    endpoints =
        let h = simp (and_iff, or_imp, clear_iff, each_nil, ask_nil, every_iff, not_iff, eqb_iff, ltb_iff) at ok in
        let starts : (a : ℕ) → a < agents b → (start_of b a < vertices b) × ((c : ℕ) → c < a → start_of b c ≢ start_of b a) = h.1.1.1.1.1.1.1.0 in
        record {
          starts_inside = λ a l. (starts a l).0;
          starts_apart = λ a l. (starts a l).1;
          goals_inside = λ a l g. (h.1.1.1.1.1.1.1.1.0 a l g).0;
        }

    pub edges_known : Edges (instance b m rule)
    unfolding instance_questions instance
    edges_known =
        let h = simp (and_iff, clear_iff, each_nil, ask_nil, eqb_iff, ltb_iff) at ok in
        record {
          ends = λ j l. h.1.1.1.1.1.0 j l;
          order = λ i l.
              let t = h.1.1.1.1.1.1.0 i (omega arith) in
              ⊎_elim
              (λ x. inl ((ltb_iff (low_end b i) (low_end b (suc i))).0 x))
              (λ x. inr (simp (and_iff, eqb_iff, ltb_iff) at x))
              ((or_iff (ltb (low_end b i) (low_end b (suc i))) _).0 t);
        }

    -- the length and the sizes
    pub length_known : length b ≡ 4 + 2 * edges b + 2 * agents b
    unfolding instance_questions
    length_known = (simp (and_iff, clear_iff, ask_nil, eqb_iff) at ok).1.1.1.1.0

    pub limits : Limits (instance b m rule).sizes
    unfolding instance_questions instance
    limits =
        let h = simp (and_iff, clear_iff, ask_nil, leb_iff) at ok in
        let q : vertices b * (vertices b - 1) ≤ 4032 =
        mul-le-mul {n₂ = 64} {m₂ = 63} h.1.0.1 (omega (arith, h.1.0.1)) in
        record {
          n_least = h.1.0.0;
          n_most = h.1.0.1;
          k_least = h.1.1.0.0.0;
          k_most = h.1.1.0.0.1;
          e_most = omega (arith, h.1.1.1.0, q);
          m_most = h.1.1.1.1.1.1.1.1.1.0;
          g_most = goal_count_most (goal_of b) (agents b);
        }

    pub agents_below : agents b ≤ vertices b
    unfolding instance_questions
    agents_below = (simp (and_iff, clear_iff, ask_nil, leb_iff) at ok).1.1.0.1
