-- Distances, the floor and the pruned formula, gathered.
use mathlib.Core.Path.{◌≡◌, refl, sym, ◌∙◌, subst}
use mathlib.Core.Logic.Iff
use mathlib.Core.Logic.{◌↔◌, ◌≢◌, inl, inr, ⊎_elim, by_cases}
use mathlib.Core.List.{List, [], ◌∷◌}
use Prim.Native.Nat.{ℕ, ◌-◌, ◌≤◌, ◌<◌}
use native.Mathlib.Decide.{ℕ_discrete}
use native.Mathlib.Omega.{arith}
use lib.Dec.{T}
use Rattle.lists.specs.Loop.{all}
use Rattle.lists.proofs.Loops.{all_append}
use Rattle.lists.proofs.Tests.{or_iff, not_iff, eqb_iff}
use Rattle.lists.proofs.Sums.{greatest_le, greatest_one}
use Rattle.answers.specs.Answers.{clear}
use Rattle.answers.proofs.Laws.{decide_iff}
use Rattle.instance.specs.Instance.{Instance, no_goal, HasGoal, instance, agents, start_of, goal_of, adjacent, neighbour_words}
use Rattle.instance.specs.Questions.{question10, question31, bytes_questions, instance_questions}
use Rattle.instance.proofs.Goals.{goal_or_none}
use Rattle.instance.proofs.Instance.{instance_iff, goals_counted, edges_known, endpoints, limits}
use Rattle.instance.proofs.Neighbours.{joined_adjacent}
use Rattle.distances.specs.Distance.{unreachable, reachable, further, distance, start_to_goal, floor}
use Rattle.distances.specs.Walk.{Shortest, Further}
use Rattle.distances.proofs.Within.{below_is}
use Rattle.distances.proofs.Walks.{shortest, mark_iff, further_walk, distance_back}
use Rattle.distances.proofs.Table.{table_distance}
use Rattle.distances.proofs.Goals.{to_goal_free, to_goal_has, further_goal}
use Rattle.formula.specs.Formula.{formula}
use Rattle.formula.specs.Pruned.{from_start, from_goal, pruned}
use Rattle.formula.proofs.Pruned.{pruned_clause_count, pruned_word_count, pruned_words_most}
use Rattle.valuation.proofs.Pruned.{sat_pruned}
use Rattle.calls.specs.Calls.{check_questions, check_answer, floor_answer}
use Rattle.calls.proofs.Plan.{check_iff}
use Rattle.calls.proofs.Valuation.{satisfies_mem}
use Rattle.calls.proofs.Floor.{floor_count, all_reached, floor_below, no_plan, first_cut, past_bytes, bytes_clear}
use Rattle.claims.proofs.Refusals.{numbered_check}
use Rattle.claims.proofs.Size.{size_claim}
use Rattle.claims.specs.Distances.{Distances, Pruned, Greatest, FirstUnreachable, Claim}

module _ (b : List ℕ) (m rule : ℕ) (ok : T (all clear (instance_questions b m rule))) where
  abbrev I : Instance
  I = instance b m rule

  few : I.sizes.n ≤ unreachable
  few = omega (arith, (limits b m rule ok).n_most)

  distances : Distances b m rule
  distances =
      record {
        shortest = shortest I (edges_known b m rule ok) few;
        mark = mark_iff I (edges_known b m rule ok) few;
        back = distance_back I (edges_known b m rule ok) few;
        most = λ v w i j f. (below_is I.sizes.n (adjacent I) I.sizes.n v w f).0;
        table =
            table_distance I I.sizes (neighbour_words I)
            (record { sizes = refl; words = joined_adjacent I (edges_known b m rule ok) (limits b m rule ok).n_most });
      }

  prunes : Pruned b m rule
  prunes =
      let h = (limits b m rule ok).m_most in
      record {
        far = λ t a v l r i.
            let ends = endpoints b m rule ok in
            let x = further_walk I (edges_known b m rule ok) few (I.start a) v t (ends.starts_inside a r) i in
            let y : (g : HasGoal (I.goal a)) → T (further (m - t) (distance I (I.goal a) v)) ↔ Further I (m - t) (I.goal a) v = λ g. further_walk I (edges_known b m rule ok) few (I.goal a) v (m - t) (ends.goals_inside a r g) i in
            let z = further_goal (m - t) (I.goal a) (distance I (I.goal a) v) in (
              (λ f. ⊎_elim (λ p. inl (x.0 p)) (λ p. let (g, o) = z.0 p in inr (g, (y g).0 o)) ((or_iff (further t (from_start I a v)) (further (m - t) (from_goal I a v))).0 f)),
              (λ f. (or_iff (further t (from_start I a v)) (further (m - t) (from_goal I a v))).1 (⊎_elim (λ p. inl (x.1 p)) (λ (g, p). inr (z.1 (g, (y g).1 p))) f)),
            );
        variables = refl;
        valuations = λ es w.
            let same = sat_pruned I (endpoints b m rule ok) (edges_known b m rule ok) few es w in
            let base = satisfies_mem (formula I) es in
            let more = satisfies_mem (pruned I) es in
            ((λ q. base.0 (same.0 (more.1 q))), (λ q. more.0 (same.1 (base.1 q))));
        clause_total = pruned_clause_count I (omega arith) (goals_counted b m rule);
        word_total = pruned_word_count I (omega arith) (edges_known b m rule ok) (goals_counted b m rule);
        most = omega (arith, pruned_word_count I (omega arith) (edges_known b m rule ok) (goals_counted b m rule), pruned_words_most I (limits b m rule ok));
        size = λ e.
            let c = size_claim.size pruned b m rule in
            (c.words_counted e ∙ pruned_word_count I (omega arith) (edges_known b m rule ok) (goals_counted b m rule), c.clauses_counted e ∙ pruned_clause_count I (omega arith) (goals_counted b m rule));
      }

  pub bytes_ok : T (all clear (bytes_questions b))
  unfolding instance_questions
  bytes_ok = ((all_append clear (bytes_questions b) (question10 m ∷ question31 rule ∷ [])).0 ok).0

module _ (b : List ℕ) where
  pub accepted_plan : (m rule : ℕ) (p : List ℕ) → (check_answer b m rule p).number ≡ 0 → T (all clear (instance_questions b m rule))
  unfolding check_answer
  accepted_plan m rule p e =
      ((all_append clear (instance_questions b m rule) _).0 ((decide_iff (check_questions b m rule p) _ (numbered_check b m rule p)).0 e)).0

  same : (m rule : ℕ) → distance (instance b m rule) ≡ distance (instance b 0 1)
  unfolding instance adjacent
  same m rule = refl

  reached : (a : ℕ) → T (reachable (start_to_goal (instance b 0 1) a)) ↔ (start_to_goal (instance b 0 1) a ≢ unreachable)
  reached a = simp (not_iff, eqb_iff) Iff.rfl

  module _ (ok : T (all clear (instance_questions b 0 1))) where
    -- what is measured of an agent that has a goal is the distance
    measured : (a : ℕ) → HasGoal (goal_of b a) → start_to_goal (instance b 0 1) a ≡ distance (instance b 0 1) (start_of b a) (goal_of b a)
    unfolding instance
    measured a g = to_goal_has (goal_of b a) _ g

    walk : (a : ℕ) → a < agents b → HasGoal (goal_of b a) → T (reachable (start_to_goal (instance b 0 1) a))
        → Shortest (instance b 0 1) (start_of b a) (goal_of b a) (start_to_goal (instance b 0 1) a)
    unfolding instance
    walk a l g t =
        rw (measured a g)
        (shortest (instance b 0 1) (edges_known b 0 1 ok) (few b 0 1 ok) _ _ ((endpoints b 0 1 ok).starts_inside a l) ((endpoints b 0 1 ok).goals_inside a l g)
        (rw (measured a g) at ((reached a).0 t)))

  greatest : (floor_answer b).number ≡ 0 → Greatest b (floor_answer b).second
  unfolding floor instance
  greatest e =
      let (ok, all') = all_reached b e in
      let d = start_to_goal (instance b 0 1) in
      let (a, l, q) = greatest_one (agents b) d (limits b 0 1 (bytes_clear b ok)).k_least in
      let least : (c : ℕ) → c < agents b → d c ≤ (floor_answer b).second = λ c l. rw (floor_count b e) (greatest_le (agents b) d c l) in
      let witness : (c : ℕ) → c < agents b → HasGoal (goal_of b c) → d c ≡ (floor_answer b).second → Shortest (instance b 0 1) (start_of b c) (goal_of b c) (floor_answer b).second =
      λ c l g z. subst (Shortest (instance b 0 1) (start_of b c) (goal_of b c)) z (walk (bytes_clear b ok) c l g (all' c l)) in
      record {
        each = λ a l g. (d a, least a l, walk (bytes_clear b ok) a l g (all' a l));
        one =
            ⊎_elim
            (λ (c, o, g).
            by_cases (ℕ_discrete (goal_of b a) no_goal)
            (λ f.
            let z : d a ≡ 0 = to_goal_free (goal_of b a) _ ((eqb_iff _ no_goal).1 f) in
            inl (c, o, g, witness c o g (omega (arith, least c o, q, floor_count b e))))
            (λ g'. inl (a, l, g', witness a l g' (q ∙ sym (floor_count b e)))))
            (λ none. inr (none, let z : d a ≡ 0 = to_goal_free (goal_of b a) _ ((eqb_iff _ no_goal).1 (none a l)) in omega (arith, q, floor_count b e)))
            (goal_or_none (agents b) (goal_of b));
      }

  cut : (floor_answer b).number ≡ 30 → (a : ℕ) × FirstUnreachable b (floor_answer b).second a
  unfolding instance
  cut e =
      let ok = bytes_clear b (past_bytes b e) in
      let ends = endpoints b 0 1 ok in
      let (a, l, f, q) = first_cut b e in
      let far : start_to_goal (instance b 0 1) a ≡ unreachable =
      by_cases (ℕ_discrete (start_to_goal (instance b 0 1) a) unreachable) (λ z. z) (λ d. absurd (f.here l ((reached a).1 d))) in
      let g : HasGoal (goal_of b a) = λ z. let o = to_goal_free (goal_of b a) (distance (instance b 0 1) (start_of b a) (goal_of b a)) ((eqb_iff _ no_goal).1 z) in omega (arith, far, o) in (
        a,
        record {
          agent = l;
          has = g;
          cut =
              (mark_iff (instance b 0 1) (edges_known b 0 1 ok) (few b 0 1 ok) _ _ (ends.starts_inside a l) (ends.goals_inside a l g)).0
              (sym (measured ok a g) ∙ far);
          lower = λ c o h. (_, (walk ok c (omega arith) h (f.before c o)).walk);
          offset = q;
        },
      )

pub distances_claim : Claim
distances_claim =
    record {
      distances = λ b m rule e. distances b m rule ((instance_iff b m rule).0 e);
      pruned = λ b m rule e. prunes b m rule ((instance_iff b m rule).0 e);
      horizon = same;
      floor = greatest;
      thirty = cut;
      lowest = λ b e m rule p w. floor_below b (bytes_ok b 0 1 ((instance_iff b 0 1).0 e)) m rule p w;
      accepted = λ b m rule p e.
          let ok = accepted_plan b m rule p e in
          floor_below b (bytes_ok b m rule ok) m rule p ((check_iff b m rule ok p).0 e);
      none = no_plan;
      refused = λ b e m rule p z.
          let ok = accepted_plan b m rule p z in
          no_plan b e m rule p ((check_iff b m rule ok p).0 z);
    }
