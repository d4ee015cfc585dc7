-- The instance with starts and goals exchanged: its bytes, that it is accepted where every agent has a goal, and that exchanging again
-- restores the bytes.
use mathlib.Core.Path.{◌≡◌, sym, ◌∙◌, ap, ap₂}
use mathlib.Core.Logic.{by_cases}
use mathlib.Core.List.{List, ◌++◌, append_assoc}
use Prim.Native.Nat.{ℕ, suc, ◌+◌, ◌*◌, ◌-◌, ◌<◌}
use native.Mathlib.Decide.{dec_lt}
use native.Mathlib.Omega.{arith}
use lib.ListN.{length, get_or, take, length-append, get_or-append}
use lib.Seq.{get_or-take, get_or-append-add, length-take-le, ext_get_or}
use lib.Dec.{T}
use Rattle.lists.specs.Loop.{all}
use Rattle.lists.proofs.Tests.{and_iff, or_imp, not_iff, eqb_iff, ltb_iff, leb_iff, every_iff}
use Rattle.lists.proofs.Slices.{part_length, part_get_or}
use Rattle.answers.specs.Answers.{clear}
use Rattle.answers.proofs.Laws.{clear_iff, each_nil, ask_nil}
use Rattle.instance.specs.Instance.{HasGoal, goal_count, AllBound, instance, vertices, agents, edges, starts, goals, low_end, high_end, start_of, goal_of, of_agents}
use Rattle.instance.specs.Exchanged.{exchanged_instance, Exchanged}
use Rattle.instance.specs.Questions.{instance_questions}
use Rattle.instance.proofs.Goals.{goal_count_all}
use Rattle.instance.proofs.Instance.{length_known, limits, endpoints}

-- ---- bytes of the length that question 5 asks
module _ (b : List ℕ) (long : length b ≡ 4 + 2 * edges b + 2 * agents b) where
  abbrev c : List ℕ
  c = exchanged_instance b

  front : length (take (starts b) b) ≡ starts b
  front = length-take-le (starts b) b (omega arith)

  the_starts : length (of_agents b (starts b)) ≡ agents b
  the_starts = part_length b (starts b) (agents b) (omega arith)

  the_goals : length (of_agents b (goals b)) ≡ agents b
  the_goals = part_length b (goals b) (agents b) (omega arith)

  -- what stands behind the edges
  abbrev back : List ℕ
  back = of_agents b (goals b) ++ of_agents b (starts b)

  parts : c ≡ take (starts b) b ++ back
  unfolding exchanged_instance
  parts = append_assoc (take (starts b) b) (of_agents b (goals b)) (of_agents b (starts b))

  same_length : length c ≡ length b
  same_length =
      ap length parts
      ∙ length-append (take (starts b) b) back
      ∙ omega (arith, front, length-append (of_agents b (goals b)) (of_agents b (starts b)), the_goals, the_starts)

  -- the bytes before the starts stay
  before : (i : ℕ) → i < starts b → get_or c i 0 ≡ get_or b i 0
  before i l =
      ap (λ (x : List ℕ). get_or x i 0) parts
      ∙ get_or-append (take (starts b) b) back 0 i (omega (arith, front))
      ∙ get_or-take (starts b) b i 0 l

  behind : (i : ℕ) → get_or c (starts b + i) 0 ≡ get_or back i 0
  behind i =
      ap₂ (λ (x : List ℕ) (y : ℕ). get_or x (y + i) 0) parts (sym front) ∙ get_or-append-add (take (starts b) b) back i 0

  at_starts : (a : ℕ) → a < agents b → get_or c (starts b + a) 0 ≡ goal_of b a
  at_starts a l =
      behind a
      ∙ get_or-append (of_agents b (goals b)) (of_agents b (starts b)) 0 a (omega (arith, the_goals))
      ∙ part_get_or b (goals b) (agents b) a 0 l

  at_goals : (a : ℕ) → a < agents b → get_or c (goals b + a) 0 ≡ start_of b a
  at_goals a l =
      let e : goals b + a ≡ starts b + (length (of_agents b (goals b)) + a) = omega (arith, the_goals) in
      ap (λ (x : ℕ). get_or c x 0) e
      ∙ behind (length (of_agents b (goals b)) + a)
      ∙ get_or-append-add (of_agents b (goals b)) (of_agents b (starts b)) a 0
      ∙ part_get_or b (starts b) (agents b) a 0 l

  -- so do the sizes and the edges
  pub same_vertices : vertices c ≡ vertices b
  same_vertices = before 0 (omega arith)

  pub same_agents : agents c ≡ agents b
  same_agents = before 1 (omega arith)

  pub same_edges : edges c ≡ edges b
  same_edges = ap₂ (λ (x y : ℕ). x + 256 * y) (before 2 (omega arith)) (before 3 (omega arith))

  pub same_low : (j : ℕ) → j < edges b → low_end c j ≡ low_end b j
  same_low j l = before (4 + j) (omega arith)

  pub same_high : (j : ℕ) → j < edges b → high_end c j ≡ high_end b j
  same_high j l = ap (λ (x : ℕ). get_or c (4 + x + j) 0) same_edges ∙ before (4 + edges b + j) (omega arith)

  -- the starts are the goals, and the goals the starts
  pub starts_goals : (a : ℕ) → a < agents b → start_of c a ≡ goal_of b a
  starts_goals a l = ap (λ (x : ℕ). get_or c (4 + 2 * x + a) 0) same_edges ∙ at_starts a l

  pub goals_starts : (a : ℕ) → a < agents b → goal_of c a ≡ start_of b a
  goals_starts a l = ap₂ (λ (x y : ℕ). get_or c (4 + 2 * x + y + a) 0) same_edges same_agents ∙ at_goals a l

  pub exchanged_long : length c ≡ 4 + 2 * edges c + 2 * agents c
  exchanged_long = omega (arith, same_length, same_edges, same_agents)

-- exchanging again restores the bytes
pub exchanged_twice : (b : List ℕ) → length b ≡ 4 + 2 * edges b + 2 * agents b → exchanged_instance (exchanged_instance b) ≡ b
exchanged_twice b long =
    let c = exchanged_instance b in
    let long' = exchanged_long b long in
    let es = same_edges b long in
    let ks = same_agents b long in
    ext_get_or 0 (exchanged_instance c) b (same_length c long' ∙ same_length b long)
    (λ i l.
    let l' : i < length b = omega (arith, same_length c long', same_length b long) in
    by_cases (dec_lt i (starts b))
    (λ o. before c long' i (omega (arith, es)) ∙ before b long i o)
    (λ o.
    by_cases (dec_lt i (goals b))
    (λ o'.
    let a : ℕ = i - starts b in
    let e : i ≡ starts c + a = omega (arith, es) in
    let e' : starts b + a ≡ i = omega arith in
    ap (λ (x : ℕ). get_or (exchanged_instance c) x 0) e
    ∙ at_starts c long' a (omega (arith, ks))
    ∙ goals_starts b long a (omega arith)
    ∙ ap (λ (x : ℕ). get_or b x 0) e')
    (λ o'.
    let a : ℕ = i - goals b in
    let e : i ≡ goals c + a = omega (arith, es, ks) in
    let e' : goals b + a ≡ i = omega arith in
    ap (λ (x : ℕ). get_or (exchanged_instance c) x 0) e
    ∙ at_goals c long' a (omega (arith, ks))
    ∙ starts_goals b long a (omega arith)
    ∙ ap (λ (x : ℕ). get_or b x 0) e')))

-- ---- an accepted instance
module _ (b : List ℕ) (m rule : ℕ) (ok : T (all clear (instance_questions b m rule))) where
  abbrev d : List ℕ
  d = exchanged_instance b

  long : length b ≡ 4 + 2 * edges b + 2 * agents b
  long = length_known b m rule ok

  -- the goals of d are the starts of b, and so below n
  pub exchanged_bound : AllBound (instance d m rule)
  unfolding instance
  exchanged_bound a l e =
      let r : a < agents b = omega (arith, same_agents b long) in
      omega (arith, (limits b m rule ok).n_most, (endpoints b m rule ok).starts_inside a r, sym (goals_starts b long a r) ∙ e)

  -- all of whose agents have a goal
  module _ (bound : AllBound (instance b m rule)) where
    has : (a : ℕ) → a < agents b → HasGoal (goal_of b a)
    unfolding instance
    has = bound

    pub exchanged_instance_lem : Exchanged (instance b m rule) (instance d m rule)
    unfolding instance
    exchanged_instance_lem =
        let n = same_vertices b long in
        let k = same_agents b long in
        let e = same_edges b long in
        let g : goal_count (agents d) (goal_of d) ≡ goal_count (agents b) (goal_of b) =
        goal_count_all (goal_of d) (agents d) exchanged_bound ∙ k ∙ sym (goal_count_all (goal_of b) (agents b) has) in
        record {
          sizes = rw (g, n, k, e);
          lows = same_low b long;
          highs = same_high b long;
          starts = starts_goals b long;
          goals = goals_starts b long;
        }

    -- all questions are answered yes: 8 since the goals differ, 9 since the starts do
    pub exchanged_clear : T (all clear (instance_questions d m rule))
    unfolding instance_questions
    exchanged_clear =
        let (q1, (q2, (q3, (q4, (q5, (q6, (q7, (q8, (q9, rest))))))))) =
        simp (and_iff, or_imp, clear_iff, each_nil, ask_nil, every_iff, not_iff, eqb_iff, ltb_iff, leb_iff) at ok in
        let n = same_vertices b long in
        let k = same_agents b long in
        let e = same_edges b long in
        let lo = same_low b long in
        let hi = same_high b long in
        let s = starts_goals b long in
        let g = goals_starts b long in
        let edge : (j : ℕ) → j < edges d → j < edges b = λ j l. omega arith in
        let agent : (a : ℕ) → a < agents d → a < agents b = λ a l. omega arith in
        simp (and_iff, or_imp, clear_iff, each_nil, ask_nil, every_iff, not_iff, eqb_iff, ltb_iff, leb_iff) (
          rw (same_length b long) q1,
          (
            rw n q2,
            (
              rw (n, k) q3,
              (
                rw (n, e) q4,
                (
                  exchanged_long b long,
                  (
                    (λ j l. rw (n, lo j (edge j l), hi j (edge j l)) (q6 j (edge j l))),
                    (
                      (λ i l.
                          let r : i < edges b - 1 = omega arith in
                          rw (lo i (omega arith), lo (suc i) (omega arith), hi i (omega arith), hi (suc i) (omega arith)) (q7 i r)),
                      (
                        (λ a l.
                            let (x, y) = q9 a (agent a l) (has a (agent a l)) in
                            (rw (n, s a (agent a l)) x, λ c o. rw (s a (agent a l), s c (omega arith)) (y c o))),
                        (
                          (λ a l h.
                              let (x, y) = q8 a (agent a l) in
                              (rw (n, g a (agent a l)) x, λ c o. rw (g a (agent a l), g c (omega arith)) (y c o))),
                          rest,
                        ),
                      ),
                    ),
                  ),
                ),
              ),
            ),
          ),
        )
