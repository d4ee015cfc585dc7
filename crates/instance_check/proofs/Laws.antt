-- What the answers of this crate share.
use mathlib.Core.Path.{◌≡◌, refl, sym, ◌∙◌, ap}
use mathlib.Core.Logic.{by_cases}
use mathlib.Core.List.{List, [], ◌∷◌, ◌++◌}
use mathlib.Core.Bool.{Bool, true, false, not, ◌&&◌, ◌||◌, and-true, and-false}
use Prim.Native.Nat.{ℕ, suc, ◌+◌, ◌-◌, ◌*◌, ◌≤◌, ◌<◌}
use native.Mathlib.Decide.{ℕ_discrete, dec_lt}
use native.Mathlib.Numerals.{add-one}
use native.Mathlib.Omega.{arith}
use borrow.Author.Tests.{le-leb, lt-leb, le-ltb, eq-eqb, ne_eqb}
use lib.ListN.{length, get_or, take, drop, set, replicate, length-drop}
use lib.Seq.{take-suc, get_or-drop, length-take-le, get_or-set_same, get_or-set_other}
use lib.Dec.{T, ltb, eqb}
use Rattle.lists.specs.Loop.{all, every}
use Rattle.lists.specs.Slice.{filled}
use Rattle.lists.proofs.Tests.{and_iff, eqb_iff, leb_iff, every_iff}
use Rattle.lists.proofs.Slices.{get_or_alike, filled_set}
use Rattle.answers.specs.declared.Answer.{Answer}
use Rattle.answers.specs.Answers.{Question, refuse, accept, decide, clear, ask, ask_each}
use Rattle.answers.specs.declared.Refusal.{Refusal}
use Rattle.answers.specs.Returned.{refused, asked}
use Rattle.answers.proofs.Returned.{refused_after, refusal_numbered}
use Rattle.std.specs.Prelude.{Option, Some, None, IsSome, Result, IsErrAnd}
use Rattle.std.proofs.lemmas.Result.{err_from_is_err_and}
use Rattle.answers.specs.Fault.{FirstFault, FirstFailing}
use Rattle.answers.proofs.Faults.{holds, fails}
use Rattle.answers.proofs.Laws.{clear_iff, decide_iff, decide_after, decide_pass, fault_pass, fault_stop, by_number_accepted, by_number_refused, ask_nil, ask_all}
use Rattle.instance.specs.declared.Sizes.{Sizes}
use Rattle.instance.specs.declared.Checked.{Checked}
use Rattle.instance.specs.declared.problem.Problem.{Problem}
use Rattle.instance.specs.Instance.{no_goal, free, goal_count, vertices, agents, edges, goals, goal_of, instance, neighbour_words, for_agents, checked, unchecked, Edges}
use Rattle.instance.proofs.Goals.{goal_count_ext}
use Rattle.instance.proofs.Instance.{instance_iff, edges_known, length_known, limits}
use Rattle.instance.specs.Accepted.{Accepted}
use Rattle.instance.proofs.Accepted.{for_agents_at, accepted}
use Rattle.instance.specs.Questions.{question2, question3, question4, question5, question6, question7, question8, question9, question10, question31, proper_edge, later_edge, new_vertex, instance_questions, instance_answer, instance_checked}
use Rattle.instance_check.specs.Read.{Read}
use Rattle.instance_check.specs.Returned.{checked_at}

-- one more byte in an array that is filled from a slice
pub filled_more : (b l row : List ℕ) (from i : ℕ) → row ≡ filled (take i (drop from b)) l → from + i < length b → i < length l
    → set row i (get_or b (from + i) 0) ≡ filled (take (i + 1) (drop from b)) l
filled_more b l row from i er hs hl =
    let h : i < length (drop from b) = simp length-drop (omega arith) in
    let t : take (i + 1) (drop from b) ≡ take i (drop from b) ++ get_or b (from + i) 0 ∷ [] =
    rw (add-one, take-suc (drop from b) i 0 h, get_or-drop) in
    rw (er, t) (filled_set (take i (drop from b)) l i (get_or b (from + i) 0) 0 (length-take-le i _ (omega arith)) hl)

-- ---- the vertices seen so far: f 0, .., f (a - 1), but for goals that are none
abbrev pub Seen : (ℕ → ℕ) → ℕ → List Bool → Type 0
Seen f a seen = (v : ℕ) → v < 64 → not (get_or seen v false) ≡ every a (λ c. not (eqb (f c) v))

pub seen_none : (f : ℕ → ℕ) → Seen f 0 (replicate 64 false)
seen_none f v l = rw (get_or_alike 64 v false)

module _ (f : ℕ → ℕ) (a x : ℕ) (seen : List Bool) (e : x ≡ f a) (h : Seen f a seen) where
  pub seen_more : x < length seen → Seen f (a + 1) (set seen x true)
  seen_more l v q =
      rw add-one
      (by_cases (ℕ_discrete v x)
      (λ p. rw (p, get_or-set_same seen x true false l, eq-eqb (f a) x (sym e), and-false))
      (λ d. rw (get_or-set_other seen x v true false d, h v q, ne_eqb (f a) v (λ z. d (omega arith)), and-true)))

  pub seen_free : T (free x) → Seen f (a + 1) seen
  seen_free t v q =
      let o = (eqb_iff x no_goal).0 t in
      rw (add-one, h v q, ne_eqb (f a) v (λ z. omega arith), and-true)

  pub seen_test : (b : List ℕ) → vertices b ≤ 64 → ltb x (vertices b) && not (get_or seen x false) ≡ new_vertex b f a
  seen_test b few =
      by_cases (dec_lt x (vertices b))
      (λ l. rw (e, h (f a) (omega arith)))
      (λ l. rw (e, le-ltb (f a) (vertices b) (omega arith)))

-- ---- questions 6 to 10 and 31
-- some edge is out of order, where all are proper and one fails
pub order_fails : (n l : ℕ) (p q : ℕ → Bool) → every n p && every l q ≡ false → FirstFault n p n → (i : Option ℕ) → FirstFailing l q i → IsSome i
order_fails n l p q e f (Some i) g = refl
order_fails n l p q e f None g =
    absurd (fails refl e ((and_iff (every n p) (every l q)).1 ((every_iff n p).1 f.before, (every_iff l q).1 g.before)))

pub edges_pass : (b : List ℕ) (qs : List Question) → every (edges b) (proper_edge b) && every (edges b - 1) (λ i. later_edge b (suc i) i) ≡ true
    → decide qs 0 ≡ decide (question6 b ∷ question7 b ∷ qs) 0
edges_pass b qs e =
    let (x, y) = (and_iff (every (edges b) (proper_edge b)) (every (edges b - 1) (λ i. later_edge b (suc i) i))).0 (holds refl e) in
    sym
    (decide_pass (edges b) (proper_edge b) _ _ 0 ((every_iff (edges b) (proper_edge b)).0 x)
    ∙ decide_pass (edges b - 1) (λ i. later_edge b (suc i) i) _ _ 0 ((every_iff (edges b - 1) (λ i. later_edge b (suc i) i)).0 y))

-- the k bytes from an offset on, by the code's offset and by the definition's
module _ (b : List ℕ) (optional : Bool) (number : ℕ) (qs : List Question) {offset from r : ℕ} (e : offset ≡ from)
    (f : FirstFault (agents b) (λ a. optional && free (get_or b (offset + a) 0) || new_vertex b (λ c. get_or b (offset + c) 0) a) r) where
  abbrev vertex_question : ℕ → Question
  vertex_question x = ask_each (agents b) (λ a. optional && free (get_or b (x + a) 0) || new_vertex b (λ c. get_or b (x + c) 0) a) λ a. refuse number (x + a)

  pub vertices_stop : r < agents b → refuse number (offset + r) ≡ decide (vertex_question from ∷ qs) 0
  vertices_stop l = sym (fault_stop f _ _ _ l) ∙ ap (λ x. decide (vertex_question x ∷ qs) 0) e

  pub vertices_pass : agents b ≤ r → decide qs 0 ≡ decide (vertex_question from ∷ qs) 0
  vertices_pass l = sym (fault_pass f _ _ _ l) ∙ ap (λ x. decide (vertex_question x ∷ qs) 0) e

pub horizon_no : (m : ℕ) (qs : List Question) → 32 < m → refuse 10 0 ≡ decide (question10 m ∷ qs) 0
unfolding decide ask
horizon_no m qs l = rw (lt-leb m 32 l)

pub rule_no : (m rule : ℕ) → m ≤ 32 → eqb rule 1 || eqb rule 2 ≡ false → refuse 31 0 ≡ decide (question10 m ∷ question31 rule ∷ []) 0
unfolding decide ask
rule_no m rule l e = rw (le-leb m 32 l, e)

pub rule_yes : (m rule : ℕ) → m ≤ 32 → eqb rule 1 || eqb rule 2 ≡ true → accept 0 ≡ decide (question10 m ∷ question31 rule ∷ []) 0
unfolding decide ask
rule_yes m rule l e = rw (le-leb m 32 l, e)

-- ---- question 1, then 2 to 5, then the rest
module _ (b : List ℕ) (m rule : ℕ) where
  abbrev size_questions : List Question
  size_questions = question2 b ∷ question3 b ∷ question4 b ∷ question5 b ∷ []

  abbrev item_questions : List Question
  item_questions = question6 b ∷ question7 b ∷ question8 b ∷ question9 b ∷ question10 m ∷ question31 rule ∷ []

  pub short : length b < 4 → refuse 1 (length b) ≡ instance_answer b m rule
  unfolding instance_answer instance_questions decide ask
  short l = rw (lt-leb 4 (length b) l)

  module _ (long : 4 ≤ length b) where
    from_sizes : decide (size_questions ++ item_questions) 0 ≡ instance_answer b m rule
    unfolding instance_answer instance_questions decide ask
    from_sizes = rw (le-leb 4 (length b) long)

    pub sizes_refused : (e : Refusal) → refused e ≡ decide size_questions 0 → refused e ≡ instance_answer b m rule
    sizes_refused e h = refused_after e size_questions item_questions 0 0 h ∙ from_sizes

    module _ (r : Answer) (er : r ≡ decide size_questions 0) where
      module _ (e : r.number ≡ 0) where
        sizes_clear : T (all clear size_questions)
        sizes_clear =
            (decide_iff size_questions 0 (simp (and_iff, ask_all) ((λ f. tt), ((λ f. tt), ((λ f. tt), ((λ f. tt), tt)))))).0
            (sym (ap (λ (a : Answer). a.number) er) ∙ e)

        pub sizes_passed : decide item_questions 0 ≡ instance_answer b m rule
        sizes_passed = sym (decide_after size_questions item_questions 0 sizes_clear) ∙ from_sizes

        pub sizes_known : (vertices b ≤ 64) × ((agents b ≤ 16) × (length b ≡ 4 + 2 * edges b + 2 * agents b))
        sizes_known =
            let h = simp (and_iff, clear_iff, ask_nil, leb_iff, eqb_iff) at sizes_clear in
            (h.0.1, (h.1.0.0.1, h.1.1.1.0))

  -- ---- the checked instance beside the answer
  -- the sizes read, with the number of agents that have a goal
  abbrev completed : Sizes → ℕ → Sizes
  completed s g = record { n = s.n; k = s.k; e = s.e; m = m; rule = rule; g = g }

  fields : (s : Sizes) (g : ℕ) → Read b s → g ≡ goal_count (agents b) (goal_of b) → completed s g ≡ (instance b m rule).sizes
  unfolding instance
  fields s g w eg = rw (w.n_same, w.k_same, w.e_same, eg)

  module _ (r : Answer) (er : r ≡ instance_answer b m rule) where
    pub is_checked : r.number ≡ 0 → checked b m rule ≡ instance_checked b m rule
    unfolding instance_checked
    is_checked e =
        sym (by_number_accepted (instance_answer b m rule).number (checked b m rule) unchecked (sym (ap (λ (a : Answer). a.number) er) ∙ e))

    -- the record that the code makes of sizes read from the bytes
    pub made : (s : Sizes) → Read b s → (g : ℕ) (first second near : List ℕ)
        → first ≡ filled (take s.k (drop (4 + 2 * s.e) b)) (replicate 16 0)
        → second ≡ filled (take s.k (drop (4 + 2 * s.e + s.k) b)) (replicate 16 0)
        → near ≡ neighbour_words (instance b m rule)
        → g ≡ goal_count s.k (λ a. get_or second a 0)
        → r.number ≡ 0 → ◌≡◌ {A = Checked} (record { sizes = completed s g; starts = first; goals = second; near = near }) (instance_checked b m rule)
    unfolding instance checked for_agents
    made s w g first second near e₁ e₂ e₃ e₄ e =
        let ok = (instance_iff b m rule).0 (sym (ap (λ (a : Answer). a.number) er) ∙ e) in
        let held : (a : ℕ) → a < agents b → get_or (for_agents b (goals b)) a 0 ≡ goal_of b a = for_agents_at b (goals b) (limits b m rule ok).k_most (omega (arith, length_known b m rule ok)) in
        let e₅ : g ≡ goal_count (agents b) (goal_of b) = rw (e₄, e₂, w.k_same, w.e_same) (goal_count_ext (agents b) _ (goal_of b) held) in
        let same : completed s g ≡ (instance b m rule).sizes = fields s g w e₅ in
        rw (same, e₁, e₂, e₃, w.k_same, w.e_same) (is_checked e)

    -- what is known of the edges where all is accepted
    pub edges_checked : r.number ≡ 0 → Edges (instance b 0 1)
    unfolding instance
    edges_checked e =
        let g = edges_known b m rule ((instance_iff b m rule).0 (sym (ap (λ (a : Answer). a.number) er) ∙ e)) in
        record { ends = g.ends; order = g.order }

  -- the problem that the code makes is the checked instance, and that of the bytes, which are accepted
  module _ (er : accept 0 ≡ instance_answer b m rule) (s : Sizes) (w : Read b s) (g : ℕ) (first second near : List ℕ)
      (e₁ : first ≡ filled (take s.k (drop (4 + 2 * s.e) b)) (replicate 16 0))
      (e₂ : second ≡ filled (take s.k (drop (4 + 2 * s.e + s.k) b)) (replicate 16 0))
      (e₃ : near ≡ neighbour_words (instance b m rule))
      (e₄ : g ≡ goal_count s.k (λ a. get_or second a 0)) where
    abbrev held : Checked
    held = record { sizes = completed s g; starts = first; goals = second; near = near }

    pub held_checked : held ≡ instance_checked b m rule
    held_checked = made (accept 0) er s w g first second near e₁ e₂ e₃ e₄ refl

    pub held_accepted : Accepted b held
    held_accepted = accepted b m rule held held_checked (sym (ap (λ (a : Answer). a.number) er))

  -- what is returned shows the checked instance, at a refusal e all zeros
  pub refused_unchecked : (e : Refusal) → refused e ≡ instance_answer b m rule → unchecked ≡ instance_checked b m rule
  unfolding instance_checked
  refused_unchecked e h =
      sym (by_number_refused (instance_answer b m rule).number (checked b m rule) unchecked (λ z. refusal_numbered e (ap (λ (a : Answer). a.number) h ∙ z)))

  pub passed_unchecked : (e : Refusal) (r : Result Problem Refusal) → IsErrAnd r (λ y. y ≡ e) → asked r ≡ instance_answer b m rule
      → checked_at r ≡ instance_checked b m rule
  passed_unchecked e r h q = let p = err_from_is_err_and r h in rw p.1 (refused_unchecked p.0 (rw p.1 at q))
