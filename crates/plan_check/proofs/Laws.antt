-- What the answers of this crate share.
use mathlib.Core.Path.{◌≡◌, refl, sym, ◌∙◌, ap, ap₂, subst}
use mathlib.Core.Logic.{◌≢◌}
use mathlib.Core.List.{List, [], ◌∷◌, ◌++◌}
use mathlib.Core.Bool.{Bool, not, ◌||◌}
use Prim.Native.Nat.{ℕ, suc, ◌+◌, ◌-◌, ◌*◌, ◌≤◌, ◌<◌}
use native.Mathlib.Nat.{le_refl, suc-mul, zero-add, zero-mul}
use native.Mathlib.Numerals.{add-one}
use native.Mathlib.Omega.{arith}
use lib.ListN.{length, get_or, take, drop}
use lib.Seq.{get_or-take, length-take-le}
use lib.Dec.{T, eqb, ltb}
use Rattle.std.specs.Prelude.{Option, None, Some}
use Rattle.lists.specs.Loop.{for, all}
use Rattle.lists.proofs.Tests.{and_iff, eqb_iff, ltb_iff}
use Rattle.lists.proofs.Loops.{for_all}
use Rattle.answers.specs.declared.Answer.{Answer}
use Rattle.answers.specs.Answers.{Question, refuse, accept, ask_each, decide}
use Rattle.answers.specs.declared.Refusal.{Refusal}
use Rattle.answers.specs.Returned.{refused}
use Rattle.answers.specs.Fault.{FirstFault, FirstFailing}
use Rattle.answers.proofs.Laws.{numbered, decide_iff, decide_count, decide_after, count_free, asked_all, fault_pass, fault_stop, ask_yes, ask_no}
use Rattle.answers.proofs.Faults.{failing_ext}
use Rattle.answers.proofs.Returned.{refusal_numbered, refused_after}
use Rattle.instance.specs.declared.Sizes.{Sizes}
use Rattle.instance.specs.declared.Checked.{Checked}
use Rattle.instance.specs.Instance.{Instance, free, adjacent, joined}
use Rattle.plan.specs.Plan.{Row, row, plan_bytes, plan_index, plan_row, condition, condition2, at_goal, occupant_leaves, rest_time, cost}
use Rattle.plan.proofs.Rows.{Rows, rows, part_failing}
use Rattle.plan.proofs.Rest.{rest_until, rest_keeps, rest_moves}
use Rattle.plan.proofs.Steps.{occupant_inside, leaves_stays, leaves_exchanges, leaves_on}
use Rattle.calls.specs.Questions.{occupied_number, second_number, question13, question18, question20, question21, question22}
use Rattle.calls.specs.Calls.{step_questions, plan_questions, check_rest}
use Rattle.instance.specs.Accepted.{Accepted, instance_of}
use Rattle.instance.specs.Limits.{Limits}
use Rattle.instance.specs.Shows.{ShowsGraph, Shows}
use Rattle.instance.proofs.Accepted.{sizes_same}
use Rattle.calls.proofs.Plan.{numbered_step, numbered_plan}
use Rattle.conditions.specs.Inside.{Inside}

-- ---- the time until rest, by the bytes that the code reads for agent a in rows t and t + 1
module _ (s : Sizes) (p : List ℕ) (a : ℕ) where
  abbrev rest : ℕ → ℕ
  rest t = rest_time t (plan_row s p) a

  pub rest_begins : 0 ≡ rest 0
  rest_begins = let l = (rest_until 0 (plan_row s p) a).within in omega arith

  module _ (t : ℕ) where
    abbrev after : ℕ
    after = get_or p (t * s.k + s.k + a) 0

    byte_after : after ≡ plan_row s p (suc t) a
    byte_after = ap (λ (x : ℕ). get_or p (x + a) 0) (sym (suc-mul t s.k))

    pub rest_changed : plan_row s p t a ≢ after → t + 1 ≡ rest (t + 1)
    rest_changed d = rw (add-one t) (rest_moves t (plan_row s p) a (λ e. d (e ∙ sym byte_after)))

    pub rest_same : (r : ℕ) → r ≡ rest t → plan_row s p t a ≡ after → r ≡ rest (t + 1)
    rest_same r er e = rw (add-one t) (er ∙ rest_keeps t (plan_row s p) a (e ∙ byte_after))

-- ---- question 20's number of agent a in step t; under rule 1 it says what the occupant does
abbrev number_of : Sizes → List ℕ → ℕ → ℕ → ℕ
number_of s p t a = second_number s (plan_row s p t) (plan_row s p (suc t)) a

abbrev leaves_number : Sizes → List ℕ → ℕ → ℕ → ℕ
leaves_number s p t a = occupied_number (occupant_leaves s (plan_row s p t) (plan_row s p (suc t)) a)

-- the first agent found on a vertex in the part of the bytes that is row t
pub found_there : (s : Sizes) (p : List ℕ) (t : ℕ) → length p ≡ plan_bytes s → t < s.m → (x : ℕ) (r : Option ℕ)
    → FirstFailing (length (take (t * s.k + s.k - t * s.k) (drop (t * s.k) p))) (λ c. not (eqb (row (take (t * s.k + s.k - t * s.k) (drop (t * s.k) p)) c) x)) r
    → FirstFailing s.k (λ c. not (eqb (get_or p (t * s.k + c) 0) x)) r
found_there s p t e l x r f =
    let known : Rows s p t = rows s p t e l in
    part_failing p (t * s.k) (t * s.k + s.k) s.k refl (omega (arith, known)) (λ c v. not (eqb v x)) r f

-- a fails condition 2 there, and b is the first agent found on the vertex that it enters
module _ (s : Sizes) (one : s.rule ≢ 2) (p : List ℕ) (t a : ℕ) (fails : T (condition2 s (plan_row s p t) (plan_row s p (suc t)) a) → ⊥) (b : ℕ) (f : FirstFault s.k (λ c. not (eqb (get_or p (t * s.k + c) 0) (get_or p (t * s.k + s.k + a) 0))) b) where
  abbrev here : Row
  here = plan_row s p t

  abbrev next : Row
  next = plan_row s p (suc t)

  -- the bytes of the next row
  abbrev byte : ℕ → ℕ
  byte c = get_or p (t * s.k + s.k + c) 0

  byte_next : (c : ℕ) → byte c ≡ next c
  byte_next c = ap (λ (x : ℕ). get_or p (x + c) 0) (sym (suc-mul t s.k))

  found : FirstFault s.k (λ c. not (eqb (here c) (next a))) b
  found = subst (λ (x : ℕ). FirstFault s.k (λ c. not (eqb (here c) x)) b) (byte_next a) f

  pub occupant_below : b < s.k
  occupant_below = occupant_inside s one here next a fails b found

  pub number_stays : byte b ≡ byte a → 20 ≡ leaves_number s p t a
  unfolding occupied_number
  number_stays e = sym (ap occupied_number (leaves_stays s one here next a fails b found (sym (byte_next b) ∙ e ∙ byte_next a)))

  module _ (d : byte b ≢ byte a) where
    moved : next b ≢ next a
    moved e = d (byte_next b ∙ e ∙ sym (byte_next a))

    pub number_exchanges : byte b ≡ here a → 25 ≡ leaves_number s p t a
    unfolding occupied_number
    number_exchanges e = sym (ap occupied_number (leaves_exchanges s one here next a fails b found moved (sym (byte_next b) ∙ e)))

    pub number_on : byte b ≢ here a → 26 ≡ leaves_number s p t a
    unfolding occupied_number
    number_on e = sym (ap occupied_number (leaves_on s one here next a fails b found moved (λ x. e (byte_next b ∙ x))))

-- ---- a question of all agents, where k is their number as the code has it; `at` is where the row begins in which the place is named
module _ (I : Instance) (k : ℕ) (ek : k ≡ I.sizes.k) (test : ℕ → Bool) (number : ℕ → ℕ) (row : ℕ) (qs : List Question) where
  abbrev refusal : ℕ → Answer
  refusal a = refuse (number a) (plan_index I.sizes row a)

  pub stop_agents : (r : ℕ) → FirstFailing I.sizes.k test (Some r) → (at : ℕ) → at ≡ row * k → refuse (number r) (at + r) ≡ decide (ask_each I.sizes.k test refusal ∷ qs) 0
  stop_agents r f at ea =
      ap (λ (x : ℕ). refuse (number r) (x + r)) (ea ∙ ap (λ (x : ℕ). row * x) ek) ∙ sym (fault_stop f.1 refusal qs 0 f.0)

  pub pass_agents : FirstFailing I.sizes.k test None → decide qs 0 ≡ decide (ask_each I.sizes.k test refusal ∷ qs) 0
  pass_agents f = sym (fault_pass f refusal qs 0 (le_refl _))

-- ---- 19 to 21 of step t
module _ (I : Instance) (s : Sizes) (words : List ℕ) (same : ShowsGraph I s words) (p : List ℕ) (t : ℕ) where
  es : s ≡ I.sizes
  es = same.sizes

  -- the first agent that fails a condition between rows t and t + 1, for a test of neighbours
  abbrev Fails : Sizes → (ℕ → ℕ → Bool) → ℕ → Option ℕ → Type 0
  Fails z near which r = FirstFailing z.k (condition z near which (plan_row z p t) (plan_row z p (suc t))) r

  fails : (which : ℕ) (r : Option ℕ) → Fails s (joined words) which r → Fails I.sizes (adjacent I) which r
  fails which r f =
      subst (λ (near : ℕ → ℕ → Bool). Fails I.sizes near which r) same.words
      (subst (λ (z : Sizes). Fails z (joined words) which r) es f)

  ek : s.k ≡ I.sizes.k
  ek = ap (λ (z : Sizes). z.k) es

  row_begins : (t + 1) * s.k ≡ suc t * s.k
  row_begins = ap (λ (u : ℕ). u * s.k) (add-one t)

  pub stop_19 : (x : ℕ) → Fails s (joined words) 0 (Some x) → refuse 19 ((t + 1) * s.k + x) ≡ decide (step_questions I p t) 0
  stop_19 x f = stop_agents I s.k ek _ (λ a. 19) (suc t) (question20 I p t ∷ question21 I p t ∷ []) x (fails 0 (Some x) f) _ row_begins

  module _ (f : Fails s (joined words) 0 None) where
    pass_19 : decide (question20 I p t ∷ question21 I p t ∷ []) 0 ≡ decide (step_questions I p t) 0
    pass_19 = pass_agents I s.k ek _ (λ a. 19) (suc t) (question20 I p t ∷ question21 I p t ∷ []) (fails 0 None f)

    pub stop_20 : (y : ℕ) → Fails s (joined words) 1 (Some y) → (q : ℕ) → q ≡ number_of s p t y → refuse q ((t + 1) * s.k + y) ≡ decide (step_questions I p t) 0
    stop_20 y g q e =
        ap (λ (w : ℕ). refuse w ((t + 1) * s.k + y)) (e ∙ ap (λ (z : Sizes). number_of z p t y) es)
        ∙ stop_agents I s.k ek _ (number_of I.sizes p t) (suc t) (question21 I p t ∷ []) y (fails 1 (Some y) g) _ row_begins
        ∙ pass_19

    module _ (g : Fails s (joined words) 1 None) where
      pass_20 : decide (question21 I p t ∷ []) 0 ≡ decide (step_questions I p t) 0
      pass_20 = pass_agents I s.k ek _ (number_of I.sizes p t) (suc t) (question21 I p t ∷ []) (fails 1 None g) ∙ pass_19

      pub stop_21 : (z : ℕ) → Fails s (joined words) 2 (Some z) → refuse 21 ((t + 1) * s.k + z) ≡ decide (step_questions I p t) 0
      stop_21 z h = stop_agents I s.k ek _ (λ a. 21) (suc t) [] z (fails 2 (Some z) h) _ row_begins ∙ pass_20

      pub pass_21 : Fails s (joined words) 2 None → accept 0 ≡ decide (step_questions I p t) 0
      pass_21 h = asked_all ∙ pass_agents I s.k ek _ (λ a. 21) (suc t) [] (fails 2 None h) ∙ pass_20

-- what the plan's length and the instance's limits say of the row offsets
pub record Room (s : Sizes) (p : List ℕ) : Type 0 where
  pub last : s.m * s.k + s.k ≡ length p
  pub k_most : s.k ≤ 16
  pub m_most : s.m ≤ 32

pub room : (s : Sizes) → Limits s → (p : List ℕ) → length p ≡ plan_bytes s → Room s p
room s w p e =
    record {
      last = sym (e ∙ suc-mul s.m s.k);
      k_most = w.k_most;
      m_most = w.m_most;
    }

-- every byte that passes 17 has a word, and a bit in each
pub inside : (s : Sizes) → Limits s → (p : List ℕ) → FirstFailing (length p) (λ i. ltb (get_or p i 0) s.n) None → Inside p
inside s w p f i q = omega (arith, (ltb_iff (get_or p i 0) s.n).0 (f.before i q), w.n_most)

-- ---- 17 to 22, of a plan of the right length
module _ (I : Instance) (c : Checked) (w : Shows I c.sizes c.starts c.goals c.near) (p : List ℕ) (ep : length p ≡ plan_bytes c.sizes) where
  abbrev s : Sizes
  s = c.sizes

  abbrev steps_questions : List Question
  steps_questions = for I.sizes.m (step_questions I p)

  abbrev goal_questions : List Question
  goal_questions = question22 I p ∷ []

  same_sizes : s ≡ I.sizes
  same_sizes = w.graph.sizes

  -- where the last row begins
  rows_end : s.m * s.k + s.k ≡ length p
  rows_end = sym (ep ∙ suc-mul s.m s.k)

  agents_same : s.k ≡ I.sizes.k
  agents_same = ap (λ (z : Sizes). z.k) same_sizes

  bytes_fault : (r : Option ℕ) → FirstFailing (length p) (λ i. ltb (get_or p i 0) s.n) r → FirstFailing (plan_bytes I.sizes) (λ i. ltb (get_or p i 0) I.sizes.n) r
  bytes_fault r f = subst (λ (z : Sizes). FirstFailing (plan_bytes z) (λ i. ltb (get_or p i 0) z.n) r) same_sizes (rw ep at f)

  pub stop_17 : (i : ℕ) → FirstFailing (length p) (λ i. ltb (get_or p i 0) s.n) (Some i) → refuse 17 i ≡ decide (plan_questions I p) 0
  unfolding plan_questions
  stop_17 i f = let g = bytes_fault (Some i) f in sym (fault_stop g.1 (refuse 17) _ 0 g.0)

  module _ (f : FirstFailing (length p) (λ i. ltb (get_or p i 0) s.n) None) where
    pass_17 : decide (question18 I p ∷ steps_questions ++ goal_questions) 0 ≡ decide (plan_questions I p) 0
    unfolding plan_questions
    pass_17 = sym (fault_pass (bytes_fault None f) (refuse 17) _ 0 (le_refl _))

    -- what is found in the first row of the plan, beside the starts
    abbrev StartFault : Option ℕ → Type 0
    StartFault r = FirstFailing (length (take s.k p)) (λ a. eqb (row (take s.k p) a) (get_or c.starts a 0)) r

    start_fault : (r : Option ℕ) → StartFault r → FirstFailing I.sizes.k (λ a. eqb (plan_row I.sizes p 0 a) (I.start a)) r
    start_fault r f =
        let long : length (take s.k p) ≡ s.k = length-take-le s.k p (omega (arith, rows_end)) in
        subst (λ (z : Sizes). FirstFailing z.k (λ a. eqb (plan_row z p 0 a) (I.start a)) r) same_sizes
        (failing_ext r (λ a l. ap₂ eqb (get_or-take s.k p a 0 l ∙ ap (λ (x : ℕ). get_or p x 0) (sym (zero-add a) ∙ ap (λ (x : ℕ). x + a) (sym (zero-mul s.k)))) (w.starts_at a l))
        (subst (λ (k : ℕ). FirstFailing k (λ a. eqb (row (take s.k p) a) (get_or c.starts a 0)) r) long f))

    pub stop_18 : (a : ℕ) → StartFault (Some a) → refuse 18 a ≡ decide (plan_questions I p) 0
    stop_18 a g =
        ap (refuse 18) (sym (zero-add a))
        ∙ stop_agents I s.k agents_same _ (λ a. 18) 0 (steps_questions ++ goal_questions) a (start_fault (Some a) g) 0 (sym (zero-mul s.k))
        ∙ pass_17

    module _ (g : StartFault None) where
      pass_18 : decide (steps_questions ++ goal_questions) 0 ≡ decide (plan_questions I p) 0
      pass_18 = pass_agents I s.k agents_same _ (λ a. 18) 0 (steps_questions ++ goal_questions) (start_fault None g) ∙ pass_17

      same_steps : {r : Answer} → r ≡ decide (for s.m (step_questions I p)) 0 → r ≡ decide steps_questions 0
      same_steps er = er ∙ ap (λ (z : Sizes). decide (for z.m (step_questions I p)) 0) same_sizes

      pub stop_steps : (e : Refusal) → refused e ≡ decide (for s.m (step_questions I p)) 0 → refused e ≡ decide (plan_questions I p) 0
      stop_steps e er = refused_after e steps_questions goal_questions 0 0 (same_steps er) ∙ pass_18

      module _ (er : accept 0 ≡ decide (for s.m (step_questions I p)) 0) where
        pass_steps : decide goal_questions 0 ≡ decide (plan_questions I p) 0
        pass_steps =
            let known : T (all numbered steps_questions) = (for_all numbered I.sizes.m (step_questions I p)).1 (λ t l. numbered_step I p t) in
            sym (decide_after steps_questions goal_questions 0 ((decide_iff steps_questions 0 known).0 (sym (ap (λ (a : Answer). a.number) (same_steps er)))))
            ∙ pass_18

        -- what is found in its last row, beside the goals
        abbrev GoalFault : Option ℕ → Type 0
        GoalFault r =
            FirstFailing (length (take (length p - s.m * s.k) (drop (s.m * s.k) p)))
            (λ a. free (get_or c.goals a 0) || eqb (row (take (length p - s.m * s.k) (drop (s.m * s.k) p)) a) (get_or c.goals a 0)) r

        goal_fault : (r : Option ℕ) → GoalFault r → FirstFailing I.sizes.k (at_goal I.goal (plan_row I.sizes p I.sizes.m)) r
        goal_fault r f =
            subst (λ (z : Sizes). FirstFailing z.k (at_goal I.goal (plan_row z p z.m)) r) same_sizes
            (failing_ext r (λ a l. ap (λ (v : ℕ). free v || eqb (get_or p (s.m * s.k + a) 0) v) (w.goals_at a l))
            (part_failing p (s.m * s.k) (length p) s.k rows_end (le_refl _) (λ a v. free (get_or c.goals a 0) || eqb v (get_or c.goals a 0)) r f))

        pub stop_22 : (a : ℕ) → GoalFault (Some a) → refuse 22 (s.m * s.k + a) ≡ decide (plan_questions I p) 0
        stop_22 a g =
            stop_agents I s.k agents_same _ (λ a. 22) I.sizes.m [] a (goal_fault (Some a) g) _ (ap (λ (z : Sizes). z.m * s.k) same_sizes) ∙ pass_steps

        pub pass_22 : GoalFault None → accept 0 ≡ decide (plan_questions I p) 0
        pass_22 g = asked_all ∙ pass_agents I s.k agents_same _ (λ a. 22) I.sizes.m [] (goal_fault None g) ∙ pass_steps

-- ---- the whole check: 13, then the plan's questions, whose count is the cost
module _ (b : List ℕ) (c : Checked) (w : Accepted b c) (p : List ℕ) where
  abbrev I : Instance
  I = instance_of b c

  bytes_same : plan_bytes c.sizes ≡ plan_bytes I.sizes
  bytes_same = ap plan_bytes (sizes_same b c w)

  pub stop_13 : length p ≢ plan_bytes c.sizes → refuse 13 (length p) ≡ decide (check_rest I p) (cost I.sizes p)
  stop_13 d = sym (ask_no (eqb (length p) (plan_bytes I.sizes)) _ _ _ (λ t. d ((eqb_iff _ _).0 t ∙ sym bytes_same)))

  module _ (e : length p ≡ plan_bytes c.sizes) where
    pass_13 : decide (plan_questions I p) (cost I.sizes p) ≡ decide (check_rest I p) (cost I.sizes p)
    pass_13 = sym (ask_yes (eqb (length p) (plan_bytes I.sizes)) _ _ _ ((eqb_iff _ _).1 (e ∙ bytes_same)))

    pub stop_plan : (r : Refusal) → refused r ≡ decide (plan_questions I p) 0 → refused r ≡ decide (check_rest I p) (cost I.sizes p)
    stop_plan r er = er ∙ count_free (plan_questions I p) 0 _ (λ z. refusal_numbered r (ap (λ (a : Answer). a.number) er ∙ z)) ∙ pass_13

    pub pass_plan : accept 0 ≡ decide (plan_questions I p) 0 → (count : ℕ) → count ≡ cost c.sizes p → accept count ≡ decide (check_rest I p) (cost I.sizes p)
    pass_plan er count ec =
        let known = ((and_iff (numbered (question13 I p)) _).0 (numbered_plan I p)).1 in
        ap accept (ec ∙ ap (λ (s : Sizes). cost s p) (sizes_same b c w))
        ∙ sym (decide_count (plan_questions I p) _ ((decide_iff (plan_questions I p) 0 known).0 (sym (ap (λ (a : Answer). a.number) er))))
        ∙ pass_13
