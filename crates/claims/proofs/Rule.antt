-- The movement rule: 31 stands behind 10, 20 and 26 are not asked under rule 2, and condition 2 of rule 1 says more than that of rule 2.
use mathlib.Core.Path.{◌≡◌, refl, sym, ◌∙◌, ap, ap₂, subst}
use mathlib.Core.Logic.{◌≢◌, inl, inr, ⊎_elim, by_cases}
use mathlib.Core.List.{List, [], ◌∷◌, ◌++◌, append-nil, append_assoc}
use mathlib.Core.Bool.{Bool, not, ◌||◌, cond}
use Prim.Native.Nat.{ℕ, suc, ◌+◌, ◌*◌, ◌-◌, ◌≤◌, ◌<◌}
use native.Mathlib.Decide.{dec_lt}
use native.Mathlib.Omega.{arith}
use borrow.Author.Tests.{eq-eqb, ne_eqb}
use lib.ListN.{length, get_or}
use lib.Dec.{T, eqb}
use Rattle.lists.specs.Loop.{for, all, sum}
use Rattle.lists.proofs.Tests.{and_iff, or_iff, not_iff, eqb_iff, leb_iff}
use Rattle.lists.proofs.Loops.{all_append, for_all}
use Rattle.lists.proofs.Blocks.{place_lt, nested_get_or}
use Rattle.lists.proofs.Sums.{for_at}
use Rattle.answers.specs.declared.Answer.{Answer}
use Rattle.answers.specs.Answers.{Question, ask, accept, refuse, decide, clear, with_clauses}
use Rattle.answers.proofs.Laws.{each_all, ask_all, ask_nil, clear_iff, decide_iff, decide_count, decide_after, decide_refused, decide_skip, decide_past}
use Rattle.instance.specs.Instance.{Instance, Counted, instance}
use Rattle.instance.specs.Questions.{question10, question31, bytes_questions, instance_questions, instance_answer}
use Rattle.instance.proofs.Instance.{all_bytes, all_instance, instance_iff}
use Rattle.formula.specs.Formula.{Clause, G, no_following, no_exchange, formula, words}
use Rattle.formula.proofs.Blocks.{stored, clauses_stored}
use Rattle.formula.proofs.Counts.{count_A, count_B, count_C, count_D, count_E, count_F, count_G, count_exchange}
use Rattle.formula.proofs.Places.{exchange_get_or}
use Rattle.plan.specs.Plan.{plan_row, cost}
use Rattle.plan.specs.Passing.{ValidStep, Passes}
use Rattle.plan.proofs.Steps.{vacant_exchange}
use Rattle.calls.specs.Questions.{question13, question16, question32, question33}
use Rattle.calls.specs.Ceiling.{ceiling_questions, ceiling_size_answer, ceiling_write_answer, ceiling_decode_answer, ceiling_encode_answer, ceiling_read_answer}
use Rattle.ceiling.specs.Ceiling.{under_ceiling}
use Rattle.calls.specs.Calls.{step_questions, plan_questions, text_questions, size_answer, write_rest, write_answer, clause_rest, clause_answer, check_rest, check_questions, check_answer, decode_rest, decode_answer, encode_rest, encode_answer, read_rest, read_answer, goal_question, floor_questions, floor_answer}
use Rattle.calls.proofs.Occupied.{number_exchange}
use Rattle.calls.proofs.Plan.{check_iff}
use Rattle.claims.specs.Correspondence.{Accepts}
use Rattle.claims.specs.Rule.{Every, Satisfiable, before_g, InG, Claim}
use Rattle.claims.proofs.Correspondence.{correspondence}
use Rattle.claims.proofs.Distances.{accepted_plan}
use Rattle.claims.proofs.Refusals.{numbered_check}

-- ---- 31 behind 10
module _ (b : List ℕ) (m : ℕ) where
  front : List Question
  front = bytes_questions b ++ question10 m ∷ []

  first : Answer
  first = decide front 0

  -- rule 1 is a rule, and so is 2
  one : instance_answer b m 1 ≡ first
  unfolding instance_answer instance_questions front first ask
  one = decide_skip front [] 0

  two : instance_answer b m 2 ≡ first
  unfolding instance_answer instance_questions front first ask
  two = decide_skip front [] 0

  same : instance_answer b m 2 ≡ instance_answer b m 1
  same = two ∙ sym one

  sooner : (rule : ℕ) → (instance_answer b m 1).number ≢ 0 → instance_answer b m rule ≡ instance_answer b m 1
  unfolding instance_answer instance_questions front first
  sooner rule d = decide_refused front (question31 rule ∷ []) 0 0 (λ e. d (ap (λ (a : Answer). a.number) one ∙ e)) ∙ sym one

  behind : (rule : ℕ) → T (all clear (bytes_questions b)) → m ≤ 32 → rule ≢ 1 → rule ≢ 2 → instance_answer b m rule ≡ refuse 31 0
  unfolding instance_answer instance_questions front ask decide
  behind rule ok l d e =
      decide_after front (question31 rule ∷ []) 0
      ((all_append clear (bytes_questions b) (question10 m ∷ [])).1 (ok, simp (and_iff, clear_iff, ask_nil, leb_iff) (l, tt)))
      ∙ rw (ne_eqb rule 1 d, ne_eqb rule 2 e)

-- every call asks them first
module _ (b : List ℕ) (m rule : ℕ) (e : instance_answer b m rule ≡ refuse 31 0) where
  abbrev Is31 : Answer → Type 0
  Is31 a = (a.number ≡ 31) × (a.second ≡ 0)

  asked : (qs : List Question) (c : ℕ) → Is31 (decide (instance_questions b m rule ++ qs) c)
  unfolding instance_answer
  asked qs c =
      let q : decide (instance_questions b m rule ++ qs) c ≡ refuse 31 0 =
      decide_refused (instance_questions b m rule) qs 0 c (λ z. let y = sym (ap (λ (a : Answer). a.number) e) ∙ z in omega arith) ∙ e in
      (ap (λ (a : Answer). a.number) q, ap (λ (a : Answer). a.second) q)

  sized : (c : ℕ) → Is31 (decide (instance_questions b m rule) c)
  sized c = subst (λ (qs : List Question). Is31 (decide qs c)) (append-nil (instance_questions b m rule)) (asked [] c)

  -- with a ceiling
  limited : (k : ℕ) (qs : List Question) (c : ℕ) → Is31 (decide (ceiling_questions b m rule k ++ qs) c)
  unfolding ceiling_questions
  limited k qs c =
      subst (λ (rs : List Question). Is31 (decide rs c)) (sym (append_assoc (instance_questions b m rule) (question32 k ∷ []) qs)) (asked ((question32 k ∷ []) ++ qs) c)

  refused : Every b m rule (λ number place. (number ≡ 31) × (place ≡ 0))
  unfolding with_clauses size_answer write_answer clause_answer check_answer decode_answer encode_answer read_answer ceiling_size_answer ceiling_write_answer ceiling_decode_answer ceiling_encode_answer ceiling_read_answer
  refused =
      record {
        size = λ f. sized _;
        writer = λ f room. asked (write_rest (f (instance b m rule)) room) _;
        clause = λ c room. asked (clause_rest (instance b m rule) c room) _;
        check = λ p. asked (check_rest (instance b m rule) p) _;
        decoder = λ es room. asked (decode_rest (instance b m rule) (formula (instance b m rule)) es room) _;
        encoder = λ p room. asked (encode_rest (instance b m rule) (formula (instance b m rule)).variables p room) _;
        reader = λ text room. asked (read_rest (formula (instance b m rule)).variables text room) _;
        ceiling_size = λ k. subst (λ (qs : List Question). Is31 (decide qs (length (words (under_ceiling k (instance b m rule)))))) (append-nil (ceiling_questions b m rule k)) (limited k [] _);
        ceiling_writer = λ k room. limited k _ _;
        ceiling_decoder = λ k es room. limited k _ _;
        ceiling_encoder = λ k p room. limited k _ _;
        ceiling_reader = λ k text room. limited k _ _;
      }

-- ---- 20 and 26
abbrev other_number : ℕ → Bool
other_number q = not (eqb q 20 || eqb q 26)

abbrev other : Answer → Bool
other r = other_number r.number

abbrev Neither : ℕ → Type 0
Neither number = (number ≢ 20) × (number ≢ 26)

abbrev Others : List Question → Type 0
Others qs = T (all (all other) qs)

neither : (r : Answer) → T (other r) → Neither r.number
neither r t =
    let f = (not_iff (eqb r.number 20 || eqb r.number 26)).0 t in (
      (λ e. f ((or_iff (eqb r.number 20) _).1 (inl ((eqb_iff r.number 20).1 e)))),
      (λ e. f ((or_iff (eqb r.number 20) _).1 (inr ((eqb_iff r.number 26).1 e)))),
    )

-- an answer is an acceptance, or a refusal of one of the questions
never_answered : (qs : List Question) (c : ℕ) → Others qs → Neither (decide qs c).number
never_answered qs c h =
    ⊎_elim
    (λ yes. let e = ap (λ (a : Answer). a.number) (decide_count qs c yes) in ((λ z. omega (arith, e, z)), (λ z. omega (arith, e, z))))
    (λ t. subst (λ (l : List Question). Neither (decide l c).number) (append-nil qs) (neither (decide (qs ++ []) c) t))
    (decide_past other qs [] c h)

module _ (b : List ℕ) (m rule : ℕ) where
  others_instance : Others (instance_questions b m rule)
  others_instance = all_instance b m rule other_number tt tt

  behind_instance : (qs : List Question) (c : ℕ) → Others qs → Neither (decide (instance_questions b m rule ++ qs) c).number
  behind_instance qs c h = never_answered (instance_questions b m rule ++ qs) c ((all_append (all other) (instance_questions b m rule) qs).1 (others_instance, h))

  behind_ceiling : (k : ℕ) (qs : List Question) (c : ℕ) → Others qs → Neither (decide (ceiling_questions b m rule k ++ qs) c).number
  unfolding ceiling_questions
  behind_ceiling k qs c h =
      never_answered ((instance_questions b m rule ++ question32 k ∷ []) ++ qs) c
      ((all_append (all other) (instance_questions b m rule ++ question32 k ∷ []) qs).1
      ((all_append (all other) (instance_questions b m rule) (question32 k ∷ [])).1 (others_instance, simp (and_iff, ask_all) ((λ f. tt), tt)), h))

-- under rule 2 question 20 has 25 alone
others_plan : (I : Instance) → I.sizes.rule ≡ 2 → (p : List ℕ) → Others (plan_questions I p)
unfolding plan_questions
others_plan I two p =
    simp (and_iff, all_append (all other) (for I.sizes.m (step_questions I p)), for_all, each_all)
    ((λ i l f. tt), ((λ a l f. tt), ((λ t l. ((λ a r f. tt), ((λ a r f. rw (number_exchange I.sizes (plan_row I.sizes p t) (plan_row I.sizes p (suc t)) a two) tt), ((λ a r f. tt), tt)))), ((λ a l f. tt), tt))))

module _ (b : List ℕ) (m : ℕ) where
  abbrev I : Instance
  I = instance b m 2

  is_two : I.sizes.rule ≡ 2
  unfolding instance
  is_two = refl

  never : Every b m 2 (λ number second. Neither number)
  unfolding with_clauses size_answer write_answer clause_answer check_answer decode_answer encode_answer read_answer text_questions ceiling_size_answer ceiling_write_answer ceiling_decode_answer ceiling_encode_answer ceiling_read_answer
  never =
      record {
        size = λ f. never_answered (instance_questions b m 2) _ (others_instance b m 2);
        writer = λ f room. behind_instance b m 2 (write_rest (f I) room) _ (simp (and_iff, ask_all) ((λ f. tt), tt));
        clause = λ c room. behind_instance b m 2 (clause_rest I c room) _ (simp (and_iff, ask_all) ((λ f. tt), ((λ f. tt), tt)));
        check = λ p. behind_instance b m 2 (check_rest I p) _ ((and_iff (all other (question13 I p)) _).1 (simp ask_all (λ f. tt), others_plan I is_two p));
        decoder = λ es room.
            behind_instance b m 2 (decode_rest I (formula I) es room) _ (simp (and_iff, each_all, ask_all) ((λ f. tt), ((λ f. tt), ((λ i l f. tt), ((λ c l f. tt), tt)))));
        encoder = λ p room.
            behind_instance b m 2 (encode_rest I (formula I).variables p room) _
            ((and_iff (all other (question13 I p)) _).1 (simp ask_all (λ f. tt), (and_iff (all other (question16 (formula I).variables room)) _).1 (simp ask_all (λ f. tt), others_plan I is_two p)));
        reader = λ text room.
            behind_instance b m 2 (read_rest (formula I).variables text room) _
            (simp (and_iff, each_all, ask_all) ((λ f. tt), ((λ f. tt), ((λ i l f. tt), ((λ f. tt), ((λ f. tt), ((λ i l f. tt), tt)))))));
        ceiling_size = λ k.
            subst (λ (qs : List Question). Neither (decide qs (length (words (under_ceiling k I)))).number) (append-nil (ceiling_questions b m 2 k)) (behind_ceiling b m 2 k [] _ tt);
        ceiling_writer = λ k room. behind_ceiling b m 2 k (write_rest (under_ceiling k I) room) _ (simp (and_iff, ask_all) ((λ f. tt), tt));
        ceiling_decoder = λ k es room.
            behind_ceiling b m 2 k (decode_rest I (under_ceiling k I) es room) _ (simp (and_iff, each_all, ask_all) ((λ f. tt), ((λ f. tt), ((λ i l f. tt), ((λ c l f. tt), tt)))));
        ceiling_encoder = λ k p room.
            behind_ceiling b m 2 k (encode_rest I (under_ceiling k I).variables p room ++ question33 k I p ∷ []) _
            ((all_append (all other) (encode_rest I (under_ceiling k I).variables p room) (question33 k I p ∷ [])).1
            ((and_iff (all other (question13 I p)) _).1 (simp ask_all (λ f. tt), (and_iff (all other (question16 (under_ceiling k I).variables room)) _).1 (simp ask_all (λ f. tt), others_plan I is_two p)), simp (and_iff, ask_all) ((λ f. tt), tt)));
        ceiling_reader = λ k text room.
            behind_ceiling b m 2 k (read_rest (under_ceiling k I).variables text room) _
            (simp (and_iff, each_all, ask_all) ((λ f. tt), ((λ f. tt), ((λ i l f. tt), ((λ f. tt), ((λ f. tt), ((λ i l f. tt), tt)))))));
      }

never_floor_lem : (b : List ℕ) → Neither (floor_answer b).number
unfolding floor_answer
never_floor_lem b = never_answered (floor_questions b) _ ((all_append (all other) (bytes_questions b) (goal_question b ∷ [])).1 (all_bytes b other_number tt, simp (and_iff, each_all) ((λ a l f. tt), tt)))

-- ---- from rule 1 to rule 2
module _ (b : List ℕ) (m : ℕ) where
  abbrev I₁ : Instance
  I₁ = instance b m 1

  abbrev I₂ : Instance
  I₂ = instance b m 2

  step_follows : (t : ℕ) (p : List ℕ) → ValidStep I₁ (plan_row I₁.sizes p t) (plan_row I₁.sizes p (suc t)) → ValidStep I₂ (plan_row I₂.sizes p t) (plan_row I₂.sizes p (suc t))
  unfolding instance
  step_follows t p w =
      record {
        crosses = w.crosses;
        second = vacant_exchange I₁ I₂ refl (plan_row I₁.sizes p t) (plan_row I₁.sizes p (suc t)) w.second;
        apart = w.apart;
      }

  passes_follows : (p : List ℕ) → Passes I₁ p → Passes I₂ p
  unfolding instance
  passes_follows p w =
      let o = w.leads in
      record {
        size = w.size;
        inside = w.inside;
        leads = record { starts = o.starts; steps = λ t l. step_follows t p (o.steps t l); goals = o.goals };
      }

  accepted : Accepts (instance_answer b m 1) → Accepts (instance_answer b m 2)
  accepted e = ap (λ (a : Answer). a.number) (same b m) ∙ e

  counted : (rule : ℕ) (p : List ℕ) → Accepts (check_answer b m rule p) → check_answer b m rule p ≡ accept (cost (instance b m rule).sizes p)
  unfolding check_answer
  counted rule p e = decide_count (check_questions b m rule p) _ ((decide_iff (check_questions b m rule p) _ (numbered_check b m rule p)).0 e)

  cost_same : (p : List ℕ) → cost I₂.sizes p ≡ cost I₁.sizes p
  unfolding instance cost
  cost_same p = refl

  follows : (p : List ℕ) → Accepts (check_answer b m 1 p) → check_answer b m 2 p ≡ check_answer b m 1 p
  follows p e =
      let ok = accepted_plan b m 1 p e in
      let ok₂ = (instance_iff b m 2).0 (accepted ((instance_iff b m 1).1 ok)) in
      let e₂ = (check_iff b m 2 ok₂ p).1 (passes_follows p ((check_iff b m 1 ok p).0 e)) in
      counted 2 p e₂ ∙ ap accept (cost_same p) ∙ sym (counted 1 p e)

  satisfiable : Accepts (instance_answer b m 1) → Satisfiable b m 1 → Satisfiable b m 2
  unfolding instance
  satisfiable e v =
      let (p, q, passes) = (correspondence b m 1 e).satisfiable.0 v in
      (correspondence b m 2 (accepted e)).satisfiable.1 (p, q, ap (λ (a : Answer). a.number) (follows p passes) ∙ passes)

-- ---- where a clause of G stands
module _ (I : Instance) (two : I.sizes.rule ≡ 2) (w : Counted I) where
  open I use {sizes, low, high}
  open sizes use {n, k, e, m}

  abbrev row : ℕ → ℕ → List Clause
  row t j = no_exchange sizes t (low j) (high j)

  in_G : InG I
  unfolding G
  in_G t j a b place l r q x d h =
      let p : ℕ = a * (k - 1) + place in
      let i : ℕ = (t * e + j) * (k * (k - 1)) + p in
      let few : place < k - 1 = by_cases (dec_lt b a) (λ y. omega (arith, h.below y)) (λ y. omega (arith, h.above (omega arith))) in
      let inside : p < k * (k - 1) = place_lt k (k - 1) a place q few in
      let is : stored I 6 ≡ for m (λ t. for e (row t)) =
      ap (λ (f : Bool). cond f (for m λ t. for e (row t)) (for m λ t. for k λ a. no_following sizes t a)) (eq-eqb sizes.rule 2 two) in
      let len : length (stored I 6) ≡ m * e * (k * (k - 1)) =
      count_G I ∙ ap (λ (f : Bool). cond f (m * e * (k * (k - 1))) (m * k * (k - 1) * n)) (eq-eqb sizes.rule 2 two) in
      let before : before_g I ≡ sum 6 (λ u. length (stored I u)) = omega (arith, count_A I, count_B I w, count_C I, count_D I, count_E I, count_F I) in
      ap₂ (λ (L : List Clause) (x : ℕ). get_or L (x + i) []) (clauses_stored I) before
      ∙ for_at 7 (stored I) [] 6 i (omega arith) (subst (λ (x : ℕ). i < x) (sym len) (place_lt (m * e) (k * (k - 1)) (t * e + j) p (place_lt m e t j l r) inside))
      ∙ ap (λ (L : List Clause). get_or L i []) is
      ∙ nested_get_or m e (k * (k - 1)) row [] (λ t j. count_exchange sizes t (low j) (high j)) t j p l r inside
      ∙ exchange_get_or sizes t a q (low j) (high j) place b few
      (λ o. by_cases (dec_lt b a) (λ y. sym (h.below y)) (λ y. absurd (let z = h.above (omega arith) in let f : ⊥ = omega arith in f)))
      (λ o. by_cases (dec_lt b a) (λ y. absurd (let z = h.below y in let f : ⊥ = omega arith in f)) (λ y. sym (h.above (omega arith))))

pub rule_claim : Claim
rule_claim =
    record {
      refused = λ b m rule ok l d e. refused b m rule (behind b m rule ok l d e);
      sooner = sooner;
      alike = same;
      never = never;
      never_floor = never_floor_lem;
      follows = follows;
      satisfiable = satisfiable;
      in_g = in_G;
    }
