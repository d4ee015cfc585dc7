-- 33 behind the encoder's other questions, where r is their answer; and the entries as two parts of the slice.
use mathlib.Core.Path.{◌≡◌, refl, sym, ◌∙◌, ap}
use mathlib.Core.Logic.{◌≢◌}
use mathlib.Core.List.{List, [], ◌∷◌, ◌++◌}
use Prim.Native.Nat.{ℕ, ◌≤◌, ◌<◌}
use native.Mathlib.Omega.{arith}
use lib.ListN.{length}
use lib.IntN.{ℤ}
use lib.Dec.{T, leb}
use Rattle.lists.specs.Slice.{filled}
use Rattle.lists.specs.Loop.{all}
use Rattle.lists.proofs.Tests.{leb_iff}
use Rattle.answers.specs.declared.Answer.{Answer}
use Rattle.answers.specs.Answers.{Question, refuse, accept, decide, clear}
use Rattle.answers.specs.declared.Refusal.{Refusal}
use Rattle.answers.specs.Returned.{refused}
use Rattle.answers.proofs.Returned.{refusal_numbered, refused_lent}
use Rattle.answers.proofs.Laws.{numbered_second, decide_iff, decide_count, decide_after, decide_refused, ask_yes, ask_no, ask_all}
use Rattle.instance.specs.declared.Sizes.{Sizes}
use Rattle.instance.specs.declared.problem.Problem.{Problem}
use Rattle.instance.specs.Problem.{checked_of}
use Rattle.instance.specs.Instance.{Instance, instance}
use Rattle.instance.specs.Questions.{instance_checked}
use Rattle.instance.specs.Accepted.{instance_of}
use Rattle.instance.proofs.Accepted.{sizes_same}
use Rattle.instance.proofs.Call.{slice_filled}
use Rattle.plan.specs.Plan.{cost}
use Rattle.calls.specs.Questions.{question13, question16, question33}
use Rattle.calls.specs.Calls.{plan_questions, encode_rest}
use Rattle.ceiling.specs.Ceiling.{ceiling_variables, under_ceiling}
use Rattle.ceiling.specs.Encoded.{ceiling_valuation}
use Rattle.calls.specs.Ceiling.{ceiling_questions, ceiling_answer, ceiling_encode_answer, ceiling_encode_slice}
use Rattle.calls.proofs.Ceiling.{horizon, ceiling_refuses, call_answers}
use Rattle.ceiling_size.proofs.Laws.{known}
use Rattle.calls.proofs.Plan.{numbered_plan}

module _ (I : Instance) (N c : ℕ) (p : List ℕ) (size : ℕ) (r : Answer) (er : r ≡ decide (encode_rest I N p size) N) where
  abbrev own : List Question
  own = encode_rest I N p size

  abbrev whole : Answer
  whole = decide (own ++ question33 c I p ∷ []) N

  pub stop_own : r.number ≢ 0 → r ≡ whole
  stop_own d = er ∙ sym (decide_refused own (question33 c I p ∷ []) N N (λ z. d (ap (λ (a : Answer). a.number) er ∙ z)))

  module _ (z : r.number ≡ 0) where
    yes_own : T (all clear own)
    yes_own =
        (decide_iff own N (numbered_second (question13 I p) (question16 N size) (plan_questions I p) ((ask_all _ (leb N size) _).1 (λ f. tt)) (numbered_plan I p))
        ).0 (sym (ap (λ (a : Answer). a.number) er) ∙ z)

    rest : whole ≡ decide (question33 c I p ∷ []) N
    rest = decide_after own (question33 c I p ∷ []) N yes_own

    module _ (x : ℕ) (ex : x ≡ cost I.sizes p) where
      pub stop_33 : c < x → refuse 33 x ≡ whole
      stop_33 l =
          ap (refuse 33) ex
          ∙ sym (rest ∙ ask_no (leb (cost I.sizes p) c) _ [] N (λ t. let h = (leb_iff (cost I.sizes p) c).0 t in let f : ⊥ = omega (arith, ex) in f))

      pub pass_33 : x ≤ c → r ≡ whole
      unfolding decide
      pass_33 l =
          er ∙ decide_count own N yes_own ∙ sym (rest ∙ ask_yes (leb (cost I.sizes p) c) _ [] N ((leb_iff (cost I.sizes p) c).1 (omega (arith, ex))))

-- ---- the call, which is lent the slice z
module _ (b : List ℕ) (m rule c : ℕ) (p : List ℕ) (z : List ℤ) where
  abbrev asks : Instance → List Question
  asks I = encode_rest I (under_ceiling c I).variables p (length z) ++ question33 c I p ∷ []

  abbrev count : Instance → ℕ
  count I = (under_ceiling c I).variables

  -- it answers r and leaves g
  abbrev Answers : Answer → List ℤ → Type 0
  Answers r g = (r ≡ ceiling_encode_answer b m rule c p (length z)) × (g ≡ ceiling_encode_slice b m rule c p z)

  unchanged : (e : Refusal) → refused e ≡ decide (ceiling_questions b m rule c ++ asks (instance b m rule)) (count (instance b m rule)) → Answers (refused e) z
  unfolding ceiling_encode_answer ceiling_encode_slice
  unchanged e h = (h, refused_lent e _ z h)

  -- the check refuses
  pub refuses : (e : Refusal) → refused e ≡ ceiling_answer b m rule c → Answers (refused e) z
  refuses e h = unchanged e (ceiling_refuses b m rule c (refused e) (instance_checked b m rule) h refl asks count (refusal_numbered e))

  -- it finds the problem q, whose formula has N variables
  module _ (q : Problem) (ea : accept 0 ≡ ceiling_answer b m rule c) (ek : checked_of q ≡ instance_checked b m rule) (N : ℕ) (eN : N ≡ ceiling_variables q.shape.sizes c) where
    abbrev J : Instance
    J = instance_of b (checked_of q)

    same : q.shape.sizes ≡ J.sizes
    same = sizes_same b (checked_of q) (known b m rule c q ea ek)

    answers : (r : Answer) → r ≡ decide (asks J) (count J) → r ≡ decide (ceiling_questions b m rule c ++ asks (instance b m rule)) (count (instance b m rule))
    answers r er = call_answers b m rule c (accept 0) (checked_of q) ea ek asks count refl r er

    own_told : (r : Answer) → r ≡ decide (encode_rest J N p (length z)) N → r ≡ decide (encode_rest J (under_ceiling c J).variables p (length z)) (under_ceiling c J).variables
    own_told r h = h ∙ ap (λ (n : ℕ). decide (encode_rest J n p (length z)) n) (eN ∙ ap (λ (s : Sizes). ceiling_variables s c) same)

    -- 13 to 22 refuse
    pub asks_no : (e : Refusal) → refused e ≡ decide (encode_rest J N p (length z)) N → Answers (refused e) z
    asks_no e h = unchanged e (answers _ (stop_own J _ c p (length z) (refused e) (own_told _ h) (refusal_numbered e)))

    -- they accept a plan that costs x
    module _ (h : accept N ≡ decide (encode_rest J N p (length z)) N) (x : ℕ) (ex : x ≡ cost q.shape.sizes p) where
      costs : x ≡ cost J.sizes p
      costs = ex ∙ ap (λ (s : Sizes). cost s p) same

      pub too_dear : (e : Refusal) → c < x → refused e ≡ refuse 33 x → Answers (refused e) z
      too_dear e l k = unchanged e (answers _ (k ∙ stop_33 J _ c p (length z) (accept N) (own_told _ h) refl x costs l))

      pub gives : x ≤ c → Answers (accept N) (filled (ceiling_valuation q.shape.sizes p c) z)
      unfolding ceiling_encode_answer ceiling_encode_slice
      gives l =
          let e = answers (accept N) (pass_33 J _ c p (length z) (accept N) (own_told _ h) refl x costs l) in (
            e,
            ap (λ (s : Sizes). filled (ceiling_valuation s p c) z)
                (same ∙ ap (λ (I : Instance). I.sizes) (horizon b m rule c (accept 0) (checked_of q) ea ek refl))
                ∙ slice_filled _ (accept N) e _ z refl,
          )
