-- The encoder's questions one after another, for any number N of variables, and the call.
use mathlib.Core.Path.{◌≡◌, refl, sym, ◌∙◌, ap}
use mathlib.Core.Logic.{◌≢◌}
use mathlib.Core.List.{List, ◌∷◌}
use Prim.Native.Nat.{ℕ, ◌≤◌, ◌<◌}
use native.Mathlib.Omega.{arith}
use lib.ListN.{length}
use lib.IntN.{ℤ}
use lib.Dec.{eqb, leb}
use Rattle.lists.specs.Slice.{filled}
use Rattle.lists.proofs.Tests.{and_iff, eqb_iff, leb_iff}
use Rattle.std.specs.Prelude.{Result, Ok, Err}
use Rattle.answers.specs.declared.Answer.{Answer}
use Rattle.answers.specs.declared.Refusal.{Refusal}
use Rattle.answers.specs.Returned.{refused, asked, answered}
use Rattle.answers.specs.Answers.{Question, refuse, accept, decide}
use Rattle.answers.proofs.Laws.{numbered, decide_iff, decide_count, count_free, ask_yes, ask_no}
use Rattle.answers.proofs.Returned.{refusal_numbered, refused_lent}
use Rattle.instance.specs.declared.Sizes.{Sizes}
use Rattle.instance.specs.declared.Checked.{Checked}
use Rattle.instance.specs.Instance.{Instance}
use Rattle.instance.specs.Questions.{instance_answer, instance_checked}
use Rattle.instance.specs.Accepted.{Accepted, instance_of}
use Rattle.instance.proofs.Accepted.{sizes_same}
use Rattle.instance.proofs.Call.{passed, horizon, call_refused, call_answers, slice_filled}
use Rattle.formula.specs.Variables.{variable_count}
use Rattle.formula.specs.Formula.{formula}
use Rattle.valuation.specs.Valuation.{plan_valuation}
use Rattle.plan.specs.Plan.{plan_bytes}
use Rattle.calls.specs.Questions.{question13, question16}
use Rattle.calls.specs.Calls.{plan_questions, encode_rest, encode_answer, encode_slice}
use Rattle.calls.proofs.Plan.{numbered_plan}

module _ (I : Instance) (s : Sizes) (es : s ≡ I.sizes) (N : ℕ) (p : List ℕ) (size : ℕ) where
  bytes_same : plan_bytes s ≡ plan_bytes I.sizes
  bytes_same = ap plan_bytes es

  abbrev q13 : Question
  q13 = question13 I p

  abbrev q16 : Question
  q16 = question16 N size

  abbrev plan : List Question
  plan = plan_questions I p

  pub stop_13 : length p ≢ plan_bytes s → refuse 13 (length p) ≡ decide (encode_rest I N p size) N
  stop_13 d = sym (ask_no (eqb (length p) (plan_bytes I.sizes)) (refuse 13 (length p)) _ N (λ t. d ((eqb_iff _ _).0 t ∙ sym bytes_same)))

  module _ (e : length p ≡ plan_bytes s) where
    pass_13 : decide (encode_rest I N p size) N ≡ decide (q16 ∷ plan) N
    pass_13 = ask_yes (eqb (length p) (plan_bytes I.sizes)) (refuse 13 (length p)) _ N ((eqb_iff _ _).1 (e ∙ bytes_same))

    pub stop_16 : size < N → refuse 16 N ≡ decide (encode_rest I N p size) N
    stop_16 l = sym (pass_13 ∙ ask_no (leb N size) (refuse 16 N) _ N (λ t. let h = (leb_iff N size).0 t in let f : ⊥ = omega arith in f))

    module _ (l : N ≤ size) where
      pass_16 : decide (encode_rest I N p size) N ≡ decide plan N
      pass_16 = pass_13 ∙ ask_yes (leb N size) (refuse 16 N) _ N ((leb_iff N size).1 l)

      -- what the plan's questions answer, whose count is 0
      pub plan_told : (r : Result (Unit {0}) Refusal) → asked r ≡ decide plan 0 → answered (λ _. N) r ≡ decide (encode_rest I N p size) N
      plan_told (Err e) er = er ∙ count_free plan 0 N (λ z. refusal_numbered e (ap (λ (a : Answer). a.number) er ∙ z)) ∙ sym pass_16
      plan_told (Ok u) er =
          let known = ((and_iff (numbered q13) _).0 (numbered_plan I p)).1 in
          sym (pass_16 ∙ decide_count plan N ((decide_iff plan 0 known).0 (sym (ap (λ (a : Answer). a.number) er))))

-- the call, where the instance check accepts and gives c, and N is the number of variables
module _ (b : List ℕ) (m rule : ℕ) (c : Checked) (ea : accept 0 ≡ instance_answer b m rule) (ec : c ≡ instance_checked b m rule) (N : ℕ) (eN : N ≡ variable_count c.sizes) (p : List ℕ) (z : List ℤ) where
  pub known : Accepted b c
  known = passed b m rule (accept 0) c ea ec refl

  -- what the questions answer is the call's answer
  pub told : (r : Answer) → r ≡ decide (encode_rest (instance_of b c) N p (length z)) N → r ≡ encode_answer b m rule p (length z)
  unfolding encode_answer
  told r e =
      call_answers b m rule (accept 0) c ea ec (λ I. encode_rest I (formula I).variables p (length z)) (λ I. (formula I).variables) refl r
      (e ∙ ap (λ (n : ℕ). decide (encode_rest (instance_of b c) n p (length z)) n) (eN ∙ ap variable_count (sizes_same b c known)))

  -- and an acceptance fills the slice with the valuation
  pub filled_so : accept N ≡ decide (encode_rest (instance_of b c) N p (length z)) N → filled (plan_valuation c.sizes p) z ≡ encode_slice b m rule p z
  unfolding encode_slice
  filled_so e =
      ap (λ (s : Sizes). filled (plan_valuation s p) z) (sizes_same b c known ∙ ap (λ (J : Instance). J.sizes) (horizon b m rule (accept 0) c ea ec refl))
      ∙ slice_filled (encode_answer b m rule p (length z)) (accept N) (told (accept N) e) _ z refl

-- a refusal leaves it
pub left_so : (b : List ℕ) (m rule : ℕ) (p : List ℕ) (z : List ℤ) (e : Refusal) → refused e ≡ encode_answer b m rule p (length z) → z ≡ encode_slice b m rule p z
unfolding encode_slice
left_so b m rule p z e h = refused_lent e _ z h

-- that of the instance check is the call's
pub instance_told : (b : List ℕ) (m rule : ℕ) (p : List ℕ) (l : ℕ) (e : Refusal) → refused e ≡ instance_answer b m rule → refused e ≡ encode_answer b m rule p l
unfolding encode_answer
instance_told b m rule p l e h = call_refused b m rule e h (λ I. encode_rest I (formula I).variables p l) (λ I. (formula I).variables)
