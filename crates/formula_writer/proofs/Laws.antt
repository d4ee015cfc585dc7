-- The writer of any formula: what it answers and leaves, from the answers of the instance check and of 12.
use mathlib.Core.Path.{◌≡◌, refl}
use mathlib.Core.List.{List, [], ◌∷◌}
use Prim.Native.Nat.{ℕ}
use lib.IntN.{ℤ}
use lib.ListN.{length}
use Rattle.lists.specs.Slice.{filled}
use Rattle.answers.specs.declared.Refusal.{Refusal}
use Rattle.answers.specs.Answers.{accept, decide}
use Rattle.answers.specs.Returned.{refused}
use Rattle.answers.proofs.Returned.{refusal_numbered, refused_lent}
use Rattle.instance.specs.declared.Checked.{Checked}
use Rattle.instance.specs.Instance.{Instance, instance}
use Rattle.instance.specs.Questions.{instance_questions, instance_answer, instance_checked}
use Rattle.instance.specs.Accepted.{instance_of}
use Rattle.instance.proofs.Instance.{numbered_instance}
use Rattle.instance.proofs.Call.{horizon, call_refused}
use Rattle.formula.specs.Formula.{Formula, words}
use Rattle.calls.specs.Questions.{question12}
use Rattle.calls.specs.Calls.{write_rest, write_answer, write_slice}
use Rattle.calls.proofs.Size.{write_stops, write_fills}

-- the slice holds s
module _ (f : Instance → Formula) (b : List ℕ) (m rule : ℕ) (s : List ℤ) where
  -- the instance check refuses
  pub refuses : (e : Refusal) → refused e ≡ instance_answer b m rule → (refused e ≡ write_answer f b m rule (length s)) × (s ≡ write_slice f b m rule s)
  unfolding write_answer write_slice
  refuses e h =
      let q = call_refused b m rule e h (λ I. write_rest (f I) (length s)) (λ _. 0) in
      (q, refused_lent e (words (f (instance b m rule))) s q)

  -- it accepts, c is the checked instance, and so many words are needed
  module _ (c : Checked) (ea : accept 0 ≡ instance_answer b m rule) (ec : c ≡ instance_checked b m rule) (needed : ℕ) (count : length (words (f (instance_of b c))) ≡ needed) where
    -- 12 refuses
    pub stops : (e : Refusal) → refused e ≡ decide (question12 needed (length s) ∷ []) 0 → (refused e ≡ write_answer f b m rule (length s)) × (s ≡ write_slice f b m rule s)
    unfolding write_answer write_slice instance_answer
    stops e h =
        write_stops f (instance_questions b m rule) (numbered_instance b m rule) (instance b m rule) (instance_of b c) (accept 0) ea (horizon b m rule (accept 0) c ea ec) s refl needed count (refused e) h (refusal_numbered e)

    -- 12 accepts, and the words are written
    pub writes : accept 0 ≡ decide (question12 needed (length s) ∷ []) 0 → (g : List ℤ) → g ≡ filled (words (f (instance_of b c))) s
        → (accept 0 ≡ write_answer f b m rule (length s)) × (g ≡ write_slice f b m rule s)
    unfolding write_answer write_slice instance_answer
    writes h g eg =
        write_fills f (instance_questions b m rule) (numbered_instance b m rule) (instance b m rule) (instance_of b c) (accept 0) ea (horizon b m rule (accept 0) c ea ec) s refl needed count (accept 0) h refl g eg
