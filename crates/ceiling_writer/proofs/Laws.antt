-- The writer with a ceiling: what it answers and leaves, from the answers of the check and of 12.
use mathlib.Core.Path.{◌≡◌, refl, sym, ◌∙◌, ap, ap₂}
use mathlib.Core.List.{List, [], ◌∷◌, ◌++◌}
use Prim.Native.Nat.{ℕ, ◌≤◌}
use native.Mathlib.Omega.{arith}
use lib.IntN.{ℤ}
use lib.ListN.{length}
use Rattle.lists.specs.Loop.{for, each}
use Rattle.lists.specs.Slice.{filled}
use Rattle.answers.specs.declared.Answer.{Answer}
use Rattle.answers.specs.declared.Refusal.{Refusal}
use Rattle.answers.specs.Answers.{accept, decide}
use Rattle.answers.specs.Returned.{refused}
use Rattle.answers.proofs.Returned.{refusal_numbered}
use Rattle.instance.specs.declared.Sizes.{Sizes}
use Rattle.instance.specs.declared.problem.Problem.{Problem}
use Rattle.instance.specs.Problem.{checked_of}
use Rattle.instance.specs.Instance.{Instance, instance}
use Rattle.instance.specs.Questions.{instance_checked}
use Rattle.instance.specs.Accepted.{instance_of}
use Rattle.instance.proofs.Accepted.{sizes_same}
use Rattle.formula.specs.Formula.{Clause, line, words}
use Rattle.formula.specs.Blocks.{held, family}
use Rattle.formula.proofs.Held.{families_held}
use Rattle.ceiling.specs.Ceiling.{added_clauses, ceiling_words, under_ceiling}
use Rattle.calls.specs.Questions.{question12}
use Rattle.calls.specs.Ceiling.{ceiling_questions, ceiling_answer, ceiling_write_answer, ceiling_write_slice}
use Rattle.calls.proofs.Size.{fits_12, write_refuses, write_stops, write_fills}
use Rattle.calls.proofs.Ceiling.{numbered_ceiling, horizon}
use Rattle.ceiling_size.proofs.Laws.{words_held, known}

-- the slice holds s
module _ (b : List ℕ) (m rule c : ℕ) (s : List ℤ) where
  -- the call answers r and leaves g
  abbrev Answers : Answer → List ℤ → Type 0
  Answers r g = (r ≡ ceiling_write_answer b m rule c (length s)) × (g ≡ ceiling_write_slice b m rule c s)

  -- the check refuses
  pub refuses : (e : Refusal) → refused e ≡ ceiling_answer b m rule c → Answers (refused e) s
  unfolding ceiling_write_answer ceiling_write_slice ceiling_answer
  refuses e h =
      write_refuses (under_ceiling c) (ceiling_questions b m rule c) (numbered_ceiling b m rule c) (instance b m rule) (instance b m rule) (refused e) h (λ z. refl) s (refusal_numbered e)

  -- it finds the problem p, whose formula has so many words
  module _ (p : Problem) (ea : accept 0 ≡ ceiling_answer b m rule c) (ek : checked_of p ≡ instance_checked b m rule) (needed : ℕ) (count : needed ≡ ceiling_words p.shape.sizes c) where
    abbrev J : Instance
    J = instance_of b (checked_of p)

    -- as they are written
    abbrev written : List ℤ
    written = each line (for 7 (family (held (checked_of p))) ++ added_clauses p.shape.sizes c)

    same : words (under_ceiling c J) ≡ written
    unfolding words
    same =
        ap (each line)
        (ap₂ (λ (k l : List Clause). k ++ l) (families_held b (checked_of p) (known b m rule c p ea ek))
        (ap (λ (z : Sizes). added_clauses z c) (sym (sizes_same b (checked_of p) (known b m rule c p ea ek)))))

    counted : length (words (under_ceiling c J)) ≡ needed
    counted = words_held b p (known b m rule c p ea ek) c ∙ sym count

    -- 12 refuses
    pub stops : (e : Refusal) → refused e ≡ decide (question12 needed (length s) ∷ []) 0 → Answers (refused e) s
    unfolding ceiling_write_answer ceiling_write_slice ceiling_answer
    stops e h =
        write_stops (under_ceiling c) (ceiling_questions b m rule c) (numbered_ceiling b m rule c) (instance b m rule) J (accept 0) ea (horizon b m rule c (accept 0) (checked_of p) ea ek) s refl needed counted (refused e) h (refusal_numbered e)

    -- 12 accepts, and the words are written
    module _ (h : accept 0 ≡ decide (question12 needed (length s) ∷ []) 0) where
      pub room : length written ≤ length s
      room = omega (arith, ap length same, counted, fits_12 needed (length s) (accept 0) h refl)

      pub writes : (g : List ℤ) → g ≡ filled written s → Answers (accept 0) g
      unfolding ceiling_write_answer ceiling_write_slice ceiling_answer
      writes g e =
          write_fills (under_ceiling c) (ceiling_questions b m rule c) (numbered_ceiling b m rule c) (instance b m rule) J (accept 0) ea (horizon b m rule c (accept 0) (checked_of p) ea ek) s refl needed counted (accept 0) h refl g
          (e ∙ ap (λ (l : List ℤ). filled l s) (sym same))
