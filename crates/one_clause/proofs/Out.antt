-- The questions of one clause, and what is in the buffer.
use mathlib.Core.Path.{◌≡◌, refl, sym, ◌∙◌, ap}
use mathlib.Core.List.{List, [], ◌∷◌, ◌++◌}
use Prim.Native.Nat.{ℕ, ◌≤◌, ◌<◌}
use native.Mathlib.Omega.{arith}
use lib.IntN.{ℤ}
use lib.ListN.{length, take, drop, length-append}
use lib.Seq.{length-take-le}
use lib.Dec.{leb, ltb}
use Rattle.lists.specs.Loop.{for}
use Rattle.lists.specs.Slice.{filled, Wrote}
use Rattle.lists.proofs.Tests.{leb_iff, ltb_iff}
use Rattle.lists.proofs.Loops.{get_or_mem}
use Rattle.lists.proofs.Slices.{take_filled}
use Rattle.answers.specs.declared.Answer.{Answer}
use Rattle.answers.specs.Answers.{Question, refuse, accept, decide}
use Rattle.answers.specs.declared.Refusal.{Refusal}
use Rattle.answers.specs.Returned.{refused}
use Rattle.answers.proofs.Returned.{refused_lent}
use Rattle.answers.proofs.Laws.{ask_yes, ask_no}
use Rattle.instance.specs.declared.Checked.{Checked}
use Rattle.instance.specs.Instance.{Instance, instance}
use Rattle.instance.specs.Questions.{instance_questions, instance_answer, instance_checked}
use Rattle.instance.specs.declared.problem.Problem.{Problem}
use Rattle.instance.specs.Problem.{checked_of, ProblemOf}
use Rattle.instance.proofs.Call.{call_refused, passed, horizon, call_answers, slice_filled}
use Rattle.instance.specs.Accepted.{Accepted, instance_of}
use Rattle.instance.proofs.Accepted.{sizes_same, graph, counted_known, limits_known}
use Rattle.formula.specs.Formula.{Clause, clauses}
use Rattle.formula.specs.Blocks.{held, family}
use Rattle.formula.specs.Counts.{clause_count}
use Rattle.formula.proofs.Counts.{clause_count_lem}
use Rattle.formula.proofs.Limits.{clause_most}
use Rattle.formula.proofs.Held.{families_held}
use Rattle.calls.specs.Questions.{question12}
use Rattle.calls.specs.Calls.{clause_words, clause_rest, clause_answer, clause_slice}
use Rattle.one_clause.specs.Spot.{line_at}

-- 11 and 12 of an accepted instance, for a slice of the given size
module _ (b : List ℕ) (c : Checked) (w : Accepted b c) (number size : ℕ) where
  abbrev I : Instance
  I = instance_of b c

  abbrev out : List ℤ
  out = clause_words I number

  abbrev asked : Answer
  asked = decide (clause_rest I number size) (length out)

  counted : length (clauses I) ≡ clause_count c.sizes
  counted = clause_count_lem I (counted_known b c w) ∙ ap clause_count (sym (sizes_same b c w))

  pub stop_11 : clause_count c.sizes ≤ number → refuse 11 (clause_count c.sizes) ≡ asked
  stop_11 l =
      ap (refuse 11) (sym counted)
      ∙ sym (ask_no (ltb number (length (clauses I))) _ _ _ (λ t. omega (arith, counted, (ltb_iff number (length (clauses I))).0 t)))

  -- the clause has r words
  module _ (l : number < clause_count c.sizes) (r : ℕ) (e : r ≡ length out) where
    pass_11 : decide (question12 (length out) size ∷ []) (length out) ≡ asked
    pass_11 = sym (ask_yes (ltb number (length (clauses I))) _ _ _ ((ltb_iff number (length (clauses I))).1 (omega (arith, counted))))

    pub stop_12 : size < r → refuse 12 r ≡ asked
    stop_12 h = ap (refuse 12) e ∙ sym (ask_no (leb (length out) size) _ [] _ (λ t. omega (arith, (leb_iff (length out) size).0 t))) ∙ pass_11

    pub pass_12 : r ≤ size → accept r ≡ asked
    unfolding decide
    pass_12 h = ap accept e ∙ sym (ask_yes (leb (length out) size) _ [] _ ((leb_iff (length out) size).1 (omega arith))) ∙ pass_11

-- what is copied from a buffer to the start of a slice
pub copied : (l g s : List ℤ) {r : ℕ} → r ≤ length g → l ≡ take r g → l ++ drop r s ≡ filled (take r g) s
unfolding filled
copied l g s {r} h e = let n : length (take r g) ≡ r = length-take-le r g h in rw (e, n)

-- the words of a buffer that held k and has out first
pub taken : (out k g : List ℤ) {r : ℕ} → Wrote out k g r → take r g ≡ out
taken out k g {r} p = ap (take r) p.1 ∙ ap (λ (x : ℕ). take x (filled out k)) p.0 ∙ take_filled out k

-- what was written is part of what the slice then holds
pub fits : (out f g : List ℤ) {r : ℕ} → Wrote out f g r → r ≤ length g
unfolding filled
fits out f g p = omega (arith, p.0, ap length p.1, length-append out (drop (length out) f))

-- the clause, as it is put together from what the code holds; with its 0 it has at most 66 words
module _ (b : List ℕ) (c : Checked) (w : Accepted b c) (number : ℕ) where
  pub clause_held : clause_words (instance_of b c) number ≡ line_at (for 7 (family (held c))) number
  clause_held = ap (λ (cs : List Clause). line_at cs number) (families_held b c w)

  pub clause_short : number < clause_count c.sizes → length (line_at (for 7 (family (held c))) number) ≤ 66
  clause_short l =
      let I : Instance = instance_of b c in
      rw (← clause_held)
      (clause_most I (graph b c w) (rw (← (sizes_same b c w)) (limits_known b c w).n_most) _
      (get_or_mem [] (clauses I) number (rw (clause_count_lem I (counted_known b c w), ← (sizes_same b c w)) l)))

-- ---- the call, which is lent the slice s
module _ (b : List ℕ) (m rule number : ℕ) (s : List ℤ) where
  abbrev asks : Instance → List Question
  asks I = clause_rest I number (length s)

  abbrev count : Instance → ℕ
  count I = length (clause_words I number)

  -- it answers r, and leaves g in the slice
  abbrev Answers : Answer → List ℤ → Type 0
  Answers r g = (r ≡ clause_answer b m rule number (length s)) × (g ≡ clause_slice b m rule number s)

  unchanged : (e : Refusal) → refused e ≡ decide (instance_questions b m rule ++ asks (instance b m rule)) (count (instance b m rule)) → Answers (refused e) s
  unfolding clause_answer clause_slice
  unchanged e h = (h, refused_lent e _ s h)

  pub refuses : (e : Refusal) → refused e ≡ instance_answer b m rule → Answers (refused e) s
  refuses e h = unchanged e (call_refused b m rule e h asks count)

  -- it has found the problem p
  module _ (p : Problem) (ea : accept 0 ≡ instance_answer b m rule) (ec : checked_of p ≡ instance_checked b m rule) where
    known : ProblemOf b p
    known = passed b m rule (accept 0) (checked_of p) ea ec refl

    abbrev J : Instance
    J = instance_of b (checked_of p)

    abbrev words : List ℤ
    words = line_at (for 7 (family (held (checked_of p)))) number

    same : clause_words J number ≡ words
    same = clause_held b (checked_of p) known number

    answers : (r : Answer) → r ≡ decide (asks J) (count J) → r ≡ decide (instance_questions b m rule ++ asks (instance b m rule)) (count (instance b m rule))
    answers r er = call_answers b m rule (accept 0) (checked_of p) ea ec asks count refl r er

    pub no_clause : (e : Refusal) → clause_count p.shape.sizes ≤ number → refused e ≡ refuse 11 (clause_count p.shape.sizes) → Answers (refused e) s
    no_clause e l h = unchanged e (answers _ (h ∙ stop_11 b (checked_of p) known number (length s) l))

    module _ (l : number < clause_count p.shape.sizes) where
      pub short : length words ≤ 66
      short = clause_short b (checked_of p) known number l

      -- it has r words, which a buffer g that held k begins with
      module _ (k g : List ℤ) (r : ℕ) (w : Wrote words k g r) where
        counted_words : r ≡ length (clause_words J number)
        counted_words = w.0 ∙ ap length (sym same)

        pub no_room : (e : Refusal) → length s < r → refused e ≡ refuse 12 r → Answers (refused e) s
        no_room e h q = unchanged e (answers _ (q ∙ stop_12 b (checked_of p) known number (length s) l r counted_words h))

        pub gives : r ≤ length s → Answers (accept r) (filled (take r g) s)
        unfolding clause_answer clause_slice
        gives h =
            let e = answers (accept r) (pass_12 b (checked_of p) known number (length s) l r counted_words h) in (
              e,
              ap (λ (x : List ℤ). filled x s)
                  (taken words k g w ∙ sym same ∙ ap (λ (I : Instance). clause_words I number) (horizon b m rule (accept 0) (checked_of p) ea ec refl))
                  ∙ slice_filled _ (accept r) e _ s refl,
            )
