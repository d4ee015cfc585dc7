-- The size of any formula, and its writer.
use mathlib.Core.Path.{◌≡◌, sym, ◌∙◌, ap, ap₂, subst}
use mathlib.Core.Logic.{◌≢◌, by_cases}
use mathlib.Core.List.{List, [], ◌∷◌, ◌++◌}
use Prim.Native.Nat.{ℕ, ◌≤◌, ◌<◌}
use native.Mathlib.Decide.{dec_lt}
use native.Mathlib.Omega.{arith}
use lib.ListN.{length}
use lib.Dec.{T, leb}
use lib.IntN.{ℤ}
use Rattle.lists.specs.Loop.{all}
use Rattle.lists.specs.Slice.{filled}
use Rattle.lists.proofs.Tests.{leb_iff}
use Rattle.answers.specs.declared.Answer.{Answer}
use Rattle.answers.specs.declared.Size.{Size}
use Rattle.answers.specs.Answers.{Question, refuse, accept, decide, lent, with_clauses}
use Rattle.answers.proofs.Laws.{numbered, ask_yes, ask_no, asked_all, count_free, decide_iff, decide_after, decide_refused, decide_count, no_clauses_lem, lent_accepted, lent_refused}
use Rattle.instance.specs.Instance.{Instance}
use Rattle.formula.specs.Formula.{Formula, words}
use Rattle.calls.specs.Questions.{question12}
use Rattle.calls.specs.Calls.{write_rest}

-- 12, where so many words are needed, for a slice with so much room
module _ (needed room : ℕ) where
  pub stop_12 : room < needed → refuse 12 needed ≡ decide (question12 needed room ∷ []) 0
  stop_12 l = sym (ask_no (leb needed room) _ [] 0 (λ t. omega (arith, (leb_iff needed room).0 t)))

  pub pass_12 : needed ≤ room → accept 0 ≡ decide (question12 needed room ∷ []) 0
  pass_12 l = asked_all ∙ sym (ask_yes (leb needed room) _ [] 0 ((leb_iff needed room).1 l))

  -- a slice that is not refused has room
  pub fits_12 : (r : Answer) → r ≡ decide (question12 needed room ∷ []) 0 → r.number ≡ 0 → needed ≤ room
  fits_12 r e z =
      by_cases (dec_lt room needed)
      (λ l. let x : ⊥ = omega (arith, z, ap (λ (a : Answer). a.number) (e ∙ sym (stop_12 l))) in absurd x)
      (λ l. omega arith)

-- the answers for a formula F, by that of the questions qs that are asked first
module _ (qs : List Question) (ok : T (all numbered qs)) (F : Formula) where
  abbrev pub size_of : Size
  size_of = with_clauses (decide qs (length (words F))) (length F.clauses)

  pub size_refused : (decide qs 0).number ≢ 0 → with_clauses (decide qs 0) 0 ≡ size_of
  size_refused d =
      no_clauses_lem (decide qs 0) (length F.clauses) d
      ∙ ap (λ (a : Answer). with_clauses a (length F.clauses)) (count_free qs 0 (length (words F)) d)

  pub size_accepted : (decide qs 0).number ≡ 0 → with_clauses (accept (length (words F))) (length F.clauses) ≡ size_of
  size_accepted e =
      ap (λ (a : Answer). with_clauses a (length F.clauses))
      (sym (decide_count qs (length (words F)) ((decide_iff qs 0 ok).0 e)))

  -- the answer of a function that asks them
  module _ (a : Answer) (ea : a ≡ decide qs 0) where
    pub size_refuses : a.number ≢ 0 → with_clauses a 0 ≡ size_of
    size_refuses d = ap (λ (x : Answer). with_clauses x 0) ea ∙ size_refused (subst (λ (x : Answer). x.number ≢ 0) ea d)

    pub size_accepts : a.number ≡ 0 → (x y : ℕ) → length (words F) ≡ x → length F.clauses ≡ y → with_clauses (accept x) y ≡ size_of
    size_accepts o x y ex ey =
        ap₂ (λ (i j : ℕ). with_clauses (accept i) j) (sym ex) (sym ey) ∙ size_accepted (sym (ap (λ (x : Answer). x.number) ea) ∙ o)

  module _ (room : ℕ) where
    pub write_refused : (decide qs 0).number ≢ 0 → decide qs 0 ≡ decide (qs ++ write_rest F room) 0
    write_refused d = sym (decide_refused qs (write_rest F room) 0 0 d)

    pub write_passed : (decide qs 0).number ≡ 0 → decide (write_rest F room) 0 ≡ decide (qs ++ write_rest F room) 0
    write_passed e = sym (decide_after qs (write_rest F room) 0 ((decide_iff qs 0 ok).0 e))

-- ---- a writer of the formula f I, where a function asks qs and answers a, and has found the instance J; its slice holds s
module _ (f : Instance → Formula) (qs : List Question) (ok : T (all numbered qs)) (I J : Instance) (a : Answer) (ea : a ≡ decide qs 0) (same : a.number ≡ 0 → J ≡ I) (s : List ℤ) where
  abbrev pub written : Answer
  written = decide (qs ++ write_rest (f I) (length s)) 0

  abbrev pub slice : List ℤ
  slice = lent written (words (f I)) s

  unchanged : (r : Answer) → r ≡ written → r.number ≢ 0 → s ≡ slice
  unchanged r e d = sym (lent_refused written (words (f I)) s (subst (λ (x : Answer). x.number ≢ 0) e d))

  pub write_refuses : a.number ≢ 0 → (a ≡ written) × (s ≡ slice)
  write_refuses d =
      let e : a ≡ written = ea ∙ write_refused qs ok (f I) (length s) (subst (λ (x : Answer). x.number ≢ 0) ea d) in
      (e, unchanged a e d)

  -- so many words are needed, and r is the answer to 12
  module _ (o : a.number ≡ 0) (needed : ℕ) (count : length (words (f J)) ≡ needed) (r : Answer) (er : r ≡ decide (question12 needed (length s) ∷ []) 0) where
    answers : r ≡ written
    answers =
        er
        ∙ ap (λ (x : ℕ). decide (question12 x (length s) ∷ []) 0) (sym count ∙ ap (λ (K : Instance). length (words (f K))) (same o))
        ∙ write_passed qs ok (f I) (length s) (sym (ap (λ (x : Answer). x.number) ea) ∙ o)

    pub write_stops : r.number ≢ 0 → (r ≡ written) × (s ≡ slice)
    write_stops d = (answers, unchanged r answers d)

    pub write_fills : r.number ≡ 0 → (g : List ℤ) → g ≡ filled (words (f J)) s → (r ≡ written) × (g ≡ slice)
    write_fills z g eg = (
      answers,
      eg ∙ ap (λ (K : Instance). filled (words (f K)) s) (same o) ∙ sym (lent_accepted written (words (f I)) s (subst (λ (x : Answer). x.number ≡ 0) answers z)),
    )
