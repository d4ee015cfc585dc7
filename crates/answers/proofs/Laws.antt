-- When questions are answered yes, and what the first no gives.
use mathlib.Core.Path.{◌≡◌, refl, sym, ◌∙◌, ap, ap₂}
use mathlib.Core.Logic.Iff
use mathlib.Core.Logic.{◌↔◌, ◌≢◌, ◌⊎◌, inl, inr, ⊎_elim, by_cases}
use mathlib.Core.List.{List, [], ◌∷◌, ◌++◌, append_assoc, cons≢nil}
use mathlib.Core.Bool.{Bool, not}
use Prim.Native.Nat.{ℕ, zero, suc, ◌≤◌, ◌<◌, ◌-◌, ◌+◌}
use native.Mathlib.Numerals.{add-one}
use native.Mathlib.Decide.{ℕ_discrete, dec_lt}
use native.Mathlib.Omega.{arith}
use lib.ListN.{length, take}
use lib.Dec.{T, ltb, ltb→lt}
use Rattle.lists.specs.Loop.{for, unless, all}
use Rattle.lists.specs.Slice.{filled}
use Rattle.lists.proofs.Tests.{and_iff, not_iff}
use Rattle.lists.proofs.Loops.{all_append, for_all, for_nil, for_split, unless_nil, unless_all, unless_one}
use Rattle.lists.proofs.Slices.{take_filled}
use Rattle.answers.specs.declared.Answer.{Answer}
use Rattle.answers.specs.Answers.{Question, ask, ask_each, clear, accept, decide, by_number, lent, with_clauses}
use Rattle.answers.specs.Fault.{FirstFault}
use Rattle.answers.proofs.Faults.{fault_of}

-- no refusal of a question has the number 0
abbrev pub numbered : Question → Bool
numbered q = all (λ r. ltb 0 r.number) q

pub clear_iff : (q : Question) → T (clear q) ↔ (q ≡ [])
clear_iff [] = ((λ t. refl), (λ e. tt))
clear_iff (r ∷ rs) = ((λ t. absurd t), (λ e. cons≢nil e))

-- a question about items, as a test over its refusals and where it is answered yes
module _ (n : ℕ) (test : ℕ → Bool) (refusal : ℕ → Answer) where
  pub each_all : (p : Answer → Bool) → T (all p (ask_each n test refusal)) ↔ ((i : ℕ) → i < n → (T (test i) → ⊥) → T (p (refusal i)))
  unfolding ask_each
  each_all p = simp (for_all, unless_all) Iff.rfl

  pub each_nil : (ask_each n test refusal ≡ []) ↔ ((i : ℕ) → i < n → T (test i))
  unfolding ask_each
  each_nil = simp (for_nil, unless_nil) Iff.rfl

-- the same of a question about one thing
pub ask_all : (p : Answer → Bool) (test : Bool) (r : Answer) → T (all p (ask test r)) ↔ ((T test → ⊥) → T (p r))
unfolding ask
ask_all p test r = unless_all p test r

pub ask_nil : (test : Bool) (r : Answer) → (ask test r ≡ []) ↔ T test
unfolding ask
ask_nil test r = unless_nil test r

-- no question has the number 0, so an answer is 0 exactly when each question is answered yes
pub decide_iff : (qs : List Question) (c : ℕ) → T (all numbered qs) → ((decide qs c).number ≡ 0) ↔ T (all clear qs)
unfolding decide
decide_iff [] c h = ((λ e. tt), (λ t. refl))
decide_iff ([] ∷ qs) c h = decide_iff qs c h
decide_iff ((r ∷ rs) ∷ qs) c h = (
  (λ e. let l = ltb→lt 0 r.number ((and_iff (ltb 0 r.number) _).0 ((and_iff (numbered (r ∷ rs)) _).0 h).0).0 in omega arith),
  (λ t. absurd t),
)

-- the count of an acceptance
pub decide_count : (qs : List Question) (c : ℕ) → T (all clear qs) → decide qs c ≡ accept c
unfolding decide
decide_count [] c t = refl
decide_count ([] ∷ qs) c t = decide_count qs c t
decide_count ((r ∷ rs') ∷ qs) c t = absurd t

-- one test: it holds, or it fails
module _ (test : Bool) (r : Answer) (qs : List Question) (c : ℕ) where
  pub ask_yes : T test → decide (ask test r ∷ qs) c ≡ decide qs c
  unfolding decide ask
  ask_yes t = rw ((unless_nil test r).1 t)

  pub ask_no : (T test → ⊥) → decide (ask test r ∷ qs) c ≡ r
  unfolding decide ask
  ask_no f = rw (unless_one test r f)

-- questions that are answered yes may be passed over
pub decide_after : (qs rs : List Question) (c : ℕ) → T (all clear qs) → decide (qs ++ rs) c ≡ decide rs c
unfolding decide
decide_after [] rs c t = refl
decide_after ([] ∷ qs) rs c t = decide_after qs rs c t
decide_after ((r ∷ rs') ∷ qs) rs c t = absurd t

pub decide_skip : (qs rs : List Question) (c : ℕ) → decide (qs ++ [] ∷ rs) c ≡ decide (qs ++ rs) c
unfolding decide
decide_skip [] rs c = refl
decide_skip ([] ∷ qs) rs c = decide_skip qs rs c
decide_skip ((r ∷ later) ∷ qs) rs c = refl

pub numbered_second : (q r : Question) (qs : List Question) → T (numbered r) → T (all numbered (q ∷ qs)) → T (all numbered (q ∷ r ∷ qs))
numbered_second q r qs t h = let (x, y) = (and_iff (numbered q) _).0 h in (and_iff (numbered q) _).1 (x, (and_iff (numbered r) _).1 (t, y))

pub clear_second : (q r : Question) (qs : List Question) → T (clear r) → T (all clear (q ∷ r ∷ qs)) ↔ T (all clear (q ∷ qs))
clear_second q r qs t = (
  (λ h. let (x, y) = (and_iff (clear q) _).0 h in (and_iff (clear q) _).1 (x, ((and_iff (clear r) _).0 y).1)),
  (λ h. let (x, y) = (and_iff (clear q) _).0 h in (and_iff (clear q) _).1 (x, (and_iff (clear r) _).1 (t, y))),
)

-- where a refusal has been met, what would be asked later does not matter
pub decide_front : (qs rs : List Question) (c : ℕ) → (decide qs c).number ≢ 0 → decide (qs ++ rs) c ≡ decide qs c
unfolding decide
decide_front [] rs c d = absurd (d refl)
decide_front ([] ∷ qs) rs c d = decide_front qs rs c d
decide_front ((r ∷ rs') ∷ qs) rs c d = refl

-- the same, where the count would have been another
pub decide_refused : (qs rs : List Question) (c d : ℕ) → (decide qs c).number ≢ 0 → decide (qs ++ rs) d ≡ decide qs c
unfolding decide
decide_refused [] rs c d f = absurd (f refl)
decide_refused ([] ∷ qs) rs c d f = decide_refused qs rs c d f
decide_refused ((r ∷ rs') ∷ qs) rs c d f = refl

-- a loop over the items of a question, from item 0 on: each item passes, or item a is the first to fail
module _ (n : ℕ) (test : ℕ → Bool) (refusal : ℕ → Answer) (qs : List Question) (c : ℕ) where
  pub decide_pass : ((i : ℕ) → i < n → T (test i)) → decide (ask_each n test refusal ∷ qs) c ≡ decide qs c
  unfolding decide ask_each
  decide_pass h =
      let e : for n (λ i. unless (test i) (refusal i)) ≡ [] = (for_nil n _).1 (λ i l. (unless_nil (test i) (refusal i)).1 (h i l)) in
      ap (λ q. decide (q ∷ qs) c) e

  pub decide_stop : (a : ℕ) → a < n → ((i : ℕ) → i < a → T (test i)) → (T (test a) → ⊥)
      → decide (ask_each n test refusal ∷ qs) c ≡ refusal a
  unfolding decide ask_each
  decide_stop a l h f =
      let g : ℕ → List Answer = λ i. unless (test i) (refusal i) in
      let r : ℕ = n - suc a in
      let e : n ≡ suc a + r = omega arith in
      let low : for a g ≡ [] = (for_nil a g).1 (λ i k. (unless_nil (test i) (refusal i)).1 (h i k)) in
      let here : g a ≡ refusal a ∷ [] = unless_one (test a) (refusal a) f in
      let all' : for n g ≡ refusal a ∷ for r (λ i. g (suc a + i)) =
      ap (λ x. for x g) e ∙ for_split (suc a) r g ∙ ap₂ (λ x y. (x ++ y) ++ for r (λ i. g (suc a + i))) low here in
      ap (λ q. decide (q ∷ qs) c) all'

-- the same from what a loop returns
module _ {n : ℕ} {test : ℕ → Bool} {r : ℕ} (f : FirstFault n test r) (refusal : ℕ → Answer) (qs : List Question) (c : ℕ) where
  pub fault_pass : n ≤ r → decide (ask_each n test refusal ∷ qs) c ≡ decide qs c
  fault_pass l = decide_pass n test refusal qs c (λ i h. f.before i (omega arith))

  pub fault_stop : r < n → decide (ask_each n test refusal ∷ qs) c ≡ refusal r
  fault_stop l = decide_stop n test refusal qs c r l f.before (f.here l)

-- a question about items is answered yes, or its first item that fails decides
pub decide_each : (n : ℕ) (test : ℕ → Bool) (refusal : ℕ → Answer) (qs : List Question) (c : ℕ)
    → (((i : ℕ) → i < n → T (test i)) × (decide (ask_each n test refusal ∷ qs) c ≡ decide qs c))
    ⊎ ((r : ℕ) × (r < n) × FirstFault n test r × (decide (ask_each n test refusal ∷ qs) c ≡ refusal r))
decide_each n test refusal qs c =
    let (r, f) = fault_of n test in
    by_cases (dec_lt r n)
    (λ l. inr (r, l, f, fault_stop f refusal qs c l))
    (λ l. inl ((λ i h. f.before i (omega arith)), fault_pass f refusal qs c (omega arith)))

-- where a test holds of every refusal of the first questions, they are all answered yes, or it holds of the answer
pub decide_past : (p : Answer → Bool) (qs rs : List Question) (c : ℕ) → T (all (all p) qs) → T (all clear qs) ⊎ T (p (decide (qs ++ rs) c))
unfolding decide
decide_past p [] rs c h = inl tt
decide_past p ([] ∷ qs) rs c h = decide_past p qs rs c h
decide_past p ((r ∷ rs') ∷ qs) rs c h = inr ((and_iff (p r) _).0 ((and_iff (all p (r ∷ rs')) _).0 h).0).0

-- an answer that none of the first questions gives comes from those behind them
pub decide_behind : (p : Answer → Bool) (qs rs : List Question) (c : ℕ) → T (all (all (λ r. not (p r))) qs) → T (p (decide (qs ++ rs) c))
    → T (all clear qs) × (decide (qs ++ rs) c ≡ decide rs c)
decide_behind p qs rs c h o =
    let yes : T (all clear qs) =
    ⊎_elim (λ yes. yes) (λ other. absurd ((not_iff (p (decide (qs ++ rs) c))).0 other o)) (decide_past (λ r. not (p r)) qs rs c h) in
    (yes, decide_after qs rs c yes)

-- an accepted call's slice, and a refused one's
module _ {A : Type 0} where
  pub lent_accepted : (r : Answer) (out s : List A) → r.number ≡ 0 → lent r out s ≡ filled out s
  unfolding lent
  lent_accepted r out s e = rw e

  pub lent_take : (r : Answer) (out s : List A) → r.number ≡ 0 → take (length out) (lent r out s) ≡ out
  lent_take r out s e = rw (lent_accepted r out s e) (take_filled out s)

-- the two sides of an answer
module _ {A : Type 0} where
  pub by_number_accepted : (q : ℕ) (x y : A) → q ≡ 0 → by_number q x y ≡ x
  by_number_accepted zero x y e = refl
  by_number_accepted (suc q) x y e = absurd (let f : ⊥ = omega arith in f)

  pub by_number_refused : (q : ℕ) (x y : A) → q ≢ 0 → by_number q x y ≡ y
  by_number_refused zero x y d = absurd (d refl)
  by_number_refused (suc q) x y d = refl

-- beside a refusal no clause count is seen
pub no_clauses_lem : (a : Answer) (count : ℕ) → a.number ≢ 0 → with_clauses a 0 ≡ with_clauses a count
unfolding with_clauses
no_clauses_lem a count d =
    ap (λ (q : ℕ). record { number = a.number; second = a.second; clauses = q })
    (by_number_refused a.number 0 0 d ∙ sym (by_number_refused a.number count 0 d))

pub lent_refused : {A : Type 0} (r : Answer) (out s : List A) → r.number ≢ 0 → lent r out s ≡ s
unfolding lent
lent_refused r out s d = by_number_refused r.number (filled out s) s d

-- nothing is left to ask
pub asked_all : accept 0 ≡ decide [] 0
unfolding decide
asked_all = refl

-- ---- question lists f 0, f 1, .. asked one after another
module _ (f : ℕ → List Question) (t : ℕ) (r : Answer) (er : r ≡ decide (f t) 0) (yes : T (all clear (for t f))) where
  pub step_stop : (n : ℕ) → t < n → r.number ≢ 0 → r ≡ decide (for n f) 0
  step_stop n l d =
      let rest : ℕ = n - suc t in
      let e : n ≡ suc t + rest = omega arith in
      let later : List Question = for rest (λ i. f (suc t + i)) in
      let before : decide (for t f ++ f t) 0 ≡ decide (f t) 0 = decide_after (for t f) (f t) 0 yes in
      let refused : (decide (for t f ++ f t) 0).number ≢ 0 = λ z. d (ap (λ (a : Answer). a.number) (er ∙ sym before) ∙ z) in
      er
      ∙ sym before
      ∙ sym (decide_front (for t f ++ f t) later 0 refused)
      ∙ sym (ap (λ (x : ℕ). decide (for x f) 0) e ∙ ap (λ (qs : List Question). decide qs 0) (for_split (suc t) rest f))

  pub step_more : T (all numbered (f t)) → r.number ≡ 0 → T (all clear (for (t + 1) f))
  step_more h e =
      rw (add-one t) ((all_append clear (for t f) (f t)).1 (yes, (decide_iff (f t) 0 h).0 (sym (ap (λ (a : Answer). a.number) er) ∙ e)))

-- the questions of every list are answered yes, or those of the first list that are not decide
pub decide_lists : (f : ℕ → List Question) → ((t : ℕ) → T (all numbered (f t))) → (n : ℕ) (qs : List Question) (c : ℕ)
    → T (all clear (for n f)) ⊎ ((t : ℕ) × (t < n) × T (all clear (for t f)) × (decide (for n f ++ qs) c ≡ decide (f t) 0))
decide_lists f h zero qs c = inl tt
decide_lists f h (suc n) qs c =
    ⊎_elim
    (λ clear-before.
    by_cases (ℕ_discrete (decide (f n) 0).number 0)
    (λ e. inl ((all_append clear (for n f) (f n)).1 (clear-before, (decide_iff (f n) 0 (h n)).0 e)))
    (λ d.
    let here : decide (for n f ++ f n) 0 ≡ decide (f n) 0 = decide_after (for n f) (f n) 0 clear-before in
    inr (n, omega arith, clear-before, decide_refused (for n f ++ f n) qs 0 c (λ e. d (ap (λ (a : Answer). a.number) (sym here) ∙ e)) ∙ here)))
    (λ (t, l, clear-before, e). inr (t, omega arith, clear-before, ap (λ (x : List Question). decide x c) (append_assoc (for n f) (f n) qs) ∙ e))
    (decide_lists f h n (f n ++ qs) c)

-- a refusal does not depend on the count
pub count_free : (qs : List Question) (c d : ℕ) → (decide qs c).number ≢ 0 → decide qs c ≡ decide qs d
unfolding decide
count_free [] c d h = absurd (h refl)
count_free ([] ∷ qs) c d h = count_free qs c d h
count_free ((r ∷ rs) ∷ qs) c d h = refl
