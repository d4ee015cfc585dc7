-- The tally. One call stops at 34 or counts the plan check's answer; a history from an empty record keeps its record sound, so that it
-- states what the answers state.
use mathlib.Core.Path.{◌≡◌, refl, sym, ◌∙◌, ap, subst}
use mathlib.Core.Logic.{◌↔◌, ◌≢◌, ◌⊎◌, inl, inr, ⊎_elim, by_cases}
use mathlib.Core.List.{List, [], ◌∷◌, ◌++◌, append-nil, append_assoc}
use Prim.Native.Nat.{ℕ, zero, suc, ◌+◌, ◌*◌, ◌≤◌, ◌<◌, min, max, suc-le-suc}
use native.Mathlib.Nat.{le_refl, not-suc-le-zero, le_of_suc-le-suc}
use native.Mathlib.Decide.{dec_lt, dec_le, ℕ_discrete}
use native.Mathlib.Omega.{arith}
use borrow.Author.Tests.{eq-eqb, ne_eqb}
use lib.ListN.{length, get_or, length-set}
use lib.Seq.{get_or-set_same, get_or-set_other}
use lib.Dec.{T}
use Rattle.lists.proofs.Tests.{either}
use Rattle.answers.specs.declared.Answer.{Answer}
use Rattle.answers.specs.Answers.{ask, ask_each, decide, accept}
use Rattle.answers.proofs.Laws.{by_number_accepted, by_number_refused}
use Rattle.tally.specs.declared.Tally.{Tally}
use Rattle.tally.specs.Tally.{empty, total, takes_more, with_pass, with_refusal, counted}
use Rattle.tally.specs.History.{joined, States}
use Rattle.tally.proofs.Laws.{takes_iff, total_pass, total_refusal}
use Rattle.tally.proofs.History.{states_empty, states_34, states_counted}
use Rattle.instance.specs.Instance.{goal_count, instance, adjacent}
use Rattle.instance.specs.Questions.{instance_questions}
use Rattle.plan.specs.Plan.{condition1, condition2, condition3, occupant_leaves, rests, rest_time, cost}
use Rattle.calls.specs.Questions.{occupied_number, second_number}
use Rattle.calls.specs.Calls.{plan_questions}
use Rattle.calls.specs.Tally.{tally_answer, tally_record, Call, answer_of, record_of, answers_of, after}
use Rattle.calls.proofs.Plan.{check_counts}
use Rattle.calls.proofs.Tally.{check_below, tally_stops, tally_asks, record_stays, record_pass, record_refusal, record_counts}
use Rattle.claims.specs.Tally.{Passed, Refused, OneCall, check_of, History, Extremes, Worked, Claim}

-- ---- one more
passed_of : (t : Tally) (cost : ℕ) → Passed t (with_pass t cost) cost
unfolding with_pass
passed_of t cost =
    record {
      passed = refl;
      refused = refl;
      sum = refl;
      first = λ e. rw (eq-eqb t.passed 0 e) (refl, refl);
      later = λ d. rw (ne_eqb t.passed 0 d) (refl, refl);
    }

refused_of : (t : Tally) (q : ℕ) → q < length t.refused → Refused t (with_refusal t q) q
unfolding with_refusal
refused_of t q l =
    record {
      counter = get_or-set_same t.refused q _ 0 l;
      others = λ r d. get_or-set_other t.refused q r _ 0 d;
      counters = length-set t.refused q _;
      passed = refl;
      sum = refl;
      least = refl;
      greatest = refl;
    }

-- ---- one call
module _ (b : List ℕ) (m rule : ℕ) (p : List ℕ) (t : Tally) where
  abbrev given : Answer
  given = tally_answer b m rule p t

  is_full : (given.number ≡ 34) ↔ (T (takes_more t) → ⊥)
  is_full = (
    (λ e more. omega (arith, sym (ap (λ (a : Answer). a.number) (tally_asks b m rule p t more)) ∙ e, check_below b m rule p)),
    (λ f. ap (λ (a : Answer). a.number) (tally_stops b m rule p t f)),
  )

  takes : given.number ≢ 34 → T (takes_more t)
  takes d = ⊎_elim (λ more. more) (λ f. absurd (d (is_full.1 f))) (either (takes_more t))

  one_call : length t.refused ≡ 36 → OneCall b m rule p t
  one_call counters =
      record {
        full = (
          (λ e.
              let f = is_full.0 e in
              by_cases (dec_lt (total t) 65535)
              (λ l. by_cases (dec_le t.sum (512 * t.passed)) (λ h. absurd (f ((takes_iff t).1 (l, h)))) (λ h. inr (omega arith)))
              (λ l. inl (omega arith))),
          (λ w. is_full.1 (λ more. let (l, h) = (takes_iff t).0 more in ⊎_elim (λ x. omega arith) (λ x. omega arith) w)),
        );
        place = λ e. ap (λ (a : Answer). a.second) (tally_stops b m rule p t (is_full.0 e));
        unchanged = λ e. record_stays b m rule p t (is_full.0 e);
        alike = λ d. tally_asks b m rule p t (takes d);
        passes = λ e.
            let more = takes (λ z. omega (arith, e, z)) in
            subst (λ (u : Tally). Passed t u given.second) (record_pass b m rule p t more given (tally_asks b m rule p t more) e) (passed_of t given.second);
        refuses = λ d f.
            let more = takes f in
            let same = tally_asks b m rule p t more in
            let l : given.number < 36 = omega (arith, ap (λ (a : Answer). a.number) same, check_below b m rule p) in
            subst (λ (u : Tally). Refused t u given.number) (record_refusal b m rule p t more given same d) (refused_of t given.number (rw counters l));
      }

-- ---- histories
-- what a record that a history brings is known to have
record Sound (t : Tally) : Type 0 where
  counters : length t.refused ≡ 36
  most : t.sum ≤ 512 * t.passed
  bound : total t ≤ 65535

total_empty : total empty ≡ 0
unfolding empty total
total_empty = refl

sound_empty : Sound empty
unfolding empty total
sound_empty = record { counters = refl; most = omega arith; bound = omega arith }

-- one call more: it counts one answer, or finds the record full
module _ (c : Call) (t : Tally) (s : Sound t) where
  abbrev check : Answer
  check = check_of c

  room : total t < 65535 → T (takes_more t)
  room l = (takes_iff t).1 (l, s.most)

  stop : 65535 ≤ total t → T (takes_more t) → ⊥
  stop l more = let (h, k) = (takes_iff t).0 more in omega arith

  abbrev Next : Tally → Type 0
  Next u = Sound u × (total u ≡ min (total t + 1) 65535)

  next_pass : total t < 65535 → check.second ≤ 512 → Next (with_pass t check.second)
  unfolding with_pass
  next_pass l h =
      let k = s.most in
      let e = total_pass t check.second in
      (record { counters = s.counters; most = omega arith; bound = omega (arith, e) }, omega (arith, e))

  next_refusal : total t < 65535 → Next (with_refusal t check.number)
  unfolding with_refusal
  next_refusal l =
      let e = total_refusal t check.number (let k = check_below c.b c.m c.rule c.p in omega arith) s.counters in
      (record { counters = length-set t.refused check.number _ ∙ s.counters; most = s.most; bound = omega (arith, e) }, omega (arith, e))

  -- what the plan check answers is counted
  next_counted : total t < 65535 → Next (counted t check)
  unfolding counted
  next_counted l =
      by_cases (ℕ_discrete check.number 0)
      (λ e. subst Next (sym (by_number_accepted check.number (with_pass t check.second) _ e)) (next_pass l (check_counts c.b c.m c.rule c.p e).most512))
      (λ d. subst Next (sym (by_number_refused check.number _ (with_refusal t check.number) d)) (next_refusal l))

  -- the call finds the record full, or counts
  full_or : ((65535 ≤ total t) × ((answer_of c t).number ≡ 34) × (record_of c t ≡ t))
      ⊎ ((total t < 65535) × (answer_of c t ≡ check) × (record_of c t ≡ counted t check))
  full_or =
      by_cases (dec_lt (total t) 65535)
      (λ l. let more = room l in inr (l, tally_asks c.b c.m c.rule c.p t more, record_counts c.b c.m c.rule c.p t more))
      (λ l.
      let h : 65535 ≤ total t = omega arith in
      let f = stop h in
      inl (h, ap (λ (a : Answer). a.number) (tally_stops c.b c.m c.rule c.p t f), record_stays c.b c.m c.rule c.p t f))

  next : Next (record_of c t)
  next =
      ⊎_elim
      (λ (h, e, same). subst Next (sym same) (s, let k = s.bound in omega arith))
      (λ (l, e, same). subst Next (sym same) (next_counted l))
      full_or

  states_next : (answers : List Answer) → States t answers → States (record_of c t) (answers ++ answer_of c t ∷ [])
  states_next answers w =
      ⊎_elim
      (λ (h, e, same). subst (λ (u : Tally). States u (answers ++ answer_of c t ∷ [])) (sym same) (states_34 t answers w (answer_of c t) e))
      (λ (l, e, same).
      subst (λ (u : Tally). States u (answers ++ answer_of c t ∷ [])) (sym same)
      (subst (λ (a : Answer). States (counted t check) (answers ++ a ∷ [])) (sym e) (states_counted t answers w check (check_below c.b c.m c.rule c.p))))
      full_or

-- any calls more
sound_after : (t : Tally) → Sound t → (calls : List Call) → Sound (after t calls)
sound_after t s [] = s
sound_after t s (c ∷ calls) = sound_after (record_of c t) (next c t s).0 calls

states_after : (t : Tally) → Sound t → (answers : List Answer) → States t answers → (calls : List Call) → States (after t calls) (answers ++ answers_of t calls)
states_after t s answers w [] = rw append-nil w
states_after t s answers w (c ∷ calls) =
    subst (States (after t (c ∷ calls))) (append_assoc answers (answer_of c t ∷ []) (answers_of (record_of c t) calls))
    (states_after (record_of c t) (next c t s).0 (answers ++ answer_of c t ∷ []) (states_next c t s answers w) calls)

answered : (t : Tally) (calls : List Call) → length (answers_of t calls) ≡ length calls
answered t [] = refl
answered t (c ∷ calls) = ap suc (answered (record_of c t) calls)

-- answer i is the plan check's while the record has room for it, and 34 from then on
answer_at : (t : Tally) → Sound t → (calls : List Call) (i : ℕ) (c : Call) → i < length calls
    → (total t + i < 65535 → get_or (answers_of t calls) i (accept 0) ≡ check_of (get_or calls i c))
    × (65535 ≤ total t + i → (get_or (answers_of t calls) i (accept 0)).number ≡ 34)
answer_at t s [] i d l = absurd (not-suc-le-zero l)
answer_at t s (c ∷ calls) zero d l =
    ⊎_elim
    (λ (h, e, same). ((λ x. absurd (let f : ⊥ = omega arith in f)), (λ x. e)))
    (λ (r, e, same). ((λ x. e), (λ x. absurd (let f : ⊥ = omega arith in f))))
    (full_or c t s)
answer_at t s (c ∷ calls) (suc i) d l =
    let (s', e) = next c t s in
    let (x, y) = answer_at (record_of c t) s' calls i d (le_of_suc-le-suc l) in
    ((λ h. x (omega (arith, e))), (λ h. y (omega (arith, e))))

history : (calls : List Call) → History calls
history calls =
    let s = sound_after empty sound_empty calls in
    let w = states_after empty sound_empty [] states_empty calls in
    record {
      answered = answered empty calls;
      states = w;
      most = s.most;
      next = λ c. (
        (λ e. ⊎_elim (λ (l, n, same). let b = s.bound in sym w.once ∙ omega arith) (λ (l, n, same). absurd (below c (sym (ap (λ (a : Answer). a.number) n) ∙ e))) (full_or c (after empty calls) s)),
        (λ e. ⊎_elim (λ (l, n, same). n) (λ (l, n, same). absurd (let f : ⊥ = omega (arith, w.once, e) in f)) (full_or c (after empty calls) s)),
      );
      checked = λ i c l h. (answer_at empty sound_empty calls i c l).0 (omega (arith, total_empty));
      later = λ i l h. (answer_at empty sound_empty calls i none_given l).1 (omega (arith, total_empty));
    }
  where
    below : (c : Call) → (check_of c).number ≡ 34 → ⊥
    below c e = omega (arith, e, check_below c.b c.m c.rule c.p)

    none_given : Call
    none_given = record { b = []; m = 0; rule = 0; p = [] }

-- ---- the least and the greatest of a list
module _ (op : ℕ → ℕ → ℕ) where
  -- what is joined from a list is one of its elements, where each join is one of the two
  joined_one : ((x y : ℕ) → (op x y ≡ x) ⊎ (op x y ≡ y)) → (x : ℕ) (l : List ℕ) → (i : ℕ) × (i < suc (length l)) × (get_or (x ∷ l) i 0 ≡ joined op x l)
  joined_one h x [] = (0, omega arith, refl)
  joined_one h x (y ∷ l) = go (joined_one h (op x y) l)
    where
      go : (i : ℕ) × (i < suc (length l)) × (get_or (op x y ∷ l) i 0 ≡ joined op (op x y) l) → (i : ℕ) × (i < suc (suc (length l))) × (get_or (x ∷ y ∷ l) i 0 ≡ joined op (op x y) l)
      go (zero, r, e) = ⊎_elim (λ z. (0, omega arith, sym z ∙ e)) (λ z. (1, omega arith, sym z ∙ e)) (h x y)
      go (suc i, r, e) = (suc (suc i), suc-le-suc r, e)

  -- and stands in the relation to each of them, where a join stands in it to both
  module _ (R : ℕ → ℕ → Type 0) (same : (x : ℕ) → R x x) (both : (z x y : ℕ) → R z (op x y) → R z x × R z y) where
    joined_all : (x : ℕ) (l : List ℕ) → R (joined op x l) x × ((i : ℕ) → i < length l → R (joined op x l) (get_or l i 0))
    joined_all x [] = (same x, λ i r. absurd (not-suc-le-zero r))
    joined_all x (y ∷ l) =
        let (h, k) = joined_all (op x y) l in
        let (a, b) = both _ x y h in
        (a, below_first b k)
      where
        below_first : R (joined op (op x y) l) y → ((i : ℕ) → i < length l → R (joined op (op x y) l) (get_or l i 0))
            → (i : ℕ) → i < suc (length l) → R (joined op (op x y) l) (get_or (y ∷ l) i 0)
        below_first b k zero r = b
        below_first b k (suc i) r = k i (le_of_suc-le-suc r)

    joined_each : (x : ℕ) (l : List ℕ) (i : ℕ) → i < suc (length l) → R (joined op x l) (get_or (x ∷ l) i 0)
    joined_each x l zero r = (joined_all x l).0
    joined_each x l (suc i) r = (joined_all x l).1 i (le_of_suc-le-suc r)

extremes : (x : ℕ) (costs : List ℕ) → Extremes (x ∷ costs)
extremes x costs =
    record {
      least = joined_one min (λ a b. by_cases (dec_le a b) (λ h. inl (omega arith)) (λ h. inr (omega arith))) x costs;
      none_less = joined_each min (λ a b. a ≤ b) le_refl (λ z a b h. (omega arith, omega arith)) x costs;
      greatest = joined_one max (λ a b. by_cases (dec_le a b) (λ h. inr (omega arith)) (λ h. inl (omega arith))) x costs;
      none_greater = joined_each max (λ a b. b ≤ a) le_refl (λ z a b h. (omega arith, omega arith)) x costs;
    }

worked : Worked
unfolding ask ask_each decide instance_questions plan_questions goal_count instance adjacent condition1 condition2 condition3 occupant_leaves occupied_number second_number rests rest_time cost empty total takes_more with_pass with_refusal counted tally_answer tally_record
worked =
    record {
      answers = refl;
      tally = refl;
      first = refl;
      second = refl;
      third = refl;
      passed_full = refl;
      counter_full = (refl, refl);
      both_full = refl;
      almost_full = refl;
      dearest = refl;
      too_dear = refl;
      unchanged = refl;
    }

pub tally_claim : Claim
tally_claim =
    record {
      call = one_call;
      history = history;
      extremes = extremes;
      none = (refl, refl);
      worked = worked;
    }
