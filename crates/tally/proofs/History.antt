-- A record that states what a history states does so with one answer more, where that is counted, and with a 34, where it stays.
use mathlib.Core.Path.{◌≡◌, refl, sym, ◌∙◌, ap, ap₂, subst}
use mathlib.Core.Logic.{◌≢◌, by_cases}
use mathlib.Core.List.{List, [], ◌∷◌, ◌++◌, append-nil}
use mathlib.Core.Bool.{Bool, true, false, not, cond}
use Prim.Native.Nat.{ℕ, suc, ◌+◌, ◌<◌, min, max}
use native.Mathlib.Nat.{add-zero}
use native.Mathlib.Decide.{dec_lt, ℕ_discrete}
use native.Mathlib.Omega.{arith}
use borrow.Author.Tests.{eq-eqb, ne_eqb}
use lib.ListN.{length, get_or, replicate, length-append, length-set, get_or-replicate, get_or-eq_default}
use lib.Dec.{eqb}
use Rattle.lists.specs.Loop.{each, when}
use Rattle.lists.proofs.Loops.{each_append}
use Rattle.lists.proofs.Sums.{ind}
use Rattle.answers.specs.declared.Answer.{Answer}
use Rattle.answers.proofs.Laws.{by_number_accepted, by_number_refused}
use Rattle.tally.specs.declared.Tally.{Tally}
use Rattle.tally.specs.Tally.{empty, total, counted, with_pass, with_refusal}
use Rattle.tally.specs.History.{with_number, but34, costs, sum_of, joined, least_of, greatest_of, States}
use Rattle.tally.proofs.Laws.{one_more, total_pass, total_refusal}

-- ---- one element more behind a list
module _ {B : Type 0} (p : Answer → Bool) (f : Answer → B) (answers : List Answer) (a : Answer) where
  abbrev chosen : List Answer → List B
  chosen l = each (λ x. when (p x) (f x ∷ [])) l

  chosen_more : chosen (answers ++ a ∷ []) ≡ chosen answers ++ when (p a) (f a ∷ [])
  chosen_more = each_append (λ x. when (p x) (f x ∷ [])) answers (a ∷ []) ∙ ap (λ (l : List B). chosen answers ++ l) (append-nil _)

  chosen_count : length (chosen (answers ++ a ∷ [])) ≡ length (chosen answers) + ind (p a)
  chosen_count = ap length chosen_more ∙ length-append (chosen answers) _ ∙ ap (λ (n : ℕ). length (chosen answers) + n) (one (p a))
    where
      one : (b : Bool) → length (when b (f a ∷ [])) ≡ ind b
      one true = refl
      one false = refl

sum_more : (l : List ℕ) (x : ℕ) → sum_of (l ++ x ∷ []) ≡ sum_of l + x
sum_more [] x = omega arith
sum_more (y ∷ l) x = omega (arith, sum_more l x)

joined_more : (op : ℕ → ℕ → ℕ) (x : ℕ) (l : List ℕ) (y : ℕ) → joined op x (l ++ y ∷ []) ≡ op (joined op x l) y
joined_more op x [] y = refl
joined_more op x (z ∷ l) y = joined_more op (op x z) l y

least_more : (l : List ℕ) (x : ℕ) → least_of (l ++ x ∷ []) ≡ cond (eqb (length l) 0) x (min (least_of l) x)
least_more [] x = refl
least_more (y ∷ l) x = rw (ne_eqb (suc (length l)) 0 (λ e. omega (arith, e))) (joined_more min y l x)

greatest_more : (l : List ℕ) (x : ℕ) → greatest_of (l ++ x ∷ []) ≡ cond (eqb (length l) 0) x (max (greatest_of l) x)
greatest_more [] x = refl
greatest_more (y ∷ l) x = rw (ne_eqb (suc (length l)) 0 (λ e. omega (arith, e))) (joined_more max y l x)

-- as many costs as plans that passed
costs_count : (answers : List Answer) → length (costs answers) ≡ length (with_number 0 answers)
costs_count [] = refl
costs_count (a ∷ answers) = length-append (when (eqb a.number 0) (a.second ∷ [])) _ ∙ ap₂ ◌+◌ (go (eqb a.number 0)) (costs_count answers) ∙ sym (length-append (when (eqb a.number 0) (a ∷ [])) _)
  where
    go : (b : Bool) → length (when b (a.second ∷ [])) ≡ length (when b (a ∷ []))
    go true = refl
    go false = refl

-- ---- what a record states
abbrev zeros : List ℕ
zeros = replicate 36 0

all_zero : (q : ℕ) → get_or zeros q 0 ≡ 0
all_zero q = by_cases (dec_lt q 36) (λ l. get_or-replicate 36 q 0 0 l) (λ l. get_or-eq_default zeros 0 {n = q} (omega arith))

pub states_empty : States empty []
unfolding empty total
states_empty =
    record {
      counters = refl;
      passed = refl;
      refused = λ q d f. all_zero q;
      none = (refl, refl);
      sum = refl;
      least = refl;
      greatest = refl;
      once = refl;
    }

module _ (t : Tally) (answers : List Answer) (s : States t answers) (a : Answer) where
  abbrev more : List Answer
  more = answers ++ a ∷ []

  -- how many have a number, and the costs, with a behind them
  count_more : (q : ℕ) → length (with_number q more) ≡ length (with_number q answers) + ind (eqb a.number q)
  count_more q = chosen_count (λ x. eqb x.number q) (λ x. x) answers a

  but_more : length (but34 more) ≡ length (but34 answers) + ind (not (eqb a.number 34))
  but_more = chosen_count (λ x. not (eqb x.number 34)) (λ x. x) answers a

  costs_more : costs more ≡ costs answers ++ when (eqb a.number 0) (a.second ∷ [])
  costs_more = chosen_more (λ x. eqb x.number 0) (λ x. x.second) answers a

  costs_same : a.number ≢ 0 → costs more ≡ costs answers
  costs_same d = rw (costs_more, ne_eqb a.number 0 d, append-nil)

  pub states_34 : a.number ≡ 34 → States t more
  states_34 e =
      let same = costs_same (λ z. omega (arith, e, z)) in
      record {
        counters = s.counters;
        passed = s.passed ∙ sym (rw (count_more 0, ne_eqb a.number 0 (λ z. omega (arith, e, z)), add-zero));
        refused = λ q d f. s.refused q d f ∙ sym (rw (count_more q, ne_eqb a.number q (λ z. f (sym z ∙ e)), add-zero));
        none = s.none;
        sum = s.sum ∙ ap sum_of (sym same);
        least = s.least ∙ ap least_of (sym same);
        greatest = s.greatest ∙ ap greatest_of (sym same);
        once = s.once ∙ sym (rw (but_more, eq-eqb a.number 34 e, add-zero));
      }

  states_pass : a.number ≡ 0 → States (with_pass t a.second) more
  unfolding with_pass
  states_pass e =
      let added : costs more ≡ costs answers ++ a.second ∷ [] = rw (costs_more, eq-eqb a.number 0 e) in
      let none_yet : eqb t.passed 0 ≡ eqb (length (costs answers)) 0 = ap (λ (x : ℕ). eqb x 0) (s.passed ∙ sym (costs_count answers)) in
      record {
        counters = s.counters;
        passed = ap (λ (x : ℕ). x + 1) s.passed ∙ sym (rw (count_more 0, eq-eqb a.number 0 e));
        refused = λ q d f. s.refused q d f ∙ sym (rw (count_more q, ne_eqb a.number q (λ z. d (sym z ∙ e)), add-zero));
        none = s.none;
        sum = ap (λ (x : ℕ). x + a.second) s.sum ∙ sym (ap sum_of added ∙ sum_more (costs answers) a.second);
        least =
            ap₂ (λ (x : Bool) (y : ℕ). cond x a.second (min y a.second)) none_yet s.least
            ∙ sym (ap least_of added ∙ least_more (costs answers) a.second);
        greatest =
            ap₂ (λ (x : Bool) (y : ℕ). cond x a.second (max y a.second)) none_yet s.greatest
            ∙ sym (ap greatest_of added ∙ greatest_more (costs answers) a.second);
        once = total_pass t a.second ∙ ap (λ (x : ℕ). x + 1) s.once ∙ sym (rw (but_more, ne_eqb a.number 34 (λ z. omega (arith, e, z))));
      }

  states_refusal : a.number ≢ 0 → a.number < 34 → States (with_refusal t a.number) more
  unfolding with_refusal
  states_refusal d l =
      let inside : a.number < length t.refused = rw s.counters (omega arith) in
      let other : a.number ≢ 34 = λ z. omega (arith, l, z) in
      let same = costs_same d in
      record {
        counters = length-set t.refused a.number _ ∙ s.counters;
        passed = s.passed ∙ sym (rw (count_more 0, ne_eqb a.number 0 d, add-zero));
        refused = λ q x y. one_more t.refused a.number q inside ∙ ap (λ (n : ℕ). n + ind (eqb a.number q)) (s.refused q x y) ∙ sym (count_more q);
        none = (
          one_more t.refused a.number 0 inside ∙ rw (ne_eqb a.number 0 d, add-zero) s.none.0,
          one_more t.refused a.number 34 inside ∙ rw (ne_eqb a.number 34 other, add-zero) s.none.1,
        );
        sum = s.sum ∙ ap sum_of (sym same);
        least = s.least ∙ ap least_of (sym same);
        greatest = s.greatest ∙ ap greatest_of (sym same);
        once =
            total_refusal t a.number (omega arith) s.counters
            ∙ ap (λ (x : ℕ). x + 1) s.once
            ∙ sym (rw (but_more, ne_eqb a.number 34 other));
      }

  pub states_counted : a.number < 34 → States (counted t a) more
  unfolding counted
  states_counted l =
      by_cases (ℕ_discrete a.number 0)
      (λ e. subst (λ (u : Tally). States u more) (sym (by_number_accepted a.number (with_pass t a.second) _ e)) (states_pass e))
      (λ d. subst (λ (u : Tally). States u more) (sym (by_number_refused a.number _ (with_refusal t a.number) d)) (states_refusal d l))
