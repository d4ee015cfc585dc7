-- Question 20 has three numbers. Where the questions of a step answer one of them, it is that of the lowest agent that fails condition 2;
-- and where condition 1 holds for all agents and some agent fails condition 2, one of them is answered.
use mathlib.Core.Path.{◌≡◌, sym, ◌∙◌, subst}
use mathlib.Core.Logic.{◌≢◌, ⊎_elim}
use mathlib.Core.List.{List, [], ◌∷◌, ◌++◌}
use mathlib.Core.Bool.{Bool, true, false, not, ◌||◌, cond}
use Prim.Native.Nat.{ℕ, suc, ◌<◌}
use borrow.Author.Tests.{eq-eqb, ne_eqb}
use lib.Dec.{T, ltb, eqb}
use Rattle.lists.specs.Loop.{all}
use Rattle.lists.proofs.Tests.{and_iff}
use Rattle.answers.specs.declared.Answer.{Answer}
use Rattle.answers.specs.Answers.{Question, refuse, decide, clear}
use Rattle.answers.specs.Fault.{FirstFault}
use Rattle.answers.proofs.Laws.{each_all, decide_each, decide_behind, decide_count}
use Rattle.instance.specs.declared.Sizes.{Sizes}
use Rattle.instance.specs.Instance.{Instance, following, adjacent}
use Rattle.plan.specs.Plan.{Row, plan_row, plan_index, condition1, condition2, Leaving, stays, exchanges, moves_on, occupant_leaves}
use Rattle.calls.specs.Questions.{occupied_number, second_number, question20, question21}
use Rattle.calls.specs.Calls.{step_questions}

-- a number of question 20
abbrev pub occupied? : ℕ → Bool
occupied? number = eqb number 20 || (eqb number 25 || eqb number 26)

abbrev pub Occupied : Answer → Type 0
Occupied answer = T (occupied? answer.number)

-- every refusal of these questions has another number
abbrev pub Others : List Question → Type 0
Others qs = T (all (all (λ r. not (occupied? r.number))) qs)

-- so one of question 20's numbers comes from the questions behind them
pub past : (qs rs : List Question) (c : ℕ) → Others qs → Occupied (decide (qs ++ rs) c)
    → T (all clear qs) × (decide (qs ++ rs) c ≡ decide rs c)
past qs rs c h o = decide_behind (λ r. occupied? r.number) qs rs c h o

-- a test that holds of 20, 25 and 26 holds of every number that question 20 answers
number_is : (test : ℕ → Bool) → T (test 20) → T (test 25) → T (test 26) → (f : Bool) (w : Leaving) → T (test (cond f 25 (occupied_number w)))
unfolding occupied_number
number_is test x y z true w = y
number_is test x y z false stays = x
number_is test x y z false exchanges = y
number_is test x y z false moves_on = z

pub all_occupied : (test : ℕ → Bool) → T (all test (20 ∷ 25 ∷ 26 ∷ [])) → (s : Sizes) (here next : Row) (a : ℕ) → T (test (second_number s here next a))
unfolding second_number
all_occupied test h s here next a =
    let w = simp and_iff at h in number_is test w.0 w.1.0 w.1.1.0 (following s) (occupant_leaves s here next a)

module _ (s : Sizes) (here next : Row) (a : ℕ) where
  pub number_occupied : T (occupied? (second_number s here next a))
  number_occupied = all_occupied occupied? tt s here next a

  -- none of them is 22, and none 0
  pub number_other : T (not (eqb (second_number s here next a) 22))
  number_other = all_occupied (λ x. not (eqb x 22)) tt s here next a

  pub numbered_occupied : T (ltb 0 (second_number s here next a))
  numbered_occupied = all_occupied (ltb 0) tt s here next a

  -- under rule 1 they say what the occupant does, under rule 2 there is 25 alone
  pub number_leaves : s.rule ≢ 2 → second_number s here next a ≡ occupied_number (occupant_leaves s here next a)
  unfolding second_number
  number_leaves one = rw (ne_eqb s.rule 2 one)

  pub number_exchange : s.rule ≡ 2 → second_number s here next a ≡ 25
  unfolding second_number
  number_exchange two = rw (eq-eqb s.rule 2 two)

module _ (I : Instance) (p : List ℕ) where
  open I use {sizes}
  open sizes use {k}

  abbrev P : ℕ → Row
  P = plan_row sizes p

  pub gives_step : (t : ℕ) → ((c : ℕ) → c < k → T (condition1 (adjacent I) (P t) (P (suc t)) c))
      → (a : ℕ) → a < k → (T (condition2 sizes (P t) (P (suc t)) a) → ⊥) → Occupied (decide (step_questions I p t) 0)
  gives_step t crosses a r fails =
      ⊎_elim
      (λ w.
      ⊎_elim
      (λ u. absurd (fails (u.0 a r)))
      (λ u. subst Occupied (sym (w.1 ∙ u.3)) (all_occupied occupied? tt _ _ _ _))
      (decide_each k (condition2 sizes (P t) (P (suc t))) _ (question21 I p t ∷ []) 0))
      (λ w. absurd (w.2.here w.1 (crosses w.0 w.1)))
      (decide_each k (condition1 (adjacent I) (P t) (P (suc t))) _ (question20 I p t ∷ question21 I p t ∷ []) 0)

  -- what the questions of step t say there
  pub record InStep (t : ℕ) (answer : Answer) : Type 0 where
    pub a : ℕ
    pub agent : a < k
    -- condition 1 holds for all agents of the step, and a is the lowest that fails condition 2
    pub crosses : (c : ℕ) → c < k → T (condition1 (adjacent I) (P t) (P (suc t)) c)
    pub lowest : FirstFault k (condition2 sizes (P t) (P (suc t))) a
    pub given : answer ≡ refuse (second_number sizes (P t) (P (suc t)) a) (plan_index sizes (suc t) a)

  pub in_step : (t : ℕ) → Occupied (decide (step_questions I p t) 0) → InStep t (decide (step_questions I p t) 0)
  in_step t o =
      ⊎_elim
      (λ w.
      ⊎_elim
      (λ u.
      let after = past (question21 I p t ∷ []) [] 0 (simp (and_iff, each_all) ((λ a l f. tt), tt)) (subst Occupied (w.1 ∙ u.1) o) in
      absurd (subst Occupied (w.1 ∙ u.1 ∙ after.1 ∙ decide_count [] 0 tt) o))
      (λ u. record { a = u.0; agent = u.1; crosses = w.0; lowest = u.2; given = w.1 ∙ u.3 })
      (decide_each k (condition2 sizes (P t) (P (suc t))) _ (question21 I p t ∷ []) 0))
      (λ w. absurd (subst Occupied w.3 o))
      (decide_each k (condition1 (adjacent I) (P t) (P (suc t))) _ (question20 I p t ∷ question21 I p t ∷ []) 0)
