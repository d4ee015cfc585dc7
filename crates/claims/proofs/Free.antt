-- Free agents: what the questions, the families and the counts make of them.
use mathlib.Core.Path.{◌≡◌, refl, sym, ◌∙◌, ap}
use mathlib.Core.Logic.{inl, inr}
use mathlib.Core.List.{List, [], ◌∷◌}
use mathlib.Core.Bool.{Bool, true, false, not}
use Prim.Native.Nat.{ℕ, ◌+◌, ◌<◌}
use native.Mathlib.Nat.{mul-one}
use native.Mathlib.Omega.{arith}
use lib.ListN.{length, get_or, length-append}
use lib.Seq.{get_or-append-add}
use borrow.Author.Tests.{eq-eqb}
use Rattle.lists.specs.Loop.{for, each, sum}
use Rattle.lists.proofs.Tests.{or_iff, or_imp, eqb_iff}
use Rattle.lists.proofs.Loops.{for_ext, for_split, for_nil, each_for, each_when}
use Rattle.lists.proofs.Sums.{ind, sum_ext, sum_add, sum_const, when_count, for_at}
use Rattle.answers.specs.declared.Answer.{Answer}
use Rattle.answers.specs.Answers.{accept}
use Rattle.instance.specs.Instance.{Instance, no_goal, free, HasGoal, with_goal, goal_count, AllBound, AllFree, instance, agents, goal_of}
use Rattle.instance.specs.Questions.{instance_answer}
use Rattle.instance.proofs.Goals.{goal_count_lem, goal_count_all, goal_count_below}
use Rattle.instance.proofs.Instance.{instance_iff, goals_new, goals_counted}
use Rattle.distances.specs.Distance.{start_to_goal, floor}
use Rattle.distances.proofs.Within.{floor_most}
use Rattle.distances.proofs.Goals.{to_goal_free}
use Rattle.formula.specs.Variables.{X}
use Rattle.formula.specs.Formula.{Clause, B, clauses}
use Rattle.formula.specs.Counts.{clause_count, word_count}
use Rattle.formula.proofs.Blocks.{stored, clauses_stored}
use Rattle.formula.proofs.Counts.{count_A, count_B}
use Rattle.formula.proofs.Places.{goal_block_lem, goal_get_or}
use Rattle.plan.specs.Plan.{plan_row}
use Rattle.calls.specs.Calls.{check_answer, encode_answer, floor_answer}
use Rattle.calls.proofs.Floor.{floor_accepts}
use Rattle.calls.proofs.Goals.{OffAt, off_check, off_encode}
use Rattle.claims.specs.Free.{free_agents, InFormula, OffGoal, Bound, Idle, Claim}
use Rattle.claims.proofs.Distances.{bytes_ok}

-- one of the two holds of each agent
either : (b : Bool) → ind (not b) + ind b ≡ 1
either true = refl
either false = refl

module _ (b : List ℕ) (m rule : ℕ) where
  abbrev I : Instance
  I = instance b m rule

  open I use {sizes, goal}
  open sizes use {k, g}

  abbrev by : ℕ → List Clause
  by = stored I

  others : g + length (free_agents b) ≡ k
  unfolding instance
  others =
      let x = goal_count_lem (goal_of b) (agents b) in
      let y = when_count (agents b) (λ a. free (goal_of b a)) (λ a. a) in
      let z : sum (agents b) (λ a. ind (not (free (goal_of b a))) + ind (free (goal_of b a))) ≡ agents b =
      sum_ext (agents b) _ (λ a. 1) (λ a l. either (free (goal_of b a))) ∙ sum_const (agents b) 1 ∙ mul-one (agents b) in
      omega (arith, x, y, z, sum_add (agents b) (λ a. ind (not (free (goal_of b a)))) (λ a. ind (free (goal_of b a))))

  goals : B sizes goal ≡ each (λ a. (X sizes m a (goal a) ∷ []) ∷ []) (with_goal k goal)
  unfolding B instance
  goals = sym (simp (each_for, each_when) refl)

  in_B : (a : ℕ) → a < k → HasGoal (goal a) → get_or (clauses I) (k + goal_count a goal) [] ≡ X sizes m a (goal a) ∷ []
  unfolding instance
  in_B a l h =
      let e : k + goal_count a goal ≡ sum 1 (λ u. length (by u)) + goal_count a goal = omega (arith, count_A I) in
      let r : goal_count a goal < length (by 1) = omega (arith, count_B I (goals_counted b m rule), goals_counted b m rule, goal_count_below goal k a l h) in
      ap (λ (x : ℕ). get_or (clauses I) x []) e
      ∙ ap (λ (L : List Clause). get_or L (sum 1 (λ u. length (by u)) + goal_count a goal) []) (clauses_stored I)
      ∙ for_at 7 by [] 1 (goal_count a goal) (omega arith) r
      ∙ goal_get_or sizes goal a l h

  behind_B : (i : ℕ) → get_or (clauses I) (k + g + i) [] ≡ get_or (for 5 (λ j. by (2 + j))) i []
  behind_B i =
      let e : k + g + i ≡ length (for 2 by) + i = omega (arith, length-append (by 0) (by 1), count_A I, count_B I (goals_counted b m rule)) in
      ap (λ (x : ℕ). get_or (clauses I) x []) e
      ∙ ap (λ (L : List Clause). get_or L (length (for 2 by) + i) []) (clauses_stored I ∙ for_split 2 5 by)
      ∙ get_or-append-add (for 2 by) (for 5 (λ j. by (2 + j))) i []

  in_formula : InFormula b m rule
  unfolding clause_count word_count instance
  in_formula =
      record {
        goals = goals;
        in_b = in_B;
        behind_b = behind_B;
        others = others;
        fewer_clauses = omega (arith, others);
        fewer_words = omega (arith, others);
      }

  off : (p : List ℕ) (answer : Answer) → OffAt I p answer → OffGoal b m rule p answer.second
  unfolding instance
  off p answer (a, l, f, e) =
      record {
        a = a;
        agent = l;
        has = λ z. f.here l ((or_iff (free (goal a)) _).1 (inl ((eqb_iff (goal a) no_goal).1 z)));
        off = λ z. f.here l ((or_iff (free (goal a)) _).1 (inr ((eqb_iff (plan_row sizes p m a) (goal a)).1 z)));
        lower = λ c o h. (eqb_iff (plan_row sizes p m c) (goal c)).0 ((or_imp (free (goal c)) _).0 (f.before c o) (λ t. h ((eqb_iff (goal c) no_goal).0 t)));
        at = e;
      }

  -- where every agent has a goal
  bound : AllBound I → Bound b m rule
  unfolding B instance
  bound h =
      let e : B sizes goal ≡ for k (λ a. (X sizes m a (goal a) ∷ []) ∷ []) = for_ext k _ _ (λ a l. goal_block_lem sizes goal a (h a l)) in
      record {
        all = goal_count_all (goal_of b) (agents b) h;
        whole_b = e;
      }

  module _ (none : AllFree I) where
    -- what is measured to no goal is 0
    nothing : (a : ℕ) → a < agents b → start_to_goal (instance b 0 1) a ≡ 0
    unfolding instance
    nothing a l = to_goal_free (goal_of b a) _ ((eqb_iff (goal_of b a) no_goal).1 (none a l))

    floor_none : (instance_answer b 0 1).number ≡ 0 → floor_answer b ≡ accept 0
    unfolding instance
    floor_none e =
        let zero : floor (instance b 0 1) ≡ 0 = omega (arith, floor_most (instance b 0 1) 0 (λ a l. omega (arith, nothing a l))) in
        floor_accepts b (bytes_ok b 0 1 ((instance_iff b 0 1).0 e)) (λ a l. rw (nothing a l) tt) ∙ ap accept zero

    idle : Idle b m rule
    unfolding B instance
    idle =
        record {
          empty_b = (for_nil k _).1 (λ a l. rw (eq-eqb (goal a) no_goal (none a l)));
          checked = λ p e. let o = off p (check_answer b m rule p) (off_check b m rule p e) in o.has (none o.a o.agent);
          encoded = λ p room e. let o = off p (encode_answer b m rule p room) (off_encode b m rule p room e) in o.has (none o.a o.agent);
          floor = floor_none;
        }

pub free_claim : Claim
free_claim =
    record {
      nine = goals_new;
      formula = in_formula;
      check = λ b m rule p e. off b m rule p (check_answer b m rule p) (off_check b m rule p e);
      encode = λ b m rule p room e. off b m rule p (encode_answer b m rule p room) (off_encode b m rule p room e);
      all_bound = bound;
      all_free = idle;
    }
