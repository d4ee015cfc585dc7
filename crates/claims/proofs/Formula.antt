-- The formula's counts and the plan check, gathered.
use mathlib.Core.Path.{◌≡◌, sym, ◌∙◌, ap}
use mathlib.Core.List.{List, [], ◌∷◌, ◌++◌}
use Prim.Native.Nat.{ℕ, suc, ◌*◌, ◌-◌, ◌/◌, ◌≤◌}
use native.Mathlib.Nat.{mul_comm, mul-div_cancel_left}
use native.Mathlib.Numerals.{add-one}
use native.Mathlib.Omega.{arith}
use lib.ListN.{length, get_or, length-append}
use lib.Dec.{T}
use Rattle.lists.specs.Loop.{all}
use Rattle.lists.proofs.Tests.{and_iff, ltb_iff}
use Rattle.lists.proofs.Loops.{all_append}
use Rattle.answers.specs.declared.Answer.{Answer}
use Rattle.answers.specs.Answers.{Question, clear, decide}
use Rattle.answers.proofs.Laws.{numbered, clear_iff, decide_iff, decide_count, ask_nil}
use Rattle.instance.specs.Instance.{Instance, instance, agents}
use Rattle.formula.specs.Formula.{clauses, formula}
use Rattle.formula.proofs.Counts.{count_A, count_B, count_C, count_D, count_E, count_F, count_G, words_A, words_B, words_C, words_D, words_E, words_F, words_G, clause_count_lem, word_count_lem, largest}
use Rattle.formula.proofs.Limits.{words_most, clause_most}
use Rattle.plan.specs.Plan.{makespan}
use Rattle.plan.specs.Passing.{Passes}
use Rattle.instance.specs.Questions.{instance_questions}
use Rattle.calls.specs.Calls.{clause_questions, clause_answer, check_answer, decode_questions, decode_answer, encode_questions, encode_answer, read_questions, read_answer}
use Rattle.instance.proofs.Instance.{instance_iff, goals_counted, edges_known, limits}
use Rattle.calls.proofs.Plan.{check_counts, check_iff}
use Rattle.claims.proofs.Refusals.{numbered_clause, numbered_decode, numbered_encode, numbered_read}
use Rattle.claims.proofs.Size.{size_claim}
use Rattle.claims.specs.Formula.{Counts, Claim}

-- an acceptance holds its count
pub counted : (qs : List Question) (c : ℕ) → T (all numbered qs) → (decide qs c).number ≡ 0 → (decide qs c).second ≡ c
counted qs c ok e = ap (λ (a : Answer). a.second) (decide_count qs c ((decide_iff qs c ok).0 e))

-- a question behind those of the instance is answered yes
next_clear : (b : List ℕ) (m rule : ℕ) (q : Question) (qs : List Question) → T (all clear (instance_questions b m rule ++ q ∷ qs)) → q ≡ []
next_clear b m rule q qs t = (clear_iff q).0 ((and_iff (clear q) _).0 ((all_append clear (instance_questions b m rule) (q ∷ qs)).0 t).1).0

module _ (b : List ℕ) (m rule : ℕ) (ok : T (all clear (instance_questions b m rule))) where
  abbrev I : Instance
  I = instance b m rule

  pub plan_steps : (p : List ℕ) → Passes I p → makespan I.sizes.k p ≡ m
  unfolding instance
  plan_steps p w =
      let k : ℕ = agents b in
      let l : 1 ≤ k = (limits b m rule ok).k_least in
      let e : length p / k ≡ suc m = ap (λ (x : ℕ). x / k) (w.size ∙ mul_comm (suc m) k) ∙ mul-div_cancel_left (suc m) l in
      let d : suc m - 1 ≡ m = omega arith in
      ap (λ (x : ℕ). x - 1) e ∙ d

  counts : Counts b m rule
  unfolding instance clause_answer check_answer decode_answer encode_answer read_answer
  counts =
      record {
        size = λ e. let c = size_claim.size formula b m rule in (c.words_counted e ∙ word_count_lem I (edges_known b m rule ok) (goals_counted b m rule), c.clauses_counted e ∙ clause_count_lem I (goals_counted b m rule));
        clause = λ c room e.
            let t = (decide_iff (clause_questions b m rule c room) _ (numbered_clause b m rule c room)).0 e in
            let l = (ltb_iff c (length (clauses I))).0 ((ask_nil _ _).0 (next_clear b m rule _ _ t)) in (
              rw (clause_count_lem I (goals_counted b m rule)) at l,
              counted (clause_questions b m rule c room) _ (numbered_clause b m rule c room) e ∙ length-append (get_or (clauses I) c []) _ ∙ add-one _,
            );
        check = λ p e. (check_counts b m rule p e).count;
        decoder = λ entries room e. counted (decode_questions b m rule entries room) _ (numbered_decode b m rule entries room) e ∙ ap (λ (x : ℕ). x * I.sizes.k) (sym (add-one m));
        encoder = λ p room e. counted (encode_questions b m rule p room) _ (numbered_encode b m rule p room) e ∙ ap (λ (x : ℕ). I.sizes.n * I.sizes.k * x) (sym (add-one m));
        reader = λ text room e. counted (read_questions b m rule text room) _ (numbered_read b m rule text room) e ∙ ap (λ (x : ℕ). I.sizes.n * I.sizes.k * x) (sym (add-one m));
      }

pub formula_claim : Claim
formula_claim =
    record {
      table = λ b m rule e.
          let I : Instance = instance b m rule in
          let ok : T (all clear (instance_questions b m rule)) = (instance_iff b m rule).0 e in
          let g = edges_known b m rule ok in
          let l = limits b m rule ok in
          let w = goals_counted b m rule in
          record {
            clauses_by_family = record { in_a = count_A I; in_b = count_B I w; in_c = count_C I; in_d = count_D I; in_e = count_E I; in_f = count_F I; in_g = count_G I };
            words_by_family = record { in_a = words_A I; in_b = words_B I w; in_c = words_C I; in_d = words_D I; in_e = words_E I; in_f = words_F I g; in_g = words_G I };
            clause_total = clause_count_lem I w;
            word_total = word_count_lem I g w;
            most = rw (word_count_lem I g w) (words_most I.sizes l);
            longest = clause_most I g l.n_most;
          };
      check = λ b m rule e.
          let ok : T (all clear (instance_questions b m rule)) = (instance_iff b m rule).0 e in
          record {
            passes = check_iff b m rule ok;
            makespan = λ p z. plan_steps b m rule ok p ((check_iff b m rule ok p).0 z);
          };
      counts = λ b m rule e. counts b m rule ((instance_iff b m rule).0 e);
      largest = largest 1;
      largest_following = largest 2;
    }
