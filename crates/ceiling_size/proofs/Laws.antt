-- What a ceiling adds, with its bounds, and the size of the formula with a ceiling.
use mathlib.Core.Path.{◌≡◌, refl, sym, ◌∙◌, ap}
use mathlib.Core.Logic.{◌≢◌, by_cases}
use mathlib.Core.Bool.{Bool, true, false, cond}
use mir.Val.{bool_byte}
use mathlib.Core.List.{List}
use Prim.Native.Nat.{ℕ, zero, suc, ◌*◌, ◌-◌, ◌≤◌}
use native.Mathlib.Nat.{suc-mul, zero-mul, mul-le-mul}
use native.Mathlib.Decide.{dec_lt}
use native.Mathlib.Omega.{arith}
use borrow.Author.Tests.{le-ltb}
use lib.Dec.{ltb}
use lib.ListN.{length}
use Rattle.std.specs.Prelude.{Result, Ok, Err, IsErrAnd}
use Rattle.std.proofs.lemmas.Result.{err_from_is_err_and}
use Rattle.answers.specs.declared.Answer.{Answer}
use Rattle.answers.specs.declared.Refusal.{Refusal}
use Rattle.answers.specs.Answers.{accept, with_clauses}
use Rattle.answers.specs.Returned.{refused, size_of}
use Rattle.answers.proofs.Returned.{refusal_numbered, size_refused}
use Rattle.instance.specs.declared.Sizes.{Sizes}
use Rattle.instance.specs.declared.Checked.{Checked}
use Rattle.instance.specs.declared.problem.Problem.{Problem}
use Rattle.instance.specs.Problem.{checked_of, ProblemOf}
use Rattle.instance.specs.Instance.{Instance, instance, unchecked}
use Rattle.counting.specs.declared.Ceiling.{Ceiling}
use Rattle.ceiling_size.specs.Inspected.{inspected, inspected_instance}
use Rattle.instance.specs.Limits.{Limits}
use Rattle.instance.specs.Questions.{instance_answer, instance_checked}
use Rattle.instance.specs.Accepted.{instance_of}
use Rattle.instance.proofs.Accepted.{sizes_same, graph, counted_known}
use Rattle.formula.specs.Formula.{words}
use Rattle.formula.proofs.Limits.{agent_steps}
use Rattle.ceiling.specs.Tree.{variables, clauses_in, words_in}
use Rattle.ceiling.specs.Ceiling.{added_variables, added_count, added_words, ceiling_count, ceiling_words, under_ceiling}
use Rattle.ceiling.proofs.Tree.{tree_one, one_of}
use Rattle.ceiling.proofs.Counts.{ceiling_count_lem, ceiling_words_lem}
use Rattle.calls.specs.Ceiling.{ceiling_questions, ceiling_answer, ceiling_size_answer}
use Rattle.calls.proofs.Size.{size_refuses, size_accepts}
use Rattle.calls.proofs.Ceiling.{numbered_ceiling, check_refuses, passed, horizon}
use Rattle.counting.specs.Over.{variables_over, clause_count_over, word_count_over}
use Rattle.counting.proofs.Laws.{counts_fit}

-- a test as a number
pub as_number : (b : Bool) → (bool_byte b ≡ cond b 1 0) × (bool_byte b ≤ 1)
as_number true = (refl, omega arith)
as_number false = (refl, omega arith)

module _ (s : Sizes) (w : Limits s) where
  open s use {n, k, m}

  -- at m 0 nothing is added
  pub no_steps : m * k ≡ 0 → m ≡ 0
  no_steps e = go m e
    where
      go : (x : ℕ) → x * k ≡ 0 → x ≡ 0
      go zero e = refl
      go (suc x) e = let l = w.k_least in absurd (let f : ⊥ = omega (arith, suc-mul x k) in f)

  pub some_steps : m * k ≢ 0 → 1 ≤ m
  some_steps d = go m d
    where
      go : (x : ℕ) → x * k ≢ 0 → 1 ≤ x
      go zero d = absurd (d (zero-mul k))
      go (suc x) d = omega arith

  pub none_added : (c : ℕ) → m * k ≡ 0 → (0 ≡ added_variables s c) × (0 ≡ added_count s c) × (0 ≡ added_words s c)
  unfolding added_variables added_count added_words variables clauses_in words_in
  none_added c e =
      let z = no_steps e in
      let y : (m - 1) * k ≡ 0 = ap (λ (x : ℕ). (x - 1) * k) z ∙ zero-mul k in
      rw (e, y, zero-mul n, tree_one 0 (omega arith), le-ltb c 0 (omega arith)) (refl, refl, refl)

  -- what the code has worked out, with no number too large
  pub record Parts (c : ℕ) : Type 0 where
    pub inputs : m * k ≤ 512
    pub moves : m * k * n ≤ 32768
    pub waits : (m - 1) * k ≤ 512
    pub variables : variables_over c (m * k) ≤ 4608
    pub clauses : clause_count_over c (m * k) ≤ 8652800
    pub words : word_count_over c (m * k) ≤ 34477056

  pub parts : (c : ℕ) → c ≤ 128 → 1 ≤ m * k → Parts c
  parts c h o =
      let l = agent_steps s w in
      let (v, x, y) = counts_fit c (m * k) h o l in
      record {
        inputs = l;
        moves = mul-le-mul {n₂ = 512} {m₂ = 64} l w.n_most;
        waits = mul-le-mul {n₂ = 32} {m₂ = 16} (let z = w.m_most in omega arith) w.k_most;
        variables = v;
        clauses = x;
        words = y;
      }

  pub added_most : (c : ℕ) → c ≤ 128 → added_count s c ≤ 9000000
  unfolding added_count clause_count_over
  added_most c h =
      by_cases (dec_lt 0 (m * k))
      (λ o. let p = parts c h o in let x = p.moves in let y = p.waits in let z = p.clauses in omega (arith, (one_of (ltb c (m * k))).1))
      (λ o. omega (arith, (none_added c (omega arith)).1))

-- the counts of the formula, by the sizes that the check has found
module _ (b : List ℕ) (p : Problem) (w : ProblemOf b p) (c : ℕ) where
  pub count_held : length (under_ceiling c (instance_of b (checked_of p))).clauses ≡ ceiling_count p.shape.sizes c
  count_held =
      ceiling_count_lem (instance_of b (checked_of p)) c (counted_known b (checked_of p) w)
      ∙ ap (λ (s : Sizes). ceiling_count s c) (sym (sizes_same b (checked_of p) w))

  pub words_held : length (words (under_ceiling c (instance_of b (checked_of p)))) ≡ ceiling_words p.shape.sizes c
  words_held =
      ceiling_words_lem (instance_of b (checked_of p)) c (graph b (checked_of p) w) (counted_known b (checked_of p) w)
      ∙ ap (λ (s : Sizes). ceiling_words s c) (sym (sizes_same b (checked_of p) w))

-- what is returned at the exit of a `?` by which the refusal e is passed on
pub inspected_passed : (e : Refusal) {x : Answer} (r : Result (Problem × Result Ceiling Refusal) Refusal) → IsErrAnd r (λ y. y ≡ e) → refused e ≡ x → inspected r ≡ x
inspected_passed e r h q = let p = err_from_is_err_and r h in rw (p.1, p.2) q

pub unchecked_passed : (e : Refusal) {x : Checked} (r : Result (Problem × Result Ceiling Refusal) Refusal) → IsErrAnd r (λ y. y ≡ e) → unchecked ≡ x → inspected_instance r ≡ x
unchecked_passed e r h q = let p = err_from_is_err_and r h in rw p.1 q

-- the check: the instance check's refusal e, or with its problem the ceiling is too high, or neither
module _ (b : List ℕ) (m rule c : ℕ) where
  pub check_refused : (e : Refusal) → refused e ≡ instance_answer b m rule → refused e ≡ ceiling_answer b m rule c
  check_refused e h = check_refuses b m rule c (refused e) h (refusal_numbered e)

  -- the size call, where the check refuses by e, or finds the problem p
  pub size_refused_by : (e : Refusal) → refused e ≡ ceiling_answer b m rule c → size_of (Err e) ≡ ceiling_size_answer b m rule c
  unfolding ceiling_size_answer ceiling_answer
  size_refused_by e h =
      size_refused e 0
      ∙ size_refuses (ceiling_questions b m rule c) (numbered_ceiling b m rule c) (under_ceiling c (instance b m rule)) (refused e) h (refusal_numbered e)

  module _ (p : Problem) (ea : accept 0 ≡ ceiling_answer b m rule c) (ek : checked_of p ≡ instance_checked b m rule) where
    pub known : ProblemOf b p
    known = passed b m rule c (accept 0) (checked_of p) ea ek refl

    -- whose formula has x words and y clauses
    pub size_found : (x y : ℕ) → x ≡ ceiling_words p.shape.sizes c → y ≡ ceiling_count p.shape.sizes c
        → size_of (Ok (record { words = x; clauses = y })) ≡ ceiling_size_answer b m rule c
    unfolding ceiling_size_answer ceiling_answer with_clauses
    size_found x y ex ey =
        let same = sym (horizon b m rule c (accept 0) (checked_of p) ea ek refl) in
        size_accepts (ceiling_questions b m rule c) (numbered_ceiling b m rule c) (under_ceiling c (instance b m rule)) (accept 0) ea refl x y
        (ap (λ (I : Instance). length (words (under_ceiling c I))) same ∙ words_held b p known c ∙ sym ex)
        (ap (λ (I : Instance). length (under_ceiling c I).clauses) same ∙ count_held b p known c ∙ sym ey)
