-- What is claimed of the formula's size, of the plan check, and of the counts that the calls answer.
use Rattle.std.specs.Prelude.{◌≡◌, ◌↔◌, ℕ, suc, ◌+◌, ◌*◌, ◌≤◌, ◌<◌, length, get_or, ℤ}
use mathlib.Core.List.{List, [], Memᴰ}
use Rattle.lists.specs.Loop.{each}
use Rattle.instance.specs.Instance.{Instance, instance, adjacent}
use Rattle.formula.specs.Formula.{Clause, A, B, C, D, E, F, G, clauses, formula, line, words}
use Rattle.formula.specs.Counts.{Families, clauses_by, words_by, clause_count, word_count, most_words, largest_sizes}
use Rattle.plan.specs.Plan.{cost}
use Rattle.plan.specs.Plan as plan
use Rattle.plan.specs.Passing.{Passes}
use Rattle.instance.specs.Questions.{instance_answer}
use Rattle.calls.specs.Calls.{size_answer, clause_answer, check_answer, decode_answer, encode_answer, read_answer}

-- the numbers of the table are the lengths of the families
pub record Lengths (numbers : Families) (length' : List Clause → ℕ) (I : Instance) : Type 0 where
  pub in_a : length' (A I.sizes I.start) ≡ numbers.A
  pub in_b : length' (B I.sizes I.goal) ≡ numbers.B
  pub in_c : length' (C I.sizes) ≡ numbers.C
  pub in_d : length' (D I.sizes) ≡ numbers.D
  pub in_e : length' (E I.sizes) ≡ numbers.E
  pub in_f : length' (F I.sizes (adjacent I)) ≡ numbers.F
  pub in_g : length' (G I.sizes I.low I.high) ≡ numbers.G

-- for the instance bytes b, the horizon m and the rule
module _ (b : List ℕ) (m rule : ℕ) where
  abbrev I : Instance
  I = instance b m rule

  pub record TableCounts : Type 0 where
    -- the clause counts and the word counts of the table, by family and in all
    pub clauses_by_family : Lengths (clauses_by I.sizes) length I
    pub words_by_family : Lengths (words_by I.sizes) (λ cs. length (each line cs)) I
    pub clause_total : length (clauses I) ≡ clause_count I.sizes
    pub word_total : length (words (formula I)) ≡ word_count I.sizes
    -- no formula has more words than the largest under its rule
    pub most : length (words (formula I)) ≤ most_words I.sizes
    -- a clause with its 0 has at most 66 words
    pub longest : (c : Clause) → Memᴰ c (clauses I) → length (line c) ≤ 66

  pub record Check : Type 0 where
    -- the plan check passes a plan exactly when it leads from the starts to the goals there are and every step obeys the three conditions
    pub passes : (p : List ℕ) → ((check_answer b m rule p).number ≡ 0) ↔ Passes I p
    -- a plan that passes has the makespan m
    pub makespan : (p : List ℕ) → (check_answer b m rule p).number ≡ 0 → plan.makespan I.sizes.k p ≡ m

  -- the count of each acceptance
  pub record Counts : Type 0 where
    -- the size call: words, and the clause count beside them (a writer's second number is 0: `claims/specs/Size`)
    pub size : (size_answer formula b m rule).number ≡ 0
        → ((size_answer formula b m rule).second ≡ word_count I.sizes) × ((size_answer formula b m rule).clauses ≡ clause_count I.sizes)
    -- one clause: its words with the 0
    pub clause : (c room : ℕ) → (clause_answer b m rule c room).number ≡ 0
        → (c < clause_count I.sizes) × ((clause_answer b m rule c room).second ≡ suc (length (get_or (clauses I) c [])))
    -- the plan check: the cost
    pub check : (p : List ℕ) → (check_answer b m rule p).number ≡ 0 → (check_answer b m rule p).second ≡ cost I.sizes p
    -- the decoder: (m+1)·k; the encoder and the reader: N
    pub decoder : (entries : List ℤ) (room : ℕ) → (decode_answer b m rule entries room).number ≡ 0
        → (decode_answer b m rule entries room).second ≡ (m + 1) * I.sizes.k
    pub encoder : (p : List ℕ) (room : ℕ) → (encode_answer b m rule p room).number ≡ 0
        → (encode_answer b m rule p room).second ≡ I.sizes.n * I.sizes.k * (m + 1)
    pub reader : (text : List ℕ) (room : ℕ) → (read_answer b m rule text room).number ≡ 0
        → (read_answer b m rule text room).second ≡ I.sizes.n * I.sizes.k * (m + 1)

-- for every accepted instance, horizon and rule
pub record Claim : Type 0 where
  pub table : (b : List ℕ) (m rule : ℕ) → (instance_answer b m rule).number ≡ 0 → TableCounts b m rule
  pub check : (b : List ℕ) (m rule : ℕ) → (instance_answer b m rule).number ≡ 0 → Check b m rule
  pub counts : (b : List ℕ) (m rule : ℕ) → (instance_answer b m rule).number ≡ 0 → Counts b m rule
  -- the largest formula by the table, under rule 1 and under rule 2
  pub largest : word_count (largest_sizes 1) ≡ 7_625_296
  pub largest_following : word_count (largest_sizes 2) ≡ 83_565_136
