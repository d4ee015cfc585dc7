-- The formula with a ceiling c on the cost: after G, the variables B and those of the tree that counts them, with their clauses.
use Rattle.std.specs.Prelude.{List, [], ◌∷◌, ◌++◌, cond, ℕ, suc, ◌+◌, ◌*◌, ◌-◌, ltb}
use Rattle.lists.specs.Loop.{for, when}
use Rattle.instance.specs.declared.Sizes.{Sizes}
use Rattle.instance.specs.Instance.{Instance}
use Rattle.formula.specs.Variables.{X, ¬X, variable_count}
use Rattle.formula.specs.Formula.{Clause, Formula, clauses}
use Rattle.formula.specs.Counts.{clause_count, word_count}
use Rattle.ceiling.specs.Tree.{Tree, tree_over, on, off, variables, before, tree_clauses, clauses_in, words_in}

module _ (s : Sizes) where
  open s use {n, k, m}

  -- The number of B(t,a): agent a is not yet at rest at time t. t is below m, and runs slowest.
  abbrev pub busy_number : ℕ → ℕ → ℕ
  busy_number t a = variable_count s + suc (t * k + a)

  -- the tree that counts them in the order of their numbers
  abbrev pub root : Tree
  root = tree_over (m * k)

  -- agent a leaves v in step t, so it is not yet at rest
  abbrev pub moving : ℕ → ℕ → ℕ → Clause
  moving t a v = ¬X s t a v ∷ X s (suc t) a v ∷ on (busy_number t a) ∷ []

  unfoldable pub moves : List Clause
  moves = for m λ t. for k λ a. for n λ v. moving t a v ∷ []

  -- agent a is not yet at rest at t + 1, so it is not at t
  abbrev pub link : ℕ → ℕ → Clause
  link t a = off (busy_number (suc t) a) ∷ on (busy_number t a) ∷ []

  unfoldable pub chain : List Clause
  chain = for (m - 1) λ t. for k λ a. link t a ∷ []

  module _ (c : ℕ) where
    -- the tree's clauses: its inputs are the B, and its own variables stand behind them
    unfoldable pub counters : List Clause
    counters = tree_clauses c root (variable_count s) (variable_count s + m * k)

    -- root output c + 1
    abbrev pub over_number : ℕ
    over_number = before c root (variable_count s) (variable_count s + m * k) + suc c

    -- it is forbidden, where there are more than c inputs
    unfoldable pub limit : List Clause
    limit = when (ltb c (m * k)) ((off over_number ∷ []) ∷ [])

    unfoldable pub added_clauses : List Clause
    added_clauses = moves ++ chain ++ counters ++ limit

    -- how many variables, clauses and words are added; zeros included
    unfoldable pub added_variables : ℕ
    added_variables = m * k + variables c root

    unfoldable pub added_count : ℕ
    added_count = m * k * n + (m - 1) * k + clauses_in c root + cond (ltb c (m * k)) 1 0

    unfoldable pub added_words : ℕ
    added_words = 4 * (m * k * n) + 3 * ((m - 1) * k) + words_in c root + 2 * cond (ltb c (m * k)) 1 0

    -- all variables, clauses and words
    unfoldable pub ceiling_variables : ℕ
    ceiling_variables = variable_count s + added_variables

    unfoldable pub ceiling_count : ℕ
    ceiling_count = clause_count s + added_count

    unfoldable pub ceiling_words : ℕ
    ceiling_words = word_count s + added_words

-- the formula of an instance and a horizon with the ceiling c: the clauses of the base formula, then those added
abbrev pub under_ceiling : ℕ → Instance → Formula
under_ceiling c I = record { variables = ceiling_variables I.sizes c; clauses = clauses I ++ added_clauses I.sizes c }
