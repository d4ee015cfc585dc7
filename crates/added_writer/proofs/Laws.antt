-- What a ceiling adds, as the code writes it.
use mathlib.Core.Path.{◌≡◌, sym, ◌∙◌, ap, ap₂}
use mathlib.Core.List.{List, [], ◌∷◌, ◌++◌, append_assoc}
use Prim.Native.Nat.{ℕ, suc, ◌+◌, ◌*◌, ◌-◌, ◌/◌, ◌%◌, ◌≤◌, ◌<◌}
use native.Mathlib.Nat.{suc-mul, div-add-mod', zero-mul}
use native.Mathlib.Decide.{dec_lt}
use native.Mathlib.Omega.{arith}
use borrow.Author.Tests.{lt-ltb, le-ltb}
use Rattle.lists.specs.Loop.{for}
use Rattle.lists.proofs.Loops.{for_ext}
use Rattle.lists.proofs.Blocks.{for_flat}
use Rattle.instance.specs.declared.Sizes.{Sizes}
use Rattle.formula.specs.Variables.{variable_count}
use Rattle.formula.specs.Formula.{Clause}
use Rattle.ceiling.specs.Tree.{on, off}
use Rattle.ceiling.specs.Ceiling.{link, moves, chain, counters, limit, added_clauses}
use Rattle.counting.specs.Over.{variables_over, clauses_over, before_outputs}
use Rattle.counting.proofs.Laws.{outputs_last, one_clauses}
use Rattle.tree_writer.proofs.Laws.{part_at}

-- the link of the B that is i after the first: that of the next time stands k behind
abbrev pub waiting : ℕ → ℕ → ℕ → List Clause
waiting k first i = (off (first + i + k) ∷ on (first + i) ∷ []) ∷ []

module _ (s : Sizes) where
  open s use {k, m}

  pub chain_run : {first : ℕ} → first ≡ variable_count s + 1 → chain s ≡ for ((m - 1) * k) (waiting k first)
  unfolding chain
  chain_run {first} e =
      for_flat (m - 1) k (λ t a. link s t a ∷ [])
      ∙ for_ext ((m - 1) * k) _ (waiting k first) (λ i l.
      let d = div-add-mod' i k in
      let later : variable_count s + suc (suc (i / k) * k + i % k) ≡ first + i + k = omega (arith, suc-mul (i / k) k) in
      let now : variable_count s + suc (i / k * k + i % k) ≡ first + i = omega arith in
      ap₂ (λ (x y : ℕ). (off x ∷ on y ∷ []) ∷ []) later now)

  -- ---- the limit
  module _ (c : ℕ) where
    pub limit_none : m * k ≤ c → limit s c ≡ []
    unfolding limit
    limit_none h = rw (le-ltb c (m * k) h)

    pub limit_one : c < m * k
        → limit s c ≡ (off (before_outputs c (m * k) (variable_count s) (variable_count s + m * k + variables_over c (m * k)) + c + 1) ∷ []) ∷ []
    unfolding limit
    limit_one h =
        let e : (z : ℕ) → z + suc c ≡ z + c + 1 = λ z. omega arith in
        rw (lt-ltb c (m * k) h, outputs_last c (m * k) (variable_count s) (variable_count s + m * k) (omega arith) (dec_lt (m * k) 2), e)

    -- ---- the tree's clauses
    pub counters_over : {first : ℕ} → first ≡ variable_count s → clauses_over c (m * k) first (first + m * k) ≡ counters s c
    unfolding counters clauses_over
    counters_over e = rw e

    -- ---- all that is added, in the parts that are written one behind another
    abbrev pub added_parts : List (List Clause)
    added_parts = moves s ∷ chain s ∷ (counters s c ++ limit s c) ∷ []

    pub added_whole : for 3 (part_at added_parts) ≡ added_clauses s c
    unfolding added_clauses
    added_whole = sym (append_assoc (moves s ++ chain s) (counters s c) (limit s c))

    -- with the horizon 0 there are none
    pub added_none : m ≡ 0 → added_clauses s c ≡ []
    unfolding added_clauses moves chain counters clauses_over
    added_none e =
        let z : m * k ≡ 0 = ap (λ (x : ℕ). x * k) e ∙ zero-mul k in
        rw (limit_none (omega arith), one_clauses c (m * k) (variable_count s) (variable_count s + m * k) (omega arith), e)
