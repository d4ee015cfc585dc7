-- The tree by the length of its list: one input, two or more; and the bounds of its counts.
use mathlib.Core.Path.{◌≡◌, refl}
use mathlib.Core.List.{[], ◌++◌}
use mathlib.Core.Logic.{by_cases}
use Prim.Native.Nat.{ℕ, suc, ◌+◌, ◌*◌, ◌-◌, ◌/◌, ◌≤◌, ◌<◌, min}
use native.Mathlib.Numerals.{add-one}
use native.Mathlib.Nat.{mul-le-mul}
use native.Mathlib.Decide.{dec_lt}
use native.Mathlib.Omega.{arith}
use borrow.Author.Tests.{lt-ltb, le-ltb}
use lib.ListN.{length}
use Rattle.lists.specs.Loop.{each}
use Rattle.formula.specs.Formula.{line}
use Rattle.ceiling.specs.Tree.{Tree, input, node, tree_over, inputs, outputs, variables, before, tree_clauses, clauses_in, words_in}
use Rattle.ceiling.proofs.Tree.{tree_one, tree_two, tree_inputs, variables_most}
use Rattle.ceiling.proofs.Counts.{clauses_most, count_tree, words_tree}
use Rattle.counting.specs.Over.{variables_over, clause_count_over, word_count_over, clauses_over, before_outputs, own_clauses, NodeAdds}
use Rattle.counting.specs.declared.Counts.{Counts}

module _ (c : ℕ) where
  pub one_clauses : (l x y : ℕ) → l < 2 → clauses_over c l x y ≡ []
  unfolding clauses_over tree_clauses
  one_clauses l x y h = rw (tree_one l h)

  pub one_variables : (l : ℕ) → l < 2 → variables_over c l ≡ 0
  unfolding variables_over variables
  one_variables l h = rw (tree_one l h)

  pub one_counts : (l : ℕ) → l < 2 → (clause_count_over c l ≡ 0) × (word_count_over c l ≡ 0)
  unfolding clause_count_over word_count_over clauses_in words_in
  one_counts l h = rw (tree_one l h) (refl, refl)

  pub two_variables : (l : ℕ) → 2 ≤ l → variables_over c l ≡ variables_over c (l / 2) + variables_over c (l - l / 2) + min l (c + 1)
  unfolding variables_over variables outputs inputs
  two_variables l h = rw (tree_two l h, tree_inputs (l / 2) (omega arith), tree_inputs (l - l / 2) (omega arith)) (omega arith)

  -- a tree's outputs are its last variables, or its one input
  pub outputs_last : (l x y : ℕ) → 1 ≤ l → Dec (l < 2) → before c (tree_over l) x y ≡ before_outputs c l x (y + variables_over c l)
  unfolding before before_outputs variables_over variables outputs inputs
  outputs_last l x y h (yes q) = rw (tree_one l q, lt-ltb l 2 q)
  outputs_last l x y h (no q) =
      rw (tree_two l (omega arith), le-ltb l 2 (omega arith), tree_inputs (l / 2) (omega arith), tree_inputs (l - l / 2) (omega arith)) (omega arith)

  pub two_clauses : (l x y : ℕ) → 2 ≤ l
      → clauses_over c l x y ≡ clauses_over c (l / 2) x y ++ clauses_over c (l - l / 2) (x + l / 2) (y + variables_over c (l / 2))
      ++ own_clauses c l x (y + variables_over c (l / 2)) (y + variables_over c (l / 2) + variables_over c (l - l / 2))
  unfolding clauses_over tree_clauses outputs before variables_over
  two_clauses l x y h =
      let left = tree_inputs (l / 2) (omega arith) in
      let right = tree_inputs (l - l / 2) (omega arith) in
      let e : y + (variables c (tree_over (l / 2)) + variables c (tree_over (l - l / 2))) ≡ y + variables c (tree_over (l / 2)) + variables c (tree_over (l - l / 2)) = omega arith in
      rw (
        tree_two l h,
        left,
        right,
        e,
        add-one c,
        outputs_last (l / 2) x y (omega arith) (dec_lt (l / 2) 2),
        outputs_last (l - l / 2) (x + l / 2) (y + variables c (tree_over (l / 2))) (omega arith) (dec_lt (l - l / 2) 2),
      )

  pub before_most : (l x next : ℕ) → x ≤ 40000 → next ≤ 40000 → before_outputs c l x next ≤ 40000
  unfolding before_outputs
  before_most l x next p q = by_cases (dec_lt l 2) (λ h. rw (lt-ltb l 2 h) p) (λ h. rw (le-ltb l 2 (omega arith)) (omega arith))

-- a tree of two or more inputs has its outputs among its variables
pub outputs_fit : (c l y : ℕ) → 2 ≤ l → min l (c + 1) ≤ y + variables_over c l
outputs_fit c l y h = omega (arith, two_variables c l h)

words_most : (c : ℕ) → c ≤ 128 → (t : Tree) → (1 ≤ inputs t) × (words_in c t + 67338 ≤ 67338 * inputs t)
unfolding words_in inputs outputs
words_most c h input = (omega arith, omega arith)
words_most c h (node l r) =
    let (a, b) = words_most c h l in
    let (d, e) = words_most c h r in
    let q : min (inputs l) (suc c) * min (inputs r) (suc c) ≤ 16641 = mul-le-mul {n₂ = 129} {m₂ = 129} (omega arith) (omega arith) in
    (omega arith, omega arith)

-- the products that a node's size is made of
pub products_most : (a b : ℕ) → a ≤ 129 → b ≤ 129 → (1 ≤ (a + 1) * (b + 1)) × ((a + 1) * (b + 1) ≤ 16900) × (a * b ≤ 16641)
products_most a b p q = (
  mul-le-mul {n₁ = 1} {m₁ = 1} (omega arith) (omega arith),
  mul-le-mul {n₂ = 130} {m₂ = 130} (omega arith) (omega arith),
  mul-le-mul {n₂ = 129} {m₂ = 129} p q,
)

pub node_adds : (c l a b : ℕ) (own : Counts) → c ≤ 128 → 2 ≤ l → l ≤ 512 → a ≡ min (l / 2) (c + 1) → b ≡ min (l - l / 2) (c + 1)
    → own.variables ≡ min l (c + 1) → own.clauses ≡ (a + 1) * (b + 1) - 1 → own.words ≡ 3 * (a + b) + 4 * (a * b) → NodeAdds c l own
unfolding clause_count_over word_count_over clauses_in words_in outputs variables_over
node_adds c l a b own h p q ea eb ev ec ew =
    let left = tree_inputs (l / 2) (omega arith) in
    let right = tree_inputs (l - l / 2) (omega arith) in
    let all = tree_inputs l (omega arith) in
    let cm = rw all at (clauses_most c h (tree_over l)).1 in
    let wm = rw all at (words_most c h (tree_over l)).1 in
    let vm = variables_most c 9 l (omega arith) in
    record {
      variables = rw ev (two_variables c l p);
      clauses = rw (ec, tree_two l p, left, right, ea, eb, add-one c, add-one, add-one);
      words = rw (ew, tree_two l p, left, right, ea, eb, add-one c);
      variables_most = omega arith;
      clauses_most = omega arith;
      words_most = omega arith;
    }

-- what the callers of the writer need
pub tree_fits : (c l : ℕ) → l ≤ 512 → variables_over c l ≤ 4608
unfolding variables_over
tree_fits c l h = let v = variables_most c 9 l (omega arith) in omega arith

pub clauses_are : (c l x y : ℕ) → length (clauses_over c l x y) ≡ clause_count_over c l
unfolding clauses_over clause_count_over
clauses_are c l x y = count_tree c (tree_over l) x y

pub clauses_bound : (c l x y : ℕ) → c ≤ 128 → 1 ≤ l → length (clauses_over c l x y) + 16900 ≤ 16900 * l
unfolding clause_count_over
clauses_bound c l x y h o = let all = tree_inputs l o in omega (arith, clauses_are c l x y, rw all at (clauses_most c h (tree_over l)).1)

pub words_are : (c l x y : ℕ) → length (each line (clauses_over c l x y)) ≡ word_count_over c l
unfolding clauses_over word_count_over
words_are c l x y = words_tree c (tree_over l) x y

-- the counts of a tree over at most 512 inputs
pub counts_fit : (c l : ℕ) → c ≤ 128 → 1 ≤ l → l ≤ 512 → (variables_over c l ≤ 4608) × (clause_count_over c l ≤ 8652800) × (word_count_over c l ≤ 34477056)
unfolding clause_count_over word_count_over
counts_fit c l h o q =
    let all = tree_inputs l o in
    let cm = rw all at (clauses_most c h (tree_over l)).1 in
    let wm = rw all at (words_most c h (tree_over l)).1 in
    (tree_fits c l q, omega arith, omega arith)
