-- The counting tree (a totalizer): its shape, and by the shape its outputs, the numbers of its variables, its clauses, and what they come to.
use Rattle.std.specs.Prelude.{List, [], ◌∷◌, ◌++◌, Bool, cond, ℕ, zero, suc, ◌+◌, ◌*◌, ◌-◌, ◌/◌, min, ltb, leb, ℤ, pos, neg_ℤ}
use Rattle.lists.specs.Loop.{for, when, sum}
use Rattle.formula.specs.Variables.{Literal}
use Rattle.formula.specs.Formula.{Clause}

-- a single input, or a node over a left and a right tree
pub data Tree : Type 0 where
  input : Tree
  node : Tree → Tree → Tree

-- A list of two or more is cut into a left half, rounded down, and the rest. The first number is any that is not below the length.
unfoldable pub halved : ℕ → ℕ → Tree
halved zero length = input
halved (suc d) zero = input
halved (suc d) (suc zero) = input
halved (suc d) (suc (suc l)) = node (halved d (suc (suc l) / 2)) (halved d (suc (suc l) - suc (suc l) / 2))

-- the tree over a list of this length; over none it is a single input too, and adds nothing
unfoldable pub tree_over : ℕ → Tree
tree_over length = halved length length

-- how many inputs it has
unfoldable pub inputs : Tree → ℕ
inputs input = 1
inputs (node l r) = inputs l + inputs r

-- the two literals of the variable with this number
abbrev pub on : ℕ → Literal
on z = pos z

abbrev pub off : ℕ → Literal
off z = neg_ℤ (pos z)

-- With the ceiling c. A tree's inputs are the variables x + 1, x + 2, and so on; its own variables are y + 1, y + 2, and so on.
module _ (c : ℕ) where
  -- how many outputs it has
  unfoldable pub outputs : Tree → ℕ
  outputs t = min (inputs t) (suc c)

  -- how many variables of its own: those of the left subtree, those of the right subtree, then its outputs
  unfoldable pub variables : Tree → ℕ
  variables input = 0
  variables (node l r) = variables l + variables r + outputs (node l r)

  -- output i is the variable `before` + i; a single input is its own output
  unfoldable pub before : Tree → ℕ → ℕ → ℕ
  before input x y = x
  before (node l r) x y = y + (variables l + variables r)

  -- i true on the left and j on the right, where output i of the left is p + i, of the right q + i, and of the node o + i
  unfoldable pub join : ℕ → ℕ → ℕ → ℕ → ℕ → Clause
  join p q o i j = when (ltb 0 i) (off (p + i) ∷ []) ++ when (ltb 0 j) (off (q + j) ∷ []) ++ on (o + min (i + j) (suc c)) ∷ []

  -- each from 0 to its output count, a and b, not both 0
  unfoldable pub joins : ℕ → ℕ → ℕ → ℕ → ℕ → List Clause
  joins a b p q o = for (suc a) λ i. for (suc b) λ j. when (ltb 0 (i + j)) (join p q o i j ∷ [])

  -- the left subtree's clauses, the right's, then the node's
  unfoldable pub tree_clauses : Tree → ℕ → ℕ → List Clause
  tree_clauses input x y = []
  tree_clauses (node l r) x y =
      tree_clauses l x y
      ++ tree_clauses r (x + inputs l) (y + variables l)
      ++ joins (outputs l) (outputs r) (before l x y) (before r (x + inputs l) (y + variables l)) (before (node l r) x y)

  -- How many clauses and words they are. A node over a and b outputs has (a+1)(b+1)-1 clauses: of 3 words where i or j is 0, else of 4.
  unfoldable pub clauses_in : Tree → ℕ
  clauses_in input = 0
  clauses_in (node l r) = clauses_in l + clauses_in r + (suc (outputs l) * suc (outputs r) - 1)

  unfoldable pub words_in : Tree → ℕ
  words_in input = 0
  words_in (node l r) = words_in l + words_in r + (3 * (outputs l + outputs r) + 4 * (outputs l * outputs r))

-- the entry of a variable that is true or false
abbrev pub entry_of : Bool → ℕ → ℤ
entry_of b z = cond b (on z) (off z)

-- What the variables mean, where b says which inputs are true.
module _ (b : ℕ → Bool) where
  -- how many of the variables x + 1, .., x + n are true
  abbrev pub count : ℕ → ℕ → ℕ
  count x n = sum n λ j. cond (b (x + suc j)) 1 0

  -- the entries of a tree's own variables: output i says that at least i inputs are true
  unfoldable pub tree_entries : ℕ → Tree → ℕ → ℕ → List ℤ
  tree_entries c input x y = []
  tree_entries c (node l r) x y =
      tree_entries c l x y
      ++ tree_entries c r (x + inputs l) (y + variables c l)
      ++ for (outputs c (node l r)) λ j. entry_of (leb (suc j) (count x (inputs (node l r)))) (before c (node l r) x y + suc j) ∷ []
