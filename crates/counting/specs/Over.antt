-- The counting tree by the length of the list that it counts, as the code goes: l inputs, with the ceiling c.
use Rattle.std.specs.Prelude.{◌≡◌, List, cond, ℕ, ◌+◌, ◌*◌, ◌-◌, ◌/◌, ◌≤◌, min, ltb}
use Rattle.formula.specs.Formula.{Clause}
use Rattle.ceiling.specs.Tree.{tree_over, variables, joins, tree_clauses, clauses_in, words_in}
use Rattle.counting.specs.declared.Ceiling.{Ceiling}
use Rattle.counting.specs.declared.Counts.{Counts}
use Rattle.counting.specs.declared.Node.{Node}

-- a node's clauses
abbrev pub node_clauses : Node → List Clause
node_clauses d = joins d.ceiling.c d.a d.b d.p d.q d.o

module _ (c : ℕ) where
  -- its own variables, and its clauses and words, as counts
  unfoldable pub variables_over : ℕ → ℕ
  variables_over l = variables c (tree_over l)

  unfoldable pub clause_count_over : ℕ → ℕ
  clause_count_over l = clauses_in c (tree_over l)

  unfoldable pub word_count_over : ℕ → ℕ
  word_count_over l = words_in c (tree_over l)

  -- its clauses, where its inputs stand after x and its own variables after y
  unfoldable pub clauses_over : ℕ → ℕ → ℕ → List Clause
  clauses_over l x y = tree_clauses c (tree_over l) x y

  -- the variable before its outputs, where its own variables end at `next`
  unfoldable pub before_outputs : ℕ → ℕ → ℕ → ℕ
  before_outputs l x next = cond (ltb l 2) x (next - min l (c + 1))

-- its topmost node, where the left subtree's variables end at u, and the right's at v
unfoldable pub node_over : Ceiling → ℕ → ℕ → ℕ → ℕ → Node
node_over ceiling l x u v = record {
  ceiling = ceiling;
  a = min (l / 2) (ceiling.c + 1);
  b = min (l - l / 2) (ceiling.c + 1);
  p = before_outputs ceiling.c (l / 2) x u;
  q = before_outputs ceiling.c (l - l / 2) (x + l / 2) v;
  o = v;
}

-- and that node's clauses
abbrev pub own_clauses : ℕ → ℕ → ℕ → ℕ → ℕ → List Clause
own_clauses c l x u v =
    joins c (min (l / 2) (c + 1)) (min (l - l / 2) (c + 1)) (before_outputs c (l / 2) x u) (before_outputs c (l - l / 2) (x + l / 2) v) v

-- what the topmost node of a tree over l inputs adds to its two subtrees, and how much the tree has at most
pub record NodeAdds (c l : ℕ) (own : Counts) : Type 0 where
  pub variables : variables_over c l ≡ variables_over c (l / 2) + variables_over c (l - l / 2) + own.variables
  pub clauses : clause_count_over c l ≡ clause_count_over c (l / 2) + clause_count_over c (l - l / 2) + own.clauses
  pub words : word_count_over c l ≡ word_count_over c (l / 2) + word_count_over c (l - l / 2) + own.words
  pub variables_most : variables_over c l ≤ 4608
  pub clauses_most : clause_count_over c l ≤ 16900 * l
  pub words_most : word_count_over c l ≤ 67338 * l
