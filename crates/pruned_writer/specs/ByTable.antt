-- Family H as the code has it: the distances are the table's.
use Rattle.std.specs.Prelude.{List, ℕ}
use Rattle.lists.specs.Loop.{for}
use Rattle.instance.specs.declared.Sizes.{Sizes}
use Rattle.formula.specs.Formula.{Clause}
use Rattle.formula.specs.Pruned.{block_h, H}
use Rattle.distances.specs.Table.{by_table, goal_by}

module _ (s : Sizes) (table : List (List ℕ)) (starts goals : List ℕ) where
  -- H, of time t and agent a
  abbrev pub block_by_table : ℕ → ℕ → List Clause
  block_by_table t a = block_h s (by_table table starts a) (goal_by table goals a) t a

  -- H, of time t
  abbrev pub step_by_table : ℕ → List Clause
  step_by_table t = for s.k λ a. block_by_table t a

  -- H
  abbrev pub by_table_h : List Clause
  by_table_h = H s (by_table table starts) (goal_by table goals)
