-- What is counted by the table of distances.
use Rattle.std.specs.Prelude.{List, ℕ}
use Rattle.instance.specs.declared.Checked.{Checked}
use Rattle.formula.specs.Pruned.{count_h}
use Rattle.distances.specs.Table.{by_table, goal_by}

-- the clauses of family H
abbrev pub count_by_table : Checked → List (List ℕ) → ℕ
count_by_table c table = count_h c.sizes (by_table table c.starts) (goal_by table c.goals)
