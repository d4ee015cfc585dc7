-- The words that are written are those of the pruned formula.
use mathlib.Core.Path.{◌≡◌, refl, sym, ◌∙◌, ap, ap₂}
use mathlib.Core.List.{List, ◌++◌}
use Prim.Native.Nat.{ℕ, ◌+◌}
use native.Mathlib.Numerals.{add-one}
use Rattle.lists.specs.Loop.{for, each}
use Rattle.instance.specs.declared.Sizes.{Sizes}
use Rattle.instance.specs.declared.Checked.{Checked}
use Rattle.instance.specs.Instance.{Instance}
use Rattle.instance.specs.Accepted.{Accepted, instance_of}
use Rattle.instance.proofs.Accepted.{sizes_same}
use Rattle.distances.specs.Table.{TableOf, by_table, goal_by}
use Rattle.formula.specs.Formula.{Clause, line, words}
use Rattle.formula.specs.Blocks.{held, family}
use Rattle.formula.specs.Pruned.{H, from_start, from_goal, family_h, pruned}
use Rattle.formula.proofs.Held.{families_held}
use Rattle.formula.proofs.Pruned.{H_ext}
use Rattle.pruned_writer.specs.ByTable.{step_by_table, by_table_h}
use Rattle.formula_size.proofs.Laws.{from_start_lem, from_goal_lem}

pub steps_by_table : (s : Sizes) (table : List (List ℕ)) (starts goals : List ℕ) → by_table_h s table starts goals ≡ for (s.m + 1) (step_by_table s table starts goals)
unfolding H
steps_by_table s table starts goals = rw add-one refl

module _ (b : List ℕ) (c : Checked) (w : Accepted b c) (table : List (List ℕ)) (t : TableOf c.sizes.n c.near table) where
  abbrev I : Instance
  I = instance_of b c

  table_H : by_table_h c.sizes table c.starts c.goals ≡ family_h I
  table_H =
      H_ext c.sizes (by_table table c.starts) (goal_by table c.goals) (from_start I) (from_goal I) (from_start_lem b c w table t) (from_goal_lem b c w table t)
      ∙ ap (λ (s : Sizes). H s (from_start I) (from_goal I)) (sizes_same b c w)

  pub words_held : words (pruned I) ≡ each line (for 7 (family (held c)) ++ by_table_h c.sizes table c.starts c.goals)
  unfolding words
  words_held = ap (each line) (ap₂ (λ (k l : List Clause). k ++ l) (families_held b c w) (sym table_H))
