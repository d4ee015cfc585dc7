-- The formula of an instance is the seven families of the parts that show it.
use mathlib.Core.Path.{◌≡◌, sym, ◌∙◌, ap}
use mathlib.Core.List.{List}
use mathlib.Core.Bool.{Bool}
use Prim.Native.Nat.{ℕ}
use lib.ListN.{length}
use Rattle.lists.specs.Loop.{for, each}
use Rattle.lists.proofs.Loops.{for_ext}
use Rattle.instance.specs.declared.Sizes.{Sizes}
use Rattle.instance.specs.declared.Checked.{Checked}
use Rattle.instance.specs.Instance.{Instance, Edges}
use Rattle.instance.specs.Shows.{Shows}
use Rattle.instance.specs.Accepted.{Accepted, instance_of}
use Rattle.instance.proofs.Accepted.{sizes_same, graph, counted_known, shown}
use Rattle.formula.specs.Formula.{clauses, formula, line, words}
use Rattle.formula.specs.Counts.{clause_count, word_count}
use Rattle.formula.specs.Blocks.{Given, given, held_in, held, family}
use Rattle.formula.proofs.Blocks.{clauses_families, Same, family_same}
use Rattle.formula.proofs.Counts.{clause_count_lem, word_count_lem}

module _ (I : Instance) (s : Sizes) (starts goals near : List ℕ) (w : Shows I s starts goals near) (g : Edges I) where
  abbrev parts : Given
  parts = held_in s starts goals near

  same : Same parts (given I)
  same =
      record {
        sizes = w.graph.sizes;
        start = w.starts_at;
        goal = w.goals_at;
        near = λ u v p q. ap (λ (near : ℕ → ℕ → Bool). near u v) w.graph.words;
      }

  pub families_shown : clauses I ≡ for 7 (family parts)
  families_shown = clauses_families I g ∙ for_ext 7 _ _ (λ j l. sym (family_same parts (given I) same j))

-- of a whole checked instance: the clauses, the words, and how many they are
module _ (b : List ℕ) (c : Checked) (w : Accepted b c) where
  abbrev J : Instance
  J = instance_of b c

  pub families_held : clauses J ≡ for 7 (family (held c))
  families_held = families_shown J c.sizes c.starts c.goals c.near (shown b c w) (graph b c w)

  pub words_held : words (formula J) ≡ each line (for 7 (family (held c)))
  unfolding words
  words_held = ap (each line) families_held

  pub clause_count_held : length (clauses J) ≡ clause_count c.sizes
  clause_count_held = clause_count_lem J (counted_known b c w) ∙ ap clause_count (sym (sizes_same b c w))

  pub word_count_held : length (words (formula J)) ≡ word_count c.sizes
  word_count_held = word_count_lem J (graph b c w) (counted_known b c w) ∙ ap word_count (sym (sizes_same b c w))
