-- The counts of clauses and words, worked out from the sizes, by family and in all.
use Rattle.std.specs.Prelude.{cond, ℕ, suc, ◌+◌, ◌*◌, ◌-◌}
use Rattle.lists.specs.Loop.{pairs}
use Rattle.instance.specs.declared.Sizes.{Sizes}
use Rattle.instance.specs.Instance.{following}

-- one number for each family, A to G
pub record Families : Type 0 where
  pub A : ℕ
  pub B : ℕ
  pub C : ℕ
  pub D : ℕ
  pub E : ℕ
  pub F : ℕ
  pub G : ℕ

abbrev pub total : Families → ℕ
total c = c.A + c.B + c.C + c.D + c.E + c.F + c.G

module _ (s : Sizes) where
  open s use {n, k, e, m, g}

  abbrev pub clauses_by : Families
  clauses_by =
      record {
        A = k;
        B = g;
        C = suc m * k;
        D = suc m * k * pairs n;
        E = suc m * n * pairs k;
        F = m * k * n;
        G = cond (following s) (m * e * (k * (k - 1))) (m * k * (k - 1) * n);
      }

  -- zeros included
  abbrev pub words_by : Families
  words_by =
      record {
        A = 2 * k;
        B = 2 * g;
        C = suc m * k * (n + 1);
        D = 3 * clauses_by.D;
        E = 3 * clauses_by.E;
        F = m * k * (3 * n + 2 * e);
        G = cond (following s) 5 3 * clauses_by.G;
      }

  unfoldable pub clause_count : ℕ
  clause_count = total clauses_by

  unfoldable pub word_count : ℕ
  word_count = total words_by

  -- the words of the largest formula under the rule
  abbrev pub most_words : ℕ
  most_words = cond (following s) 83_565_136 7_625_296

-- its sizes: 64 vertices, 16 agents, 2,016 edges, horizon 32, every agent with a goal
abbrev pub largest_sizes : ℕ → Sizes
largest_sizes rule = record { n = 64; k = 16; e = 2016; m = 32; rule = rule; g = 16 }
