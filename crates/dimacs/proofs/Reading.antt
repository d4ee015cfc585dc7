-- A clause's words are written as its line, and a formula's text is a line a clause.
use mathlib.Core.Path.{◌≡◌, refl, sym, ◌∙◌, ap, ap₂}
use mathlib.Core.Bool.{Bool, true, false, cond}
use mathlib.Core.List.{List, [], ◌∷◌, ◌++◌}
use Prim.Native.Nat.{ℕ, zero, suc}
use lib.Dec.{T}
use lib.IntN.{ℤ, pos, negsuc}
use Rattle.lists.specs.Loop.{for, each, all}
use Rattle.lists.proofs.Tests.{and_iff}
use Rattle.lists.proofs.Loops.{all_append, for_all, when_all, one_all, each_append}
use Rattle.instance.specs.Instance.{Instance, following, adjacent, Counted}
use Rattle.formula.specs.Variables.{variable_count}
use Rattle.formula.specs.Formula.{Clause, A, B, C, D, E, F, G, no_following, no_exchange, clauses, formula, line, words}
use Rattle.formula.specs.Counts.{clause_count}
use Rattle.formula.proofs.Counts.{clause_count_lem}
use Rattle.decimals.specs.Decimals.{digits, decimal, signed}
use Rattle.dimacs.specs.Text.{word_text, words_text, clause_text, header_text, formula_text}

-- ---- clauses
-- a literal is not 0
abbrev pub literal? : ℤ → Bool
literal? (pos zero) = false
literal? (pos (suc x)) = true
literal? (negsuc x) = true

word_of : (l : ℤ) → T (literal? l) → word_text l ≡ signed l ++ 32 ∷ []
unfolding word_text
word_of (pos zero) t = absurd t
word_of (pos (suc x)) t = refl
word_of (negsuc x) t = refl

words_of : (c : Clause) → T (all literal? c) → each word_text c ≡ each (λ l. signed l ++ 32 ∷ []) c
words_of [] t = refl
words_of (l ∷ c) t = let (a, b) = (and_iff (literal? l) _).0 t in ap₂ ◌++◌ (word_of l a) (words_of c b)

-- the words of a clause, its literals and then 0, are written as its line
pub clause_line : (c : Clause) → T (all literal? c) → words_text (line c) ≡ clause_text c
unfolding words_text clause_text word_text signed decimal digits
clause_line c t = each_append word_text c (pos 0 ∷ []) ∙ ap (λ (l : List ℕ). l ++ 48 ∷ 10 ∷ []) (words_of c t)

clauses_lines : (cs : List Clause) → T (all (all literal?) cs) → words_text (each line cs) ≡ each clause_text cs
unfolding words_text
clauses_lines [] t = refl
clauses_lines (c ∷ cs) t =
    let (a, b) = (and_iff (all literal? c) _).0 t in
    each_append word_text (line c) (each line cs) ∙ ap₂ ◌++◌ (clause_line c a) (clauses_lines cs b)

-- ---- the formula
module _ (I : Instance) where
  open I use {sizes}
  open sizes use {n, k, e, m}

  literals_A : T (all (all literal?) (A I.sizes I.start))
  unfolding A
  literals_A = simp (for_all, one_all) (λ a l. tt)

  literals_B : T (all (all literal?) (B I.sizes I.goal))
  unfolding B
  literals_B = simp (for_all, when_all, one_all) (λ a l h. tt)

  literals_C : T (all (all literal?) (C I.sizes))
  unfolding C
  literals_C = (for_all (all literal?) (suc m) _).1 (λ t l. simp (for_all, one_all) (λ a q v r. tt))

  literals_D : T (all (all literal?) (D I.sizes))
  unfolding D
  literals_D = (for_all (all literal?) (suc m) _).1 (λ t l. simp (for_all, when_all, one_all) (λ a q v r w u h. tt))

  literals_E : T (all (all literal?) (E I.sizes))
  unfolding E
  literals_E = (for_all (all literal?) (suc m) _).1 (λ t l. simp (for_all, when_all, one_all) (λ v q a r b u h. tt))

  literals_F : T (all (all literal?) (F I.sizes (adjacent I)))
  unfolding F
  literals_F = simp (for_all, one_all, when_all) (λ t l a q v r w u h. tt)

  literals_G : T (all (all literal?) (G I.sizes I.low I.high))
  unfolding G
  literals_G = by_rule_lem (following sizes)
    where
      by_rule_lem : (f : Bool) → T (all (all literal?) (cond f (for m λ t. for e λ j. no_exchange sizes t (I.low j) (I.high j)) (for m λ t. for k λ a. no_following sizes t a)))
      by_rule_lem true = simp (for_all, when_all, one_all) (λ t l j q a r b u h. tt)
      by_rule_lem false = simp (for_all, when_all, one_all) (λ t l a q b r h v u. tt)

  -- no literal of the formula is 0
  pub literals : T (all (all literal?) (clauses I))
  unfolding clauses
  literals =
      simp all_append ((((((literals_A, literals_B), literals_C), literals_D), literals_E), literals_F), literals_G)

  -- the text of the formula's words is a line a clause
  pub formula_lines : words_text (words (formula I)) ≡ each clause_text (clauses I)
  unfolding words
  formula_lines = clauses_lines (clauses I) literals

  -- what the program prints: the header with the closed count, then the text of the words
  pub formula_text_lem : Counted I → formula_text (formula I) ≡ header_text (variable_count sizes) (clause_count sizes) ++ words_text (words (formula I))
  unfolding formula_text
  formula_text_lem w = ap₂ (λ (c : ℕ) (l : List ℕ). header_text (variable_count sizes) c ++ l) (clause_count_lem I w) (sym formula_lines)
