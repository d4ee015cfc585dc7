-- The words of a block: none is further from 0 than there are variables, and those of D, E and, under rule 1, G are clauses of two literals.
use mathlib.Core.Path.{◌≡◌, refl}
use mathlib.Core.Logic.{◌≢◌, by_cases}
use mathlib.Core.Bool.{Bool}
use mathlib.Core.List.{List, [], ◌∷◌}
use Prim.Native.Nat.{ℕ, zero, suc, ◌+◌, ◌*◌, ◌/◌, ◌<◌}
use native.Mathlib.Decide.{ℕ_discrete}
use native.Mathlib.Omega.{arith}
use borrow.Author.Tests.{eq-eqb, ne_eqb}
use lib.Dec.{T, leb, eqb}
use lib.IntN.{ℤ, pos, nat_abs}
use lib.ListN.{length, get_or}
use Rattle.lists.specs.Loop.{all, each}
use Rattle.lists.proofs.Tests.{and_iff, not_iff, leb_iff, eqb_iff}
use Rattle.lists.proofs.Loops.{all_append, for_all, when_all, one_all}
use Rattle.instance.specs.declared.Sizes.{Sizes}
use Rattle.instance.specs.Ready.{Ready}
use Rattle.formula.specs.Variables.{index, variable_count}
use Rattle.formula.specs.Formula.{Clause, line}
use Rattle.formula.specs.Blocks.{Given, times, blocks_at, block_g, held_in, block, paired}
use Rattle.formula.proofs.Blocks.{blocks_agents, blocks_ends}
use Rattle.formula.proofs.Variables.{index_lt}

module _ (s : Sizes) (starts goals near : List ℕ) (r : Ready s starts goals near) where
  open s use {n, k, m}

  abbrev g : Given
  g = held_in s starts goals near

  abbrev within : ℤ → Bool
  within w = leb (nat_abs w) (variable_count s)

  -- each literal's number is at most N
  most : (t a v : ℕ) → t < suc m → a < k → v < n → index s t a v < variable_count s
  most = index_lt s

  -- of G's block, whose x is an agent or a vertex
  last_literals : (t x : ℕ) → t < m → x < blocks_at s 6 → T (all (all within) (block_g s g.near t x))
  last_literals t x h l =
      by_cases (ℕ_discrete s.rule 2)
      (λ e.
      let i : x < n = omega (arith, blocks_ends s 6 refl e) in
      rw (eq-eqb s.rule 2 e)
      (simp (for_all, when_all, one_all, and_iff, leb_iff) (λ v p o a q b r d.
      (most t a x (omega arith) q i, (most (suc t) a v (omega arith) q p, (most t b v (omega arith) r p, (most (suc t) b x (omega arith) r i, tt)))))))
      (λ d.
      let i : x < k = omega (arith, blocks_agents s 6 (omega arith) (omega arith) (λ _. d)) in
      rw (ne_eqb s.rule 2 d)
      (simp (for_all, when_all, one_all, and_iff, leb_iff) (λ b q o v p. (most t b v (omega arith) q p, (most (suc t) x v (omega arith) i p, tt)))))

  literals : (j t x : ℕ) → t < times s j → x < blocks_at s j → T (all (all within) (block g j t x))
  unfolding block times blocks_at
  literals zero t x h l = simp (one_all, leb_iff) (most 0 x (g.start x) (omega arith) l (r.starts_below x l))
  literals (suc zero) t x h l = simp (when_all, one_all, not_iff, eqb_iff, leb_iff) (λ o. most m x (g.goal x) (omega arith) l (r.goals_below x l o))
  literals (suc (suc zero)) t x h l = simp (for_all, one_all, leb_iff) (λ v p. most t x v h l p)
  literals (suc (suc (suc zero))) t x h l =
      simp (for_all, when_all, one_all, and_iff, leb_iff) (λ v p w q o. (most t x v h l p, (most t x w h l q, tt)))
  literals (suc (suc (suc (suc zero)))) t x h l =
      simp (for_all, when_all, one_all, and_iff, leb_iff) (λ a p b q o. (most t a x h p l, (most t b x h q l, tt)))
  literals (suc (suc (suc (suc (suc zero))))) t x h l =
      simp (for_all, when_all, one_all, and_iff, leb_iff)
      (λ v p. (most t x v (omega arith) l p, (most (suc t) x v (omega arith) l p, λ w q o. most (suc t) x w (omega arith) l q)))
  literals (suc (suc (suc (suc (suc (suc zero)))))) t x h l = last_literals t x h l
  literals (suc (suc (suc (suc (suc (suc (suc j))))))) t x h l = tt

  lines_within : (cs : List Clause) → T (all (all within) cs) → T (all within (each line cs))
  lines_within [] h = tt
  lines_within (c ∷ cs) h =
      let (a, b) = (and_iff (all within c) (all (all within) cs)).0 h in
      (all_append within (line c) (each line cs)).1 ((all_append within c (pos 0 ∷ [])).1 (a, simp (one_all, leb_iff) (omega arith)), lines_within cs b)

  -- no word of a block is further from 0 than there are variables
  pub block_within : (j t x : ℕ) → t < times s j → x < blocks_at s j → T (all within (each line (block g j t x)))
  block_within j t x h l = lines_within (block g j t x) (literals j t x h l)

-- ---- clauses of two literals
abbrev two? : Clause → Bool
two? c = eqb (length c) 2

two_line : (c : Clause) → T (two? c) → (x y : ℤ) × (c ≡ x ∷ y ∷ [])
two_line [] h = absurd h
two_line (x ∷ []) h = absurd h
two_line (x ∷ y ∷ []) h = (x, y, refl)
two_line (x ∷ y ∷ z ∷ c) h = absurd (let e = (eqb_iff (length (x ∷ y ∷ z ∷ c)) 2).0 h in let f : ⊥ = omega arith in f)

lines_length : (cs : List Clause) → T (all two? cs) → length (each line cs) ≡ 3 * length cs
lines_length [] h = refl
lines_length (c ∷ cs) h =
    let (a, b) = (and_iff (two? c) (all two? cs)).0 h in
    let (x, y, e) = two_line c a in
    rw e (omega (arith, lines_length cs b))

lines_end : (cs : List Clause) → T (all two? cs) → (i : ℕ) → i < length cs → get_or (each line cs) (3 * i + 2) (pos 0) ≡ pos 0
lines_end [] h i l = refl
lines_end (c ∷ cs) h zero l = let (x, y, e) = two_line c ((and_iff (two? c) (all two? cs)).0 h).0 in rw e
lines_end (c ∷ cs) h (suc i) l =
    let (a, b) = (and_iff (two? c) (all two? cs)).0 h in
    let (x, y, e) = two_line c a in
    let q : 3 * suc i + 2 ≡ suc (suc (suc (3 * i + 2))) = omega arith in
    rw (e, q) (lines_end cs b i (omega arith))

block_paired : (g : Given) (j t x : ℕ) → (j ≡ 6 → g.sizes.rule ≢ 2) → T (paired j) → T (all two? (block g j t x))
unfolding block
block_paired g zero t x f p = absurd p
block_paired g (suc zero) t x f p = absurd p
block_paired g (suc (suc zero)) t x f p = absurd p
block_paired g (suc (suc (suc zero))) t x f p = simp (for_all, when_all, one_all) (λ v q w l o. tt)
block_paired g (suc (suc (suc (suc zero)))) t x f p = simp (for_all, when_all, one_all) (λ a q b l o. tt)
block_paired g (suc (suc (suc (suc (suc zero))))) t x f p = absurd p
block_paired g (suc (suc (suc (suc (suc (suc zero)))))) t x f p =
    rw (ne_eqb g.sizes.rule 2 (f refl)) (simp (for_all, when_all, one_all) (λ b q o v l. tt))
block_paired g (suc (suc (suc (suc (suc (suc (suc j))))))) t x f p = tt

-- three words a clause, the third of them 0
module _ (g : Given) (j t x : ℕ) (f : j ≡ 6 → g.sizes.rule ≢ 2) (p : T (paired j)) where
  abbrev words : List ℤ
  words = each line (block g j t x)

  count : length words ≡ 3 * length (block g j t x)
  count = lines_length (block g j t x) (block_paired g j t x f p)

  pub pairs_whole : length words ≡ 3 * (length words / 3)
  pairs_whole = omega (arith, count)

  pub pairs_end : (i : ℕ) → i < length words / 3 → get_or words (3 * i + 2) (pos 0) ≡ pos 0
  pairs_end i l = lines_end (block g j t x) (block_paired g j t x f p) i (omega (arith, count))
