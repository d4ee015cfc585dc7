-- The size of any formula, from its counts; and the counts of the pruned formula, by the table.
use mathlib.Core.Path.{◌≡◌, refl, sym, ◌∙◌, ap, ap₂}
use mathlib.Core.Logic.{◌⊎◌, by_cases, ⊎_elim}
use mathlib.Core.List.{List, ◌∷◌}
use Prim.Native.Nat.{ℕ, ◌+◌, ◌*◌, ◌<◌, ◌≤◌, min}
use native.Mathlib.Decide.{dec_lt}
use native.Mathlib.Numerals.{add-one}
use Rattle.std.proofs.Common.{add-zero}
use native.Mathlib.Omega.{arith}
use lib.ListN.{length, length-drop, drop, get_or}
use lib.Seq.{get_or-drop, drop-drop}
use Rattle.lists.specs.Loop.{sum}
use Rattle.std.specs.Prelude.{Ok, Err}
use Rattle.answers.specs.declared.Refusal.{Refusal}
use Rattle.answers.specs.Answers.{accept, with_clauses}
use Rattle.answers.specs.Returned.{refused, size_of}
use Rattle.answers.proofs.Returned.{refusal_numbered, size_refused}
use Rattle.instance.specs.declared.Sizes.{Sizes}
use Rattle.instance.specs.declared.Checked.{Checked}
use Rattle.instance.specs.declared.problem.Problem.{Problem}
use Rattle.instance.specs.Problem.{checked_of}
use Rattle.instance.specs.Instance.{Instance, instance}
use Rattle.instance.specs.Questions.{instance_questions, instance_answer, instance_checked}
use Rattle.instance.specs.Accepted.{Accepted, instance_of}
use Rattle.instance.proofs.Accepted.{sizes_same, graph, counted_known, limits_known, ready, shown}
use Rattle.instance.proofs.Instance.{numbered_instance}
use Rattle.instance.proofs.Call.{horizon}
use Rattle.distances.specs.Distance.{unreachable, distance}
use Rattle.distances.specs.Table.{cell, TableOf, by_table, goal_by}
use Rattle.distances.proofs.Table.{table_distance}
use Rattle.distances.proofs.Goals.{to_goal_ext, goal_by_lem}
use Rattle.formula.specs.Formula.{Formula, words}
use Rattle.formula.specs.Counts.{clause_count, word_count}
use Rattle.formula.specs.Pruned.{count_h, from_start, from_goal, pruned, pruned_clauses, pruned_words}
use Rattle.formula.proofs.Pruned.{count_H_ext, pruned_clause_count, pruned_word_count}
use Rattle.calls.specs.Calls.{size_answer}
use Rattle.calls.proofs.Size.{size_refuses, size_accepts}
use Rattle.formula_size.specs.ByTable.{count_by_table}

-- the element at v, and what is left after it
dropped_next : (xs rest : List ℕ) (v x : ℕ) → drop v xs ≡ x ∷ rest → (x ≡ get_or xs v 0) × (rest ≡ drop (v + 1) xs)
dropped_next xs rest v x e = (
  ap (λ (l : List ℕ). get_or l 0 0) (sym e) ∙ get_or-drop v xs 0 0 ∙ ap (λ (i : ℕ). get_or xs i 0) (add-zero v),
  ap (drop 1) (sym e) ∙ drop-drop 1 v xs,
)

-- v of n vertices are passed, by two iterators that have a and b left; so many times are too far for them
pub record Passing (n times : ℕ) (from to : List ℕ) (v left : ℕ) (a b : List ℕ) (count : ℕ) : Type 0 where
  pub all : v + left ≡ n
  pub from_left : a ≡ drop v from
  pub to_left : b ≡ drop v to
  pub same : count ≡ sum v (λ u. min times (get_or from u 0 + get_or to u 0))
  pub most : count ≤ v * 33

module _ {n times : ℕ} {from to : List ℕ} {v left : ℕ} {a b : List ℕ} {count : ℕ} (w : Passing n times from to v left a b count) where
  pub passing_next : (x y rest far : ℕ) (c d : List ℕ) → a ≡ x ∷ c → b ≡ y ∷ d → rest + 1 ≡ left → far ≡ min times (x + y) → far ≤ 33
      → Passing n times from to (v + 1) rest c d (count + far)
  passing_next x y rest far c d p q r e l =
      let f = dropped_next from c v x (sym w.from_left ∙ p) in
      let g = dropped_next to d v y (sym w.to_left ∙ q) in
      record {
        all = omega (arith, w.all);
        from_left = f.1;
        to_left = g.1;
        same = rw (add-one v) (ap₂ ◌+◌ w.same (e ∙ ap₂ (λ (i j : ℕ). min times (i + j)) f.0 g.0));
        most = omega (arith, w.most);
      }

  pub passing_done : n ≤ length from → n ≤ length to → (0 < left → (length a ≡ 0) ⊎ (length b ≡ 0)) → v ≡ n
  passing_done p q h =
      by_cases (dec_lt 0 left)
      (λ l. ⊎_elim (λ z. omega (arith, w.all, ap length w.from_left, length-drop v from)) (λ z. omega (arith, w.all, ap length w.to_left, length-drop v to)) (h l))
      (λ l. omega (arith, w.all))

-- what the instance check returns is the size call's refusal e, or the problem p, whose formula has x words and y clauses
module _ (f : Instance → Formula) (b : List ℕ) (m rule : ℕ) where
  pub refuses : (e : Refusal) → refused e ≡ instance_answer b m rule → size_of (Err e) ≡ size_answer f b m rule
  unfolding size_answer instance_answer
  refuses e h =
      size_refused e 0
      ∙ size_refuses (instance_questions b m rule) (numbered_instance b m rule) (f (instance b m rule)) (refused e) h (refusal_numbered e)

  pub accepts : (p : Problem) → accept 0 ≡ instance_answer b m rule → checked_of p ≡ instance_checked b m rule → (x y : ℕ)
      → length (words (f (instance_of b (checked_of p)))) ≡ x → length (f (instance_of b (checked_of p))).clauses ≡ y
      → size_of (Ok (record { words = x; clauses = y })) ≡ size_answer f b m rule
  unfolding size_answer instance_answer with_clauses
  accepts p ea ec x y ex ey =
      let same = sym (horizon b m rule (accept 0) (checked_of p) ea ec refl) in
      size_accepts (instance_questions b m rule) (numbered_instance b m rule) (f (instance b m rule)) (accept 0) ea refl x y
      (ap (λ (I : Instance). length (words (f I))) same ∙ ex) (ap (λ (I : Instance). length (f I).clauses) same ∙ ey)

module _ (b : List ℕ) (c : Checked) (w : Accepted b c) (table : List (List ℕ)) (t : TableOf c.sizes.n c.near table) where
  abbrev I : Instance
  I = instance_of b c

  entry : (v u : ℕ) → v < c.sizes.n → u < c.sizes.n → cell table v u ≡ distance I v u
  entry = table_distance I c.sizes c.near (shown b c w).graph table t

  pub from_start_lem : (a : ℕ) → a < c.sizes.k → (v : ℕ) → v < c.sizes.n → by_table table c.starts a v ≡ from_start I a v
  from_start_lem a l v r = entry _ v ((ready b c w).starts_below a l) r ∙ ap (λ (x : ℕ). distance I x v) ((shown b c w).starts_at a l)

  pub from_goal_lem : (a : ℕ) → a < c.sizes.k → (v : ℕ) → v < c.sizes.n → goal_by table c.goals a v ≡ from_goal I a v
  from_goal_lem a l v r =
      goal_by_lem table c.goals a v
      ∙ to_goal_ext (get_or c.goals a 0) (I.goal a) _ _ ((shown b c w).goals_at a l) (λ g.
      entry _ v ((ready b c w).goals_below a l g) r ∙ ap (λ (x : ℕ). distance I x v) ((shown b c w).goals_at a l))

  table_count : count_by_table c table ≡ count_h I.sizes (from_start I) (from_goal I)
  table_count =
      count_H_ext c.sizes (by_table table c.starts) (goal_by table c.goals) (from_start I) (from_goal I) from_start_lem from_goal_lem
      ∙ ap (λ (s : Sizes). count_h s (from_start I) (from_goal I)) (sizes_same b c w)

  short : I.sizes.m < unreachable
  short = let e = ap (λ (s : Sizes). s.m) (sizes_same b c w) in omega (arith, (limits_known b c w).m_most)

  -- from what the code has counted
  module _ (more : ℕ) (e : more ≡ count_by_table c table) where
    pub pruned_word_count_held : length (words (pruned I)) ≡ word_count c.sizes + 2 * more
    unfolding pruned_words
    pruned_word_count_held =
        pruned_word_count I short (graph b c w) (counted_known b c w) ∙ ap₂ (λ (x y : ℕ). x + 2 * y) (ap word_count (sym (sizes_same b c w))) (sym table_count ∙ sym e)

    pub pruned_clause_count_held : length (pruned I).clauses ≡ clause_count c.sizes + more
    unfolding pruned_clauses
    pruned_clause_count_held = pruned_clause_count I short (counted_known b c w) ∙ ap₂ ◌+◌ (ap clause_count (sym (sizes_same b c w))) (sym table_count ∙ sym e)
