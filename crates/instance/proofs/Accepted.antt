-- From the instance check's answer to what the inner functions require, and what they then know.
use mathlib.Core.Path.{◌≡◌, sym, ◌∙◌, ap, ap₂, subst}
use mathlib.Core.List.{List}
use mathlib.Core.Bool.{Bool}
use Prim.Native.Nat.{ℕ, ◌+◌, ◌*◌, ◌^◌, ◌≤◌, ◌<◌}
use native.Mathlib.Omega.{arith}
use lib.ListN.{length, get_or, get_or-append}
use Rattle.lists.specs.Slice.{filled}
use Rattle.lists.proofs.Slices.{part_length, part_get_or}
use Rattle.answers.proofs.Laws.{by_number_accepted}
use Rattle.instance.specs.declared.Sizes.{Sizes}
use Rattle.instance.specs.declared.Checked.{Checked}
use Rattle.instance.specs.Instance.{Instance, GoalBelow, goal_count, instance, checked, unchecked, of_agents, for_agents, vertices, agents, edges, starts, goals, adjacent, neighbour_words, edges_before, joined, Edges, Endpoints, Counted}
use Rattle.instance.specs.Limits.{Limits}
use Rattle.instance.specs.Ready.{Ready}
use Rattle.instance.specs.Shows.{Shows}
use Rattle.instance.specs.Questions.{instance_answer, instance_checked}
use Rattle.instance.specs.Accepted.{Accepted, instance_of}
use Rattle.instance.proofs.Goals.{goal_count_ext}
use Rattle.instance.proofs.Edges.{edges_counted}
use Rattle.instance.proofs.Instance.{instance_iff, goals_counted, endpoints, edges_known, length_known, limits, agents_below}
use Rattle.instance.proofs.Neighbours.{word_below, joined_adjacent}

-- the instance check's answer and checked instance, where the number is 0
module _ (b : List ℕ) (m rule : ℕ) (c : Checked) (ec : c ≡ instance_checked b m rule) (e : (instance_answer b m rule).number ≡ 0) where
  is_checked : c ≡ checked b m rule
  unfolding instance_checked
  is_checked = ec ∙ by_number_accepted (instance_answer b m rule).number (checked b m rule) unchecked e

  pub horizon_of : c.sizes.m ≡ m
  unfolding checked instance
  horizon_of = ap (λ (x : Checked). x.sizes.m) is_checked

  pub rule_of : c.sizes.rule ≡ rule
  unfolding checked instance
  rule_of = ap (λ (x : Checked). x.sizes.rule) is_checked

  pub accepted : Accepted b c
  accepted =
      record {
        yes = rw (horizon_of, rule_of) ((instance_iff b m rule).0 e);
        same = is_checked ∙ ap₂ (checked b) (sym horizon_of) (sym rule_of);
      }

-- k bytes of b in an array for 16 agents
module _ (b : List ℕ) (offset : ℕ) (h : agents b ≤ 16) (l : offset + agents b ≤ length b) where
  pub for_agents_at : (a : ℕ) → a < agents b → get_or (for_agents b offset) a 0 ≡ get_or b (offset + a) 0
  unfolding for_agents filled
  for_agents_at a q =
      get_or-append (of_agents b offset) _ 0 a (omega (arith, part_length b offset (agents b) l)) ∙ part_get_or b offset (agents b) a 0 q

-- parts that are ready show an instance whose agents with a goal are counted
pub shown_counted : (I : Instance) (s : Sizes) (starts goals near : List ℕ) → Shows I s starts goals near → Ready s starts goals near → Counted I
shown_counted I s starts goals near g r =
    sym (ap (λ (z : Sizes). z.g) g.graph.sizes)
    ∙ r.counted
    ∙ goal_count_ext s.k _ I.goal g.goals_at
    ∙ ap (λ (z : Sizes). goal_count z.k I.goal) g.graph.sizes

module _ (b : List ℕ) (c : Checked) (w : Accepted b c) where
  abbrev I : Instance
  I = instance_of b c

  -- the sizes are those of the bytes
  pub sizes_same : c.sizes ≡ I.sizes
  unfolding checked
  sizes_same = ap (λ (x : Checked). x.sizes) w.same

  pub n_same : c.sizes.n ≡ vertices b
  unfolding instance
  n_same = ap (λ (x : Sizes). x.n) sizes_same

  pub k_same : c.sizes.k ≡ agents b
  unfolding instance
  k_same = ap (λ (x : Sizes). x.k) sizes_same

  pub e_same : c.sizes.e ≡ edges b
  unfolding instance
  e_same = ap (λ (x : Sizes). x.e) sizes_same

  pub limits_known : Limits c.sizes
  limits_known = subst Limits (sym sizes_same) (limits b c.sizes.m c.sizes.rule w.yes)

  pub agents_fit : c.sizes.k ≤ c.sizes.n
  agents_fit = omega (arith, n_same, k_same, agents_below b c.sizes.m c.sizes.rule w.yes)

  pub long : length b ≡ 4 + 2 * c.sizes.e + 2 * c.sizes.k
  long = omega (arith, length_known b c.sizes.m c.sizes.rule w.yes, k_same, e_same)

  pub graph : Edges I
  graph = edges_known b c.sizes.m c.sizes.rule w.yes

  pub endpoints_known : Endpoints I
  endpoints_known = endpoints b c.sizes.m c.sizes.rule w.yes

  few : agents b ≤ 16
  few = omega (arith, k_same, limits_known.k_most)

  -- the arrays hold the starts and the goals
  start_at : (a : ℕ) → a < c.sizes.k → get_or c.starts a 0 ≡ I.start a
  unfolding checked instance
  start_at a q =
      ap (λ (x : Checked). get_or x.starts a 0) w.same
      ∙ for_agents_at b (starts b) few (omega (arith, length_known b c.sizes.m c.sizes.rule w.yes)) a (omega (arith, k_same))

  goal_at : (a : ℕ) → a < c.sizes.k → get_or c.goals a 0 ≡ I.goal a
  unfolding checked instance
  goal_at a q =
      ap (λ (x : Checked). get_or x.goals a 0) w.same
      ∙ for_agents_at b (goals b) few (omega (arith, length_known b c.sizes.m c.sizes.rule w.yes)) a (omega (arith, k_same))

  starts_inside_lem : (a : ℕ) → a < c.sizes.k → get_or c.starts a 0 < c.sizes.n
  unfolding instance
  starts_inside_lem a l =
      rw (start_at a l, sizes_same) (endpoints_known.starts_inside a (subst (λ (s : Sizes). a < s.k) sizes_same l))

  goals_inside_lem : (a : ℕ) → a < c.sizes.k → GoalBelow c.sizes.n (get_or c.goals a 0)
  unfolding instance
  goals_inside_lem a l =
      rw (goal_at a l, sizes_same) (endpoints_known.goals_inside a (subst (λ (s : Sizes). a < s.k) sizes_same l))

  -- those that have a goal are counted
  pub counted_known : Counted I
  counted_known = goals_counted b c.sizes.m c.sizes.rule

  counted_held : c.sizes.g ≡ goal_count c.sizes.k (λ a. get_or c.goals a 0)
  counted_held =
      ap (λ (s : Sizes). s.g) sizes_same
      ∙ counted_known
      ∙ ap (λ (s : Sizes). goal_count s.k I.goal) (sym sizes_same)
      ∙ sym (goal_count_ext c.sizes.k _ I.goal goal_at)

  -- the words mean the graph
  near_same : c.near ≡ neighbour_words I
  unfolding checked
  near_same = ap (λ (x : Checked). x.near) w.same

  near_known : joined c.near ≡ adjacent I
  near_known =
      ap joined near_same ∙ joined_adjacent I graph (subst (λ (s : Sizes). s.n ≤ 64) sizes_same limits_known.n_most)

  edged_held : c.sizes.e ≡ edges_before (joined c.near) c.sizes.n c.sizes.n 0
  edged_held =
      ap (λ (s : Sizes). s.e) sizes_same
      ∙ edges_counted I graph
      ∙ ap₂ (λ (n : ℕ) (near : ℕ → ℕ → Bool). edges_before near n n 0) (ap (λ (s : Sizes). s.n) (sym sizes_same)) (sym near_known)

  -- its parts are those of the instance
  pub shown : Shows I c.sizes c.starts c.goals c.near
  shown = record { graph = record { sizes = sizes_same; words = near_known }; starts_at = start_at; goals_at = goal_at }

  -- what the functions require that are lent them
  pub ready : Ready c.sizes c.starts c.goals c.near
  ready =
      record {
        limits = limits_known;
        starts_below = starts_inside_lem;
        goals_below = goals_inside_lem;
        counted = counted_held;
        edged = edged_held;
        words_below = λ v l. rw near_same (subst (λ (s : Sizes). get_or (neighbour_words I) v 0 < 2 ^ s.n) (sym sizes_same) (word_below I v));
      }
