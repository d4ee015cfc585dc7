-- What is claimed of the calls with a ceiling on the cost: which valuations and plans they accept, what B and the outputs of the counting
-- tree mean, when 32 and 33 are answered, and what a ceiling adds. `Size`, `Reader`, `Refusals` and `Rule` say of these calls too what
-- they say of the others.
use Rattle.std.specs.Prelude.{◌≡◌, ◌↔◌, ◌≢◌, List, [], ◌∷◌, ◌++◌, Bool, ℕ, ◌+◌, ◌*◌, ◌-◌, ◌/◌, ◌≤◌, ◌<◌, length, take, drop, ℤ, pos}
use Rattle.lists.specs.Loop.{each}
use Rattle.answers.specs.declared.Answer.{Answer}
use Rattle.answers.specs.Answers.{accept, refuse, with_clauses}
use Rattle.instance.specs.Instance.{Instance, instance}
use Rattle.instance.specs.Questions.{instance_answer}
use Rattle.formula.specs.Formula.{Formula, formula, line, words}
use Rattle.formula.specs.Counts.{most_words, largest_sizes}
use Rattle.plan.specs.Plan.{plan_bytes, plan_row, rest_time, cost}
use Rattle.valuation.specs.Valuation.{true?}
use Rattle.valuation.specs.Satisfying.{True, Valuation, Satisfies, Names}
use Rattle.ceiling.specs.Tree.{Tree, input, node, tree_over, inputs, outputs, variables, before, on, off, count}
use Rattle.ceiling.specs.Ceiling.{busy_number, root, limit, added_clauses, ceiling_variables, ceiling_count, ceiling_words, under_ceiling}
use Rattle.calls.specs.Calls.{check_answer}
use Rattle.calls.specs.Ceiling.{ceiling_answer, ceiling_size_answer, ceiling_write_answer, ceiling_write_slice, ceiling_decode_answer, ceiling_decode_slice, ceiling_encode_answer, ceiling_encode_slice, ceiling_read_answer}
use Rattle.claims.specs.Correspondence.{Accepts}
use Rattle.claims.specs.Examples.{pair_with, pair, path_two, neg, sevens, pair_words}

-- Under the entries, where b says which inputs are true: output i of each node is true exactly where at least i of its inputs are. The
-- tree's inputs stand after x, its own variables after y.
abbrev pub Counts : List ℤ → (ℕ → Bool) → ℕ → Tree → ℕ → ℕ → Type 0
Counts entries b c input x y = Unit {0}
Counts entries b c (node l r) x y =
    Counts entries b c l x y
    × Counts entries b c r (x + inputs l) (y + variables c l)
    × ((i : ℕ) → 0 < i → i ≤ outputs c (node l r) → True entries (on (before c (node l r) x y + i)) ↔ (i ≤ count b x (inputs (node l r))))

-- for the instance bytes b, the horizon m, the rule and the ceiling c
module _ (b : List ℕ) (m rule c : ℕ) where
  abbrev I : Instance
  I = instance b m rule

  -- the formula with the ceiling
  abbrev limited : Formula
  limited = under_ceiling c I

  abbrev pub bytes : ℕ
  bytes = plan_bytes I.sizes

  -- all variables: N and those added
  abbrev pub all : ℕ
  all = limited.variables

  -- the plan handed back, and the valuation written
  abbrev pub handed_back : List ℤ → List ℕ → List ℕ
  handed_back entries s = take bytes (ceiling_decode_slice b m rule c entries s)

  abbrev pub written : List ℕ → List ℤ → List ℤ
  written p z = take all (ceiling_encode_slice b m rule c p z)

  -- a plan passes the check and costs at most c
  abbrev pub Within : List ℕ → Type 0
  Within p = Accepts (check_answer b m rule p) × (cost I.sizes p ≤ c)

  pub record Ceiling : Type 0 where
    -- the decoder accepts exactly the valuations of all variables that satisfy every clause
    pub decoder : (entries : List ℤ) (s : List ℕ) → bytes ≤ length s
        → Accepts (ceiling_decode_answer b m rule c entries (length s)) ↔ (Valuation all entries × Satisfies limited entries)
    -- the plan handed back is the one that the valuation names; it passes the check and costs at most c
    pub decoded : (entries : List ℤ) (s : List ℕ) → bytes ≤ length s → Accepts (ceiling_decode_answer b m rule c entries (length s))
        → Names I.sizes entries (handed_back entries s) × Within (handed_back entries s)
    -- its count is that without a ceiling
    pub decoded_count : (entries : List ℤ) (room : ℕ) → Accepts (ceiling_decode_answer b m rule c entries room)
        → (ceiling_decode_answer b m rule c entries room).second ≡ (m + 1) * I.sizes.k
    -- the encoder accepts exactly the plans that pass the check and cost at most c
    pub encoder : (p : List ℕ) (z : List ℤ) → all ≤ length z
        → Accepts (ceiling_encode_answer b m rule c p (length z)) ↔ Within p
    -- what it writes is a satisfying valuation that names that plan, and the decoder turns it back into the same bytes
    pub encoded : (p : List ℕ) (z : List ℤ) → all ≤ length z → Accepts (ceiling_encode_answer b m rule c p (length z))
        → Valuation all (written p z) × Satisfies limited (written p z) × Names I.sizes (written p z) p
        × ((s : List ℕ) → bytes ≤ length s
        → Accepts (ceiling_decode_answer b m rule c (written p z) (length s)) × (handed_back (written p z) s ≡ p))
    -- in it B(t,a) is true exactly while agent a is not yet at rest, and each output says how many of its node's inputs are true
    pub busy : (p : List ℕ) (z : List ℤ) → all ≤ length z → Accepts (ceiling_encode_answer b m rule c p (length z))
        → (t a : ℕ) → t < I.sizes.m → a < I.sizes.k
        → True (written p z) (on (busy_number I.sizes t a)) ↔ (t < rest_time I.sizes.m (plan_row I.sizes p) a)
    pub counted : (p : List ℕ) (z : List ℤ) → all ≤ length z → Accepts (ceiling_encode_answer b m rule c p (length z))
        → Counts (written p z) (λ x. true? (written p z) (on x)) c (root I.sizes) (formula I).variables ((formula I).variables + I.sizes.m * I.sizes.k)
    pub encoded_count : (p : List ℕ) (room : ℕ) → Accepts (ceiling_encode_answer b m rule c p room) → (ceiling_encode_answer b m rule c p room).second ≡ all
    pub read_count : (text : List ℕ) (room : ℕ) → Accepts (ceiling_read_answer b m rule c text room) → (ceiling_read_answer b m rule c text room).second ≡ all
    -- 14 and 15, 13 and 16 come before what is asked of entries, plan and text
    pub entries14 : (entries : List ℤ) (room : ℕ) → length entries ≢ all → ceiling_decode_answer b m rule c entries room ≡ refuse 14 (length entries)
    pub room15 : (entries : List ℤ) (room : ℕ) → length entries ≡ all → room < bytes → ceiling_decode_answer b m rule c entries room ≡ refuse 15 bytes
    pub bytes13 : (p : List ℕ) (room : ℕ) → length p ≢ bytes → ceiling_encode_answer b m rule c p room ≡ refuse 13 (length p)
    pub room16 : (p : List ℕ) (room : ℕ) → length p ≡ bytes → room < all → ceiling_encode_answer b m rule c p room ≡ refuse 16 all
    pub text16 : (text : List ℕ) (room : ℕ) → room < all → ceiling_read_answer b m rule c text room ≡ refuse 16 all
    -- a plan that the check refuses it refuses alike; one that passes and costs more gets 33, and its cost
    pub alike : (p : List ℕ) (z : List ℤ) → all ≤ length z → (check_answer b m rule p).number ≢ 0
        → ceiling_encode_answer b m rule c p (length z) ≡ check_answer b m rule p
    pub costly : (p : List ℕ) (z : List ℤ) → all ≤ length z → Accepts (check_answer b m rule p) → c < cost I.sizes p
        → ceiling_encode_answer b m rule c p (length z) ≡ refuse 33 (cost I.sizes p)
    -- some valuation satisfies the formula exactly when some plan passes the check and costs at most c
    pub satisfiable : ((entries : List ℤ) × Valuation all entries × Satisfies limited entries) ↔ ((p : List ℕ) × Within p)
    -- what is added stands after G; where output c + 1 of the root is forbidden, it is the last variable, and this the last clause; where
    -- there are no more than c inputs, nothing is forbidden
    pub after : words limited ≡ words (formula I) ++ each line (added_clauses I.sizes c)
    pub last : c < I.sizes.m * I.sizes.k → drop (ceiling_count I.sizes c - 1) limited.clauses ≡ (off all ∷ []) ∷ []
    pub unlimited : I.sizes.m * I.sizes.k ≤ c → limit I.sizes c ≡ []
    -- clauses and words as counts
    pub clause_total : length limited.clauses ≡ ceiling_count I.sizes c
    pub word_total : length (words limited) ≡ ceiling_words I.sizes c
    -- no formula has more variables, clauses and words than that of the largest sizes with the ceiling 128
    pub most : all ≤ 38_275
    pub most_clauses : length limited.clauses ≤ 16_953_636
    pub most_words : length (words limited) ≤ most_words I.sizes + 473_308

-- every call that is given a ceiling answers r, whatever else it is given; the size has no clauses
pub record Refused (r : Answer) (b : List ℕ) (m rule c : ℕ) : Type 0 where
  pub size : ceiling_size_answer b m rule c ≡ with_clauses r 0
  pub writer : (room : ℕ) → ceiling_write_answer b m rule c room ≡ r
  pub decoder : (entries : List ℤ) (room : ℕ) → ceiling_decode_answer b m rule c entries room ≡ r
  pub encoder : (p : List ℕ) (room : ℕ) → ceiling_encode_answer b m rule c p room ≡ r
  pub reader : (text : List ℕ) (room : ℕ) → ceiling_read_answer b m rule c text room ≡ r

-- the path's plan, which costs 3
abbrev pub on_path : List ℕ
on_path = 0 ∷ 1 ∷ 0 ∷ 2 ∷ 1 ∷ 2 ∷ []

-- Worked out by hand. What is added: for the pair at horizon 1 with ceiling 0, where its one B is its own output; at horizon 2 with ceiling
-- 0; at horizon 3 with ceiling 1, where the left half of the three B is one, and with ceiling 3, where nothing is forbidden; for two agents
-- on the path at horizon 2 with ceiling 1. Sizes. And what the calls answer and leave.
pub record Worked : Type 0 where
  pub one : added_clauses (instance pair 1 1).sizes 0 ≡ (off 1 ∷ on 3 ∷ on 5 ∷ []) ∷ (off 2 ∷ on 4 ∷ on 5 ∷ []) ∷ (off 5 ∷ []) ∷ []
  pub two : added_clauses (instance pair 2 1).sizes 0
      ≡ (off 1 ∷ on 3 ∷ on 7 ∷ []) ∷ (off 2 ∷ on 4 ∷ on 7 ∷ []) ∷ (off 3 ∷ on 5 ∷ on 8 ∷ []) ∷ (off 4 ∷ on 6 ∷ on 8 ∷ []) ∷
      (off 8 ∷ on 7 ∷ []) ∷ (off 8 ∷ on 9 ∷ []) ∷ (off 7 ∷ on 9 ∷ []) ∷ (off 7 ∷ off 8 ∷ on 9 ∷ []) ∷ (off 9 ∷ []) ∷ []
  pub halves : added_clauses (instance pair 3 1).sizes 1
      ≡ (off 1 ∷ on 3 ∷ on 9 ∷ []) ∷ (off 2 ∷ on 4 ∷ on 9 ∷ []) ∷ (off 3 ∷ on 5 ∷ on 10 ∷ []) ∷ (off 4 ∷ on 6 ∷ on 10 ∷ []) ∷
      (off 5 ∷ on 7 ∷ on 11 ∷ []) ∷ (off 6 ∷ on 8 ∷ on 11 ∷ []) ∷ (off 10 ∷ on 9 ∷ []) ∷ (off 11 ∷ on 10 ∷ []) ∷
      (off 11 ∷ on 12 ∷ []) ∷ (off 10 ∷ on 12 ∷ []) ∷ (off 10 ∷ off 11 ∷ on 13 ∷ []) ∷ (off 12 ∷ on 14 ∷ []) ∷ (off 13 ∷ on 15 ∷ []) ∷
      (off 9 ∷ on 14 ∷ []) ∷ (off 9 ∷ off 12 ∷ on 15 ∷ []) ∷ (off 9 ∷ off 13 ∷ on 15 ∷ []) ∷ (off 15 ∷ []) ∷ []
  pub loose : added_clauses (instance pair 3 1).sizes 3
      ≡ (off 1 ∷ on 3 ∷ on 9 ∷ []) ∷ (off 2 ∷ on 4 ∷ on 9 ∷ []) ∷ (off 3 ∷ on 5 ∷ on 10 ∷ []) ∷ (off 4 ∷ on 6 ∷ on 10 ∷ []) ∷
      (off 5 ∷ on 7 ∷ on 11 ∷ []) ∷ (off 6 ∷ on 8 ∷ on 11 ∷ []) ∷ (off 10 ∷ on 9 ∷ []) ∷ (off 11 ∷ on 10 ∷ []) ∷
      (off 11 ∷ on 12 ∷ []) ∷ (off 10 ∷ on 12 ∷ []) ∷ (off 10 ∷ off 11 ∷ on 13 ∷ []) ∷ (off 12 ∷ on 14 ∷ []) ∷ (off 13 ∷ on 15 ∷ []) ∷
      (off 9 ∷ on 14 ∷ []) ∷ (off 9 ∷ off 12 ∷ on 15 ∷ []) ∷ (off 9 ∷ off 13 ∷ on 16 ∷ []) ∷ []
  pub agents : added_clauses (instance (path_two 0 1 1 2) 2 1).sizes 1
      ≡ (off 1 ∷ on 4 ∷ on 19 ∷ []) ∷ (off 2 ∷ on 5 ∷ on 19 ∷ []) ∷ (off 3 ∷ on 6 ∷ on 19 ∷ []) ∷ (off 10 ∷ on 13 ∷ on 20 ∷ []) ∷
      (off 11 ∷ on 14 ∷ on 20 ∷ []) ∷ (off 12 ∷ on 15 ∷ on 20 ∷ []) ∷ (off 4 ∷ on 7 ∷ on 21 ∷ []) ∷ (off 5 ∷ on 8 ∷ on 21 ∷ []) ∷
      (off 6 ∷ on 9 ∷ on 21 ∷ []) ∷ (off 13 ∷ on 16 ∷ on 22 ∷ []) ∷ (off 14 ∷ on 17 ∷ on 22 ∷ []) ∷ (off 15 ∷ on 18 ∷ on 22 ∷ []) ∷
      (off 21 ∷ on 19 ∷ []) ∷ (off 22 ∷ on 20 ∷ []) ∷ (off 20 ∷ on 23 ∷ []) ∷ (off 19 ∷ on 23 ∷ []) ∷ (off 19 ∷ off 20 ∷ on 24 ∷ []) ∷
      (off 22 ∷ on 25 ∷ []) ∷ (off 21 ∷ on 25 ∷ []) ∷ (off 21 ∷ off 22 ∷ on 26 ∷ []) ∷ (off 25 ∷ on 27 ∷ []) ∷ (off 26 ∷ on 28 ∷ []) ∷
      (off 23 ∷ on 27 ∷ []) ∷ (off 23 ∷ off 25 ∷ on 28 ∷ []) ∷ (off 23 ∷ off 26 ∷ on 28 ∷ []) ∷ (off 24 ∷ on 28 ∷ []) ∷
      (off 24 ∷ off 25 ∷ on 28 ∷ []) ∷ (off 24 ∷ off 26 ∷ on 28 ∷ []) ∷ (off 28 ∷ []) ∷ []
  pub sizes : (ceiling_size_answer pair 3 1 1 ≡ record { number = 0; second = 111; clauses = 33 })
      × (ceiling_size_answer pair 3 1 3 ≡ record { number = 0; second = 109; clauses = 32 })
      × (ceiling_size_answer (path_two 0 1 1 2) 2 1 1 ≡ record { number = 0; second = 305; clauses = 90 })
      × (ceiling_size_answer (path_two 0 1 1 2) 2 2 1 ≡ record { number = 0; second = 309; clauses = 86 })
  pub writes : (ceiling_write_answer pair 1 1 0 33 ≡ refuse 12 34)
      × (ceiling_write_slice pair 1 1 0 (sevens 35) ≡ pair_words ++ (neg 1 ∷ pos 3 ∷ pos 5 ∷ pos 0 ∷ neg 2 ∷ pos 4 ∷ pos 5 ∷ pos 0 ∷ neg 5 ∷ pos 0 ∷ pos 7 ∷ []))
  pub encodes : (ceiling_encode_answer (path_two 0 1 1 2) 2 1 3 on_path 31 ≡ accept 30)
      × (ceiling_encode_slice (path_two 0 1 1 2) 2 1 3 on_path (sevens 31)
      ≡ on 1 ∷ off 2 ∷ off 3 ∷ on 4 ∷ off 5 ∷ off 6 ∷ off 7 ∷ on 8 ∷ off 9 ∷ off 10 ∷ on 11 ∷ off 12 ∷ off 13 ∷ off 14 ∷ on 15 ∷ off 16 ∷ off 17 ∷ on 18 ∷ on 19 ∷ on 20 ∷ on 21 ∷ off 22 ∷ on 23 ∷ on 24 ∷ on 25 ∷ off 26 ∷ on 27 ∷ on 28 ∷ on 29 ∷ off 30 ∷ pos 7 ∷ [])
  -- with ceiling 2 it is too dear; 16 comes before that
  pub dear : ceiling_encode_answer (path_two 0 1 1 2) 2 1 2 on_path 29 ≡ refuse 33 3
  pub short : ceiling_encode_answer (path_two 0 1 1 2) 2 1 2 on_path 28 ≡ refuse 16 29
  -- B is false of an agent that moves; it is true where it is forbidden; an entry is missing
  pub falsified : (ceiling_decode_answer pair 1 1 0 (on 1 ∷ off 2 ∷ off 3 ∷ on 4 ∷ off 5 ∷ []) 2 ≡ refuse 24 8)
      × (ceiling_decode_answer pair 1 1 0 (on 1 ∷ off 2 ∷ off 3 ∷ on 4 ∷ on 5 ∷ []) 2 ≡ refuse 24 10)
      × (ceiling_decode_answer pair 1 1 0 (on 1 ∷ off 2 ∷ off 3 ∷ on 4 ∷ []) 2 ≡ refuse 14 4)
  -- B may be true without need, so two valuations name one plan
  pub both : (ceiling_decode_answer (pair_with 0 0) 1 1 1 (on 1 ∷ off 2 ∷ on 3 ∷ off 4 ∷ off 5 ∷ []) 2 ≡ accept 2)
      × (ceiling_decode_answer (pair_with 0 0) 1 1 1 (on 1 ∷ off 2 ∷ on 3 ∷ off 4 ∷ on 5 ∷ []) 2 ≡ accept 2)
      × (ceiling_decode_slice (pair_with 0 0) 1 1 1 (on 1 ∷ off 2 ∷ on 3 ∷ off 4 ∷ on 5 ∷ []) (7 ∷ 7 ∷ 7 ∷ []) ≡ 0 ∷ 0 ∷ 7 ∷ [])

pub record Claim : Type 0 where
  -- for every accepted instance, horizon and rule, and every ceiling from 0 to 128
  pub ceiling : (b : List ℕ) (m rule c : ℕ) → Accepts (instance_answer b m rule) → c ≤ 128 → Ceiling b m rule c
  -- what is asked first accepts exactly these; what the instance check refuses every call refuses alike, and else a higher ceiling gets 32
  pub accepts : (b : List ℕ) (m rule c : ℕ) → Accepts (ceiling_answer b m rule c) ↔ (Accepts (instance_answer b m rule) × (c ≤ 128))
  pub first : (b : List ℕ) (m rule c : ℕ) → (instance_answer b m rule).number ≢ 0 → Refused (instance_answer b m rule) b m rule c
  pub high : (b : List ℕ) (m rule c : ℕ) → Accepts (instance_answer b m rule) → 128 < c → Refused (refuse 32 0) b m rule c
  -- a list of two or more is cut into a left half, rounded down, and the rest; one is its own tree; a tree over a list has its inputs
  pub cut : (l : ℕ) → 2 ≤ l → tree_over l ≡ node (tree_over (l / 2)) (tree_over (l - l / 2))
  pub single : tree_over 1 ≡ input
  pub width : (l : ℕ) → 1 ≤ l → inputs (tree_over l) ≡ l
  -- at m 0 nothing is added
  pub nothing : (b : List ℕ) (rule c : ℕ) → under_ceiling c (instance b 0 rule) ≡ formula (instance b 0 rule)
  -- the largest, under rule 2 and under rule 1
  pub largest : (ceiling_variables (largest_sizes 2) 128 ≡ 38_275) × (ceiling_count (largest_sizes 2) 128 ≡ 16_953_636) × (ceiling_words (largest_sizes 2) 128 ≡ 84_038_444)
  pub largest_one : (ceiling_variables (largest_sizes 1) 128 ≡ 38_275) × (ceiling_count (largest_sizes 1) 128 ≡ 1_962_276) × (ceiling_words (largest_sizes 1) 128 ≡ 8_098_604)
  pub worked : Worked
