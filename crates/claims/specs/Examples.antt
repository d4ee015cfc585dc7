-- The worked examples under rule 1, as one table and one claim. A row has an instance, a horizon, a rule, a call with what is lent to it,
-- and what is then seen: the answer and the lent slice. `Following` has those under rule 2.
use Rattle.std.specs.Prelude.{◌≡◌, List, [], ◌∷◌, ◌++◌, map, ℕ, length, replicate, ℤ, pos, neg_ℤ}
use Rattle.answers.specs.declared.Answer.{Answer}
use Rattle.answers.specs.declared.Size.{Size}
use Rattle.answers.specs.Answers.{accept, refuse}
use Rattle.instance.specs.Instance.{no_goal}
use Rattle.formula.specs.Formula.{formula}
use Rattle.formula.specs.Pruned.{pruned}
use Rattle.calls.specs.Calls.{size_answer, write_answer, write_slice, clause_answer, clause_slice, check_answer, decode_answer, decode_slice, encode_answer, encode_slice, read_answer, read_slice, floor_answer}

-- ---- instances
-- two vertices, one edge, one agent from s to g; "pair" has s 0 and g 1
abbrev pub pair_with : ℕ → ℕ → List ℕ
pair_with s g = 2 ∷ 1 ∷ 1 ∷ 0 ∷ 0 ∷ 1 ∷ s ∷ g ∷ []

abbrev pub pair : List ℕ
pair = pair_with 0 1

-- the pair's edge, agents from 0 and from 1; "exchange" is 0→1 and 1→0
abbrev pub pair_two : ℕ → ℕ → List ℕ
pair_two g₀ g₁ = 2 ∷ 2 ∷ 1 ∷ 0 ∷ 0 ∷ 1 ∷ 0 ∷ 1 ∷ g₀ ∷ g₁ ∷ []

abbrev pub exchange : List ℕ
exchange = pair_two 1 0

-- the path, with edges 0-1 and 1-2, and one agent or two
abbrev pub path_one : ℕ → ℕ → List ℕ
path_one s g = 3 ∷ 1 ∷ 2 ∷ 0 ∷ 0 ∷ 1 ∷ 1 ∷ 2 ∷ s ∷ g ∷ []

abbrev pub path_two : ℕ → ℕ → ℕ → ℕ → List ℕ
path_two s₀ s₁ g₀ g₁ = 3 ∷ 2 ∷ 2 ∷ 0 ∷ 0 ∷ 1 ∷ 1 ∷ 2 ∷ s₀ ∷ s₁ ∷ g₀ ∷ g₁ ∷ []

-- the path with an agent on each vertex; in "path_full" their goals are their starts
abbrev pub path_three : ℕ → ℕ → ℕ → List ℕ
path_three g₀ g₁ g₂ = 3 ∷ 3 ∷ 2 ∷ 0 ∷ 0 ∷ 1 ∷ 1 ∷ 2 ∷ 0 ∷ 1 ∷ 2 ∷ g₀ ∷ g₁ ∷ g₂ ∷ []

abbrev pub path_full : List ℕ
path_full = path_three 0 1 2

-- two vertices without an edge, one agent
abbrev pub cut_one : ℕ → ℕ → List ℕ
cut_one s g = 2 ∷ 1 ∷ 0 ∷ 0 ∷ s ∷ g ∷ []

-- the edge 0-1 and vertex 2 alone, agents from 0 and from 2
abbrev pub cut_two : ℕ → ℕ → List ℕ
cut_two g₀ g₁ = 3 ∷ 2 ∷ 1 ∷ 0 ∷ 0 ∷ 1 ∷ 0 ∷ 2 ∷ g₀ ∷ g₁ ∷ []

-- ---- calls, and what is seen of them
pub data Call : Type 0 where
  size : Call
  pruned_size : Call
  write : List ℤ → Call
  prune : List ℤ → Call
  clause : ℕ → List ℤ → Call
  check : List ℕ → Call
  decode : List ℤ → List ℕ → Call
  encode : List ℕ → List ℤ → Call
  read : List ℕ → List ℤ → Call
  floor : Call

pub data Seen : Type 0 where
  counts : Size → Seen
  words : Answer → List ℤ → Seen
  answer : Answer → Seen
  plan : Answer → List ℕ → Seen
  valuation : Answer → List ℤ → Seen

abbrev pub run : List ℕ → ℕ → ℕ → Call → Seen
run b m rule size = counts (size_answer formula b m rule)
run b m rule pruned_size = counts (size_answer pruned b m rule)
run b m rule (write s) = words (write_answer formula b m rule (length s)) (write_slice formula b m rule s)
run b m rule (prune s) = words (write_answer pruned b m rule (length s)) (write_slice pruned b m rule s)
run b m rule (clause c s) = words (clause_answer b m rule c (length s)) (clause_slice b m rule c s)
run b m rule (check p) = answer (check_answer b m rule p)
run b m rule (decode entries s) = plan (decode_answer b m rule entries (length s)) (decode_slice b m rule entries s)
run b m rule (encode p s) = valuation (encode_answer b m rule p (length s)) (encode_slice b m rule p s)
run b m rule (read text s) = valuation (read_answer b m rule text (length s)) (read_slice b m rule text s)
run b m rule floor = answer (floor_answer b)

pub record Example : Type 0 where
  pub bytes : List ℕ
  pub horizon : ℕ
  pub rule : ℕ
  pub call : Call
  pub seen : Seen

-- under rule 1
abbrev example : List ℕ → ℕ → Call → Seen → Example
example b m c s = record { bytes = b; horizon = m; rule = 1; call = c; seen = s }

-- ---- literals, and slices that hold 7 throughout when they are lent
abbrev pub neg : ℕ → ℤ
neg x = neg_ℤ (pos x)

abbrev pub sevens : ℕ → List ℤ
sevens count = replicate count (pos 7)

abbrev pub lent_plan : List ℕ
lent_plan = replicate 4 7

-- a size call accepts with these words and clauses, or refuses with this number and place
abbrev pub sized : ℕ → ℕ → Seen
sized count clauses = counts (record { number = 0; second = count; clauses = clauses })

abbrev pub unsized : ℕ → ℕ → Seen
unsized number place = counts (record { number = number; second = place; clauses = 0 })

-- ---- the words of formulas, a clause a line
-- the pair's: behind A and B, and all
abbrev pair_behind : List ℤ
pair_behind =
    pos 1 ∷ pos 2 ∷ pos 0
    ∷ pos 3 ∷ pos 4 ∷ pos 0
    ∷ neg 1 ∷ neg 2 ∷ pos 0
    ∷ neg 3 ∷ neg 4 ∷ pos 0
    ∷ neg 1 ∷ pos 3 ∷ pos 4 ∷ pos 0
    ∷ neg 2 ∷ pos 4 ∷ pos 3 ∷ pos 0
    ∷ []

abbrev pub pair_words : List ℤ
pair_words = pos 1 ∷ pos 0 ∷ pos 4 ∷ pos 0 ∷ pair_behind

-- the exchange's: C to F, with G, and A and B
abbrev pub exchange_shared : List ℤ
exchange_shared =
    pos 1 ∷ pos 2 ∷ pos 0
    ∷ pos 5 ∷ pos 6 ∷ pos 0
    ∷ pos 3 ∷ pos 4 ∷ pos 0
    ∷ pos 7 ∷ pos 8 ∷ pos 0
    ∷ neg 1 ∷ neg 2 ∷ pos 0
    ∷ neg 5 ∷ neg 6 ∷ pos 0
    ∷ neg 3 ∷ neg 4 ∷ pos 0
    ∷ neg 7 ∷ neg 8 ∷ pos 0
    ∷ neg 1 ∷ neg 5 ∷ pos 0
    ∷ neg 2 ∷ neg 6 ∷ pos 0
    ∷ neg 3 ∷ neg 7 ∷ pos 0
    ∷ neg 4 ∷ neg 8 ∷ pos 0
    ∷ neg 1 ∷ pos 3 ∷ pos 4 ∷ pos 0
    ∷ neg 2 ∷ pos 4 ∷ pos 3 ∷ pos 0
    ∷ neg 5 ∷ pos 7 ∷ pos 8 ∷ pos 0
    ∷ neg 6 ∷ pos 8 ∷ pos 7 ∷ pos 0
    ∷ []

abbrev exchange_behind : List ℤ
exchange_behind =
    exchange_shared
    ++ neg 5 ∷ neg 3 ∷ pos 0
    ∷ neg 6 ∷ neg 4 ∷ pos 0
    ∷ neg 1 ∷ neg 7 ∷ pos 0
    ∷ neg 2 ∷ neg 8 ∷ pos 0
    ∷ []

abbrev pub exchange_units : List ℤ
exchange_units = pos 1 ∷ pos 0 ∷ pos 6 ∷ pos 0 ∷ pos 4 ∷ pos 0 ∷ pos 7 ∷ pos 0 ∷ []

-- the valuation of two agents on the path, a time a line: agent 0 waits at 0 and goes to 1, agent 1 goes from 1 to 2 and waits
abbrev wait_then_follow : List ℤ
wait_then_follow =
    pos 1 ∷ neg 2 ∷ neg 3
    ∷ pos 4 ∷ neg 5 ∷ neg 6
    ∷ neg 7 ∷ pos 8 ∷ neg 9
    ∷ neg 10 ∷ pos 11 ∷ neg 12
    ∷ neg 13 ∷ neg 14 ∷ pos 15
    ∷ neg 16 ∷ neg 17 ∷ pos 18
    ∷ []

-- of the pruned formulas: the pair with horizon 0, which is below its floor; the path with an agent that starts at its goal, horizon
-- 1, where vertex 2 is too far from both; two vertices without an edge, horizon 1
abbrev pair_below : List ℤ
pair_below =
    pos 1 ∷ pos 0
    ∷ pos 2 ∷ pos 0
    ∷ pos 1 ∷ pos 2 ∷ pos 0
    ∷ neg 1 ∷ neg 2 ∷ pos 0
    ∷ neg 1 ∷ pos 0
    ∷ neg 2 ∷ pos 0
    ∷ []

abbrev path_pruned : List ℤ
path_pruned =
    pos 1 ∷ pos 0
    ∷ pos 4 ∷ pos 0
    ∷ pos 1 ∷ pos 2 ∷ pos 3 ∷ pos 0
    ∷ pos 4 ∷ pos 5 ∷ pos 6 ∷ pos 0
    ∷ neg 1 ∷ neg 2 ∷ pos 0
    ∷ neg 1 ∷ neg 3 ∷ pos 0
    ∷ neg 2 ∷ neg 3 ∷ pos 0
    ∷ neg 4 ∷ neg 5 ∷ pos 0
    ∷ neg 4 ∷ neg 6 ∷ pos 0
    ∷ neg 5 ∷ neg 6 ∷ pos 0
    ∷ neg 1 ∷ pos 4 ∷ pos 5 ∷ pos 0
    ∷ neg 2 ∷ pos 5 ∷ pos 4 ∷ pos 6 ∷ pos 0
    ∷ neg 3 ∷ pos 6 ∷ pos 5 ∷ pos 0
    ∷ neg 2 ∷ pos 0
    ∷ neg 3 ∷ pos 0
    ∷ neg 5 ∷ pos 0
    ∷ neg 6 ∷ pos 0
    ∷ []

abbrev cut_behind : List ℤ
cut_behind =
    pos 1 ∷ pos 2 ∷ pos 0
    ∷ pos 3 ∷ pos 4 ∷ pos 0
    ∷ neg 1 ∷ neg 2 ∷ pos 0
    ∷ neg 3 ∷ neg 4 ∷ pos 0
    ∷ neg 1 ∷ pos 3 ∷ pos 0
    ∷ neg 2 ∷ pos 4 ∷ pos 0
    ∷ neg 2 ∷ pos 0
    ∷ neg 4 ∷ pos 0
    ∷ []

abbrev cut_pruned : List ℤ
cut_pruned = pos 1 ∷ pos 0 ∷ pos 3 ∷ pos 0 ∷ cut_behind

-- ---- lines of a solver's text, the v lines with their line ends
-- "s SATISFIABLE", "s UNSATISFIABLE", "s UNKNOWN"
abbrev satisfiable : List ℕ
satisfiable = 115 ∷ 32 ∷ 83 ∷ 65 ∷ 84 ∷ 73 ∷ 83 ∷ 70 ∷ 73 ∷ 65 ∷ 66 ∷ 76 ∷ 69 ∷ []

abbrev unsatisfiable : List ℕ
unsatisfiable = 115 ∷ 32 ∷ 85 ∷ 78 ∷ 83 ∷ 65 ∷ 84 ∷ 73 ∷ 83 ∷ 70 ∷ 73 ∷ 65 ∷ 66 ∷ 76 ∷ 69 ∷ []

abbrev unknown : List ℕ
unknown = 115 ∷ 32 ∷ 85 ∷ 78 ∷ 75 ∷ 78 ∷ 79 ∷ 87 ∷ 78 ∷ []

-- "v 4 -2" and "v 1 -3 0"
abbrev first_line : List ℕ
first_line = 118 ∷ 32 ∷ 52 ∷ 32 ∷ 45 ∷ 50 ∷ 10 ∷ []

abbrev last_line : List ℕ
last_line = 118 ∷ 32 ∷ 49 ∷ 32 ∷ 45 ∷ 51 ∷ 32 ∷ 48 ∷ 10 ∷ []

-- "v -0" and "v 0 1"
abbrev minus_zero : List ℕ
minus_zero = 118 ∷ 32 ∷ 45 ∷ 48 ∷ 10 ∷ []

abbrev zero_first : List ℕ
zero_first = 118 ∷ 32 ∷ 48 ∷ 32 ∷ 49 ∷ 10 ∷ []

abbrev pub table : List Example
table =
    -- the pair's eight clauses, 24 words: a slice of 24 is filled, one of 26 keeps its last two words, one of 23 and an empty one are refused
    example pair 1 size (sized 24 8)
    ∷ example pair 1 (write (sevens 24)) (words (accept 0) pair_words)
    ∷ example pair 1 (write (sevens 26)) (words (accept 0) (pair_words ++ sevens 2))
    ∷ example pair 1 (write (sevens 23)) (words (refuse 12 24) (sevens 23))
    ∷ example pair 1 (write (sevens 0)) (words (refuse 12 24) (sevens 0))
    -- with family H 10 clauses, 28 words: at time 0 it is not at 1, at time 1 not at 0
    ∷ example pair 1 pruned_size (sized 28 10)
    ∷ example pair 1 (prune (sevens 30)) (words (accept 0) (pair_words ++ neg 2 ∷ pos 0 ∷ neg 3 ∷ pos 0 ∷ sevens 2))
    ∷ example pair 1 (prune (sevens 27)) (words (refuse 12 28) (sevens 27))
    ∷ example pair 0 pruned_size (sized 14 6)
    ∷ example pair 0 (prune (sevens 14)) (words (accept 0) pair_below)
    ∷ example (path_one 0 0) 1 pruned_size (sized 51 17)
    ∷ example (path_one 0 0) 1 (prune (sevens 51)) (words (accept 0) path_pruned)
    ∷ example (cut_one 0 0) 1 pruned_size (sized 26 10)
    ∷ example (cut_one 0 0) 1 (prune (sevens 26)) (words (accept 0) cut_pruned)
    -- what a size call refuses, here the horizon and a start that is not on the map, the writer refuses alike
    ∷ example pair 33 size (unsized 10 0)
    ∷ example pair 33 pruned_size (unsized 10 0)
    ∷ example pair 33 (write (sevens 24)) (words (refuse 10 0) (sevens 24))
    ∷ example (pair_with 2 1) 1 size (unsized 8 6)
    ∷ example (pair_with 2 1) 1 pruned_size (unsized 8 6)
    ∷ example (pair_with 2 1) 1 (prune (sevens 0)) (words (refuse 8 6) (sevens 0))
    -- the pair's clause number 6, four words; there is no clause 8, with family H or without
    ∷ example pair 1 (clause 6 (sevens 5)) (words (accept 4) (neg 1 ∷ pos 3 ∷ pos 4 ∷ pos 0 ∷ pos 7 ∷ []))
    ∷ example pair 1 (clause 6 (sevens 3)) (words (refuse 12 4) (sevens 3))
    ∷ example pair 1 (clause 8 (sevens 0)) (words (refuse 11 8) (sevens 0))
    -- the pair's valuations
    ∷ example pair 1 (decode (pos 1 ∷ neg 2 ∷ neg 3 ∷ pos 4 ∷ []) lent_plan) (plan (accept 2) (0 ∷ 1 ∷ 7 ∷ 7 ∷ []))
    ∷ example pair 1 (encode (0 ∷ 1 ∷ []) (sevens 5)) (valuation (accept 4) (pos 1 ∷ neg 2 ∷ neg 3 ∷ pos 4 ∷ pos 7 ∷ []))
    ∷ example pair 1 (decode (pos 1 ∷ neg 2 ∷ pos 3 ∷ pos 4 ∷ []) lent_plan) (plan (refuse 24 5) lent_plan)
    ∷ example pair 1 (decode (neg 1 ∷ neg 2 ∷ neg 3 ∷ neg 4 ∷ []) lent_plan) (plan (refuse 24 0) lent_plan)
    ∷ example pair 1 (decode (pos 1 ∷ neg 2 ∷ neg 4 ∷ pos 3 ∷ []) lent_plan) (plan (refuse 23 2) lent_plan)
    -- the lowest 32-bit number is a wrong entry like any other
    ∷ example pair 1 (decode (pos 1 ∷ neg 2 ∷ neg 2147483648 ∷ pos 4 ∷ []) lent_plan) (plan (refuse 23 2) lent_plan)
    -- what a solver prints for the pair, the s line first or last, which may lack its line end
    ∷ example pair 1 (read (satisfiable ++ 10 ∷ first_line ++ last_line) (sevens 5)) (valuation (accept 4) (pos 1 ∷ neg 2 ∷ neg 3 ∷ pos 4 ∷ pos 7 ∷ []))
    ∷ example pair 1 (read (first_line ++ last_line ++ satisfiable) (sevens 4)) (valuation (accept 4) (pos 1 ∷ neg 2 ∷ neg 3 ∷ pos 4 ∷ []))
    ∷ example pair 1 (read (first_line ++ last_line ++ satisfiable) (sevens 3)) (valuation (refuse 16 4) (sevens 3))
    -- "c s v", an empty line and "c" are skipped
    ∷ example pair 1 (read (99 ∷ 32 ∷ 115 ∷ 32 ∷ 118 ∷ 10 ∷ 10 ∷ first_line ++ last_line ++ satisfiable ++ 10 ∷ 99 ∷ []) (sevens 4)) (valuation (accept 4) (pos 1 ∷ neg 2 ∷ neg 3 ∷ pos 4 ∷ []))
    -- wrong lines: -0, a token after the 0, a v line after the 0, a second s line
    ∷ example pair 1 (read (first_line ++ minus_zero ++ satisfiable) (sevens 4)) (valuation (refuse 27 7) (sevens 4))
    ∷ example pair 1 (read (zero_first ++ satisfiable) (sevens 4)) (valuation (refuse 27 0) (sevens 4))
    ∷ example pair 1 (read (last_line ++ first_line ++ satisfiable) (sevens 4)) (valuation (refuse 27 9) (sevens 4))
    ∷ example pair 1 (read (satisfiable ++ 10 ∷ satisfiable) (sevens 4)) (valuation (refuse 27 14) (sevens 4))
    -- "v ", "s SATISFIABLE" and a carriage return; after the 0 a v line is wrong whatever the s line says
    ∷ example pair 1 (read (first_line ++ 118 ∷ 32 ∷ 10 ∷ satisfiable) (sevens 4)) (valuation (refuse 27 7) (sevens 4))
    ∷ example pair 1 (read (first_line ++ last_line ++ satisfiable ++ 13 ∷ []) (sevens 4)) (valuation (refuse 27 16) (sevens 4))
    ∷ example pair 1 (read (unknown ++ 10 ∷ last_line ++ first_line) (sevens 4)) (valuation (refuse 27 19) (sevens 4))
    -- the s line or the 0 is missing
    ∷ example pair 1 (read [] (sevens 4)) (valuation (refuse 27 0) (sevens 4))
    ∷ example pair 1 (read (first_line ++ last_line) (sevens 4)) (valuation (refuse 27 16) (sevens 4))
    ∷ example pair 1 (read (satisfiable ++ 10 ∷ first_line) (sevens 4)) (valuation (refuse 27 21) (sevens 4))
    -- the s line is not SATISFIABLE, which needs no 0
    ∷ example pair 1 (read (first_line ++ unsatisfiable) (sevens 4)) (valuation (refuse 28 7) (sevens 4))
    ∷ example pair 1 (read unknown (sevens 4)) (valuation (refuse 28 0) (sevens 4))
    -- variable 2 is missing; variable 1 is given twice, opposite; variable 4 is given twice, equal
    ∷ example pair 1 (read (last_line ++ satisfiable) (sevens 4)) (valuation (refuse 29 2) (sevens 4))
    ∷ example pair 1 (read (118 ∷ 32 ∷ 45 ∷ 49 ∷ 10 ∷ first_line ++ last_line ++ satisfiable) (sevens 4)) (valuation (refuse 29 1) (sevens 4))
    ∷ example pair 1 (read (118 ∷ 32 ∷ 52 ∷ 10 ∷ first_line ++ last_line ++ satisfiable) (sevens 4)) (valuation (refuse 29 4) (sevens 4))
    -- two agents exchange the ends of an edge; their formula has 24 clauses, 72 words
    ∷ example exchange 1 (check (0 ∷ 1 ∷ 1 ∷ 0 ∷ [])) (answer (refuse 25 2))
    ∷ example exchange 1 (encode (0 ∷ 1 ∷ 1 ∷ 0 ∷ []) (sevens 8)) (valuation (refuse 25 2) (sevens 8))
    ∷ example exchange 1 size (sized 72 24)
    ∷ example exchange 1 (write (sevens 72)) (words (accept 0) (exchange_units ++ exchange_behind))
    -- agent 0 is at both vertices at time 1, then agent 1 at time 0 too, whose variables are higher and whose clause is lower
    ∷ example exchange 1 (decode (pos 1 ∷ neg 2 ∷ pos 3 ∷ pos 4 ∷ neg 5 ∷ pos 6 ∷ pos 7 ∷ neg 8 ∷ []) lent_plan) (plan (refuse 24 10) lent_plan)
    ∷ example exchange 1 (decode (pos 1 ∷ neg 2 ∷ pos 3 ∷ pos 4 ∷ pos 5 ∷ pos 6 ∷ pos 7 ∷ neg 8 ∷ []) lent_plan) (plan (refuse 24 9) lent_plan)
    -- on the path one agent closes up behind another, then waits for it, then drives into it where it stays
    ∷ example (path_two 0 1 1 2) 1 (check (0 ∷ 1 ∷ 1 ∷ 2 ∷ [])) (answer (refuse 26 2))
    ∷ example (path_two 0 1 1 2) 2 (check (0 ∷ 1 ∷ 0 ∷ 2 ∷ 1 ∷ 2 ∷ [])) (answer (accept 3))
    ∷ example (path_two 0 1 1 2) 2 (encode (0 ∷ 1 ∷ 0 ∷ 2 ∷ 1 ∷ 2 ∷ []) (sevens 18)) (valuation (accept 18) wait_then_follow)
    ∷ example (path_two 0 1 1 2) 2 (decode wait_then_follow (replicate 6 7)) (plan (accept 6) (0 ∷ 1 ∷ 0 ∷ 2 ∷ 1 ∷ 2 ∷ []))
    ∷ example (path_two 0 1 1 2) 1 (check (0 ∷ 1 ∷ 1 ∷ 1 ∷ [])) (answer (refuse 20 2))
    -- agents 0 and 1 are at fault: the occupant that agent 0 meets moves on, the one that agent 1 meets stays
    ∷ example path_full 1 (check (0 ∷ 1 ∷ 2 ∷ 1 ∷ 2 ∷ 2 ∷ [])) (answer (refuse 26 3))
    -- waiting counts before the last move, not after it
    ∷ example pair 3 (check (0 ∷ 0 ∷ 0 ∷ 1 ∷ [])) (answer (accept 3))
    ∷ example pair 3 (check (0 ∷ 1 ∷ 1 ∷ 1 ∷ [])) (answer (accept 1))
    -- an agent that leaves is busy until it is back; one that never moves is at rest from the beginning
    ∷ example (pair_with 0 0) 4 (check (0 ∷ 1 ∷ 1 ∷ 0 ∷ 0 ∷ [])) (answer (accept 3))
    ∷ example (pair_with 0 0) 3 (check (0 ∷ 0 ∷ 0 ∷ 0 ∷ [])) (answer (accept 0))
    -- two agents meet on one vertex
    ∷ example (path_two 0 2 1 2) 1 (check (0 ∷ 2 ∷ 1 ∷ 1 ∷ [])) (answer (refuse 21 3))
    -- an agent jumps
    ∷ example (path_one 0 2) 1 (check (0 ∷ 2 ∷ [])) (answer (refuse 19 1))
    -- floors: the greatest distance from a start to its goal, 0 where each agent starts at its goal
    ∷ example pair 0 floor (answer (accept 1))
    ∷ example (pair_with 0 0) 0 floor (answer (accept 0))
    ∷ example (path_one 0 2) 0 floor (answer (accept 2))
    ∷ example (path_two 0 1 1 2) 0 floor (answer (accept 1))
    ∷ example (path_two 0 1 2 0) 0 floor (answer (accept 2))
    -- a goal that cannot be reached, of the only agent, of the second, of both; an agent that is cut off and need not move
    ∷ example (cut_one 0 1) 0 floor (answer (refuse 30 5))
    ∷ example (cut_two 1 0) 0 floor (answer (refuse 30 9))
    ∷ example (cut_two 2 0) 0 floor (answer (refuse 30 8))
    ∷ example (cut_two 1 2) 0 floor (answer (accept 1))
    -- no step at all
    ∷ example pair 0 (check (0 ∷ [])) (answer (refuse 22 0))
    ∷ example (pair_with 0 0) 0 (check (0 ∷ [])) (answer (accept 0))
    -- a free agent on the pair: B is empty; it may end anywhere on the map; family H forbids vertex 1 at time 0, by the start alone
    ∷ example (pair_with 0 no_goal) 1 size (sized 22 7)
    ∷ example (pair_with 0 no_goal) 1 (write (sevens 22)) (words (accept 0) (pos 1 ∷ pos 0 ∷ pair_behind))
    ∷ example (pair_with 0 no_goal) 1 pruned_size (sized 24 8)
    ∷ example (pair_with 0 no_goal) 1 (prune (sevens 24)) (words (accept 0) (pos 1 ∷ pos 0 ∷ pair_behind ++ neg 2 ∷ pos 0 ∷ []))
    ∷ example (pair_with 0 no_goal) 1 (check (0 ∷ 0 ∷ [])) (answer (accept 0))
    ∷ example (pair_with 0 no_goal) 1 (check (0 ∷ 1 ∷ [])) (answer (accept 1))
    ∷ example (pair_with 0 no_goal) 1 (check (0 ∷ no_goal ∷ [])) (answer (refuse 17 1))
    ∷ example (pair_with 0 no_goal) 1 (encode (0 ∷ 0 ∷ []) (sevens 4)) (valuation (accept 4) (pos 1 ∷ neg 2 ∷ pos 3 ∷ neg 4 ∷ []))
    ∷ example (pair_with 0 no_goal) 1 (decode (pos 1 ∷ neg 2 ∷ pos 3 ∷ neg 4 ∷ []) lent_plan) (plan (accept 2) (0 ∷ 0 ∷ 7 ∷ 7 ∷ []))
    -- its start is asked as any other's: by 8, by 18, by A
    ∷ example (pair_with no_goal no_goal) 1 size (unsized 8 6)
    ∷ example (pair_with 0 no_goal) 1 (check (1 ∷ 1 ∷ [])) (answer (refuse 18 0))
    ∷ example (pair_with 0 no_goal) 1 (decode (neg 1 ∷ pos 2 ∷ neg 3 ∷ pos 4 ∷ []) lent_plan) (plan (refuse 24 0) lent_plan)
    -- 254 is a goal, and on no map; a goal twice is refused with a free agent between, but 255 may stand twice
    ∷ example (pair_with 0 254) 1 size (unsized 9 7)
    ∷ example (path_three 0 no_goal 0) 1 size (unsized 9 13)
    ∷ example (path_three no_goal no_goal 0) 0 (check (0 ∷ 1 ∷ 2 ∷ [])) (answer (refuse 22 2))
    -- agent 0 is free and agent 1 goes to 0: its clause of B is number 2, and C begins at 3
    ∷ example (pair_two no_goal 0) 1 size (sized 70 23)
    ∷ example (pair_two no_goal 0) 1 (write (sevens 70)) (words (accept 0) (pos 1 ∷ pos 0 ∷ pos 6 ∷ pos 0 ∷ pos 7 ∷ pos 0 ∷ exchange_behind))
    ∷ example (pair_two no_goal 0) 1 (clause 2 (sevens 2)) (words (accept 2) (pos 7 ∷ pos 0 ∷ []))
    ∷ example (pair_two no_goal 0) 1 (clause 3 (sevens 3)) (words (accept 3) (pos 1 ∷ pos 2 ∷ pos 0 ∷ []))
    ∷ example (pair_two no_goal 0) 1 (clause 23 (sevens 0)) (words (refuse 11 23) (sevens 0))
    -- both stay: agent 1 is not at its goal
    ∷ example (pair_two no_goal 0) 1 (check (0 ∷ 1 ∷ 0 ∷ 1 ∷ [])) (answer (refuse 22 3))
    ∷ example (pair_two no_goal 0) 1 (decode (pos 1 ∷ neg 2 ∷ pos 3 ∷ neg 4 ∷ neg 5 ∷ pos 6 ∷ neg 7 ∷ pos 8 ∷ []) lent_plan) (plan (refuse 24 2) lent_plan)
    -- with agent 1 free, or both, they may stay
    ∷ example (pair_two 0 no_goal) 1 (check (0 ∷ 1 ∷ 0 ∷ 1 ∷ [])) (answer (accept 0))
    ∷ example (pair_two no_goal no_goal) 1 size (sized 68 22)
    ∷ example (pair_two no_goal no_goal) 1 (check (0 ∷ 1 ∷ 0 ∷ 1 ∷ [])) (answer (accept 0))
    -- the free agent makes way: its cost counts; the valuation is the one that it has with a goal
    ∷ example (path_two 0 1 1 no_goal) 2 (check (0 ∷ 1 ∷ 0 ∷ 2 ∷ 1 ∷ 2 ∷ [])) (answer (accept 3))
    ∷ example (path_two 0 1 1 no_goal) 2 (encode (0 ∷ 1 ∷ 0 ∷ 2 ∷ 1 ∷ 2 ∷ []) (sevens 18)) (valuation (accept 18) wait_then_follow)
    ∷ example (path_two 0 1 1 no_goal) 2 (decode wait_then_follow (replicate 6 7)) (plan (accept 6) (0 ∷ 1 ∷ 0 ∷ 2 ∷ 1 ∷ 2 ∷ []))
    -- a free agent that is cut off: family H forbids vertex 1 at both times
    ∷ example (cut_one 0 no_goal) 1 pruned_size (sized 24 9)
    ∷ example (cut_one 0 no_goal) 1 (prune (sevens 24)) (words (accept 0) (pos 1 ∷ pos 0 ∷ cut_behind))
    -- floors: a free agent counts 0, and gives no 30 where it is cut off
    ∷ example (pair_two no_goal no_goal) 0 floor (answer (accept 0))
    ∷ example (path_two 0 1 no_goal 2) 0 floor (answer (accept 1))
    ∷ example (cut_one 0 no_goal) 0 floor (answer (accept 0))
    ∷ example (cut_two no_goal 0) 0 floor (answer (refuse 30 9))
    ∷ example (cut_two 1 no_goal) 0 floor (answer (accept 1))
    ∷ []

-- every row's call gives what the row says is seen
abbrev pub Holds : List Example → Type 0
Holds rows = map (λ x. run x.bytes x.horizon x.rule x.call) rows ≡ map (λ x. x.seen) rows

abbrev pub Claim : Type 0
Claim = Holds table
