-- The worked examples under rule 2, and of 31, as one table and one claim.
use Rattle.std.specs.Prelude.{List, [], ◌∷◌, ◌++◌, ℕ, replicate, ℤ, pos}
use Rattle.answers.specs.Answers.{accept, refuse}
use Rattle.instance.specs.Instance.{no_goal}
use Rattle.claims.specs.Examples.{pair, exchange, path_two, Call, size, pruned_size, write, clause, check, decode, encode, read, floor, Seen, answer, words, plan, valuation, Example, Holds, neg, sevens, lent_plan, sized, unsized, exchange_units, exchange_shared, pair_words}

-- the triangle, an agent on each vertex; each goes to the next
abbrev pub triangle : List ℕ
triangle = 3 ∷ 3 ∷ 3 ∷ 0 ∷ 0 ∷ 0 ∷ 1 ∷ 1 ∷ 2 ∷ 2 ∷ 0 ∷ 1 ∷ 2 ∷ 1 ∷ 2 ∷ 0 ∷ []

-- two edges, 0-1 and 2-3; free agents from 2, 3, 0 and 1
abbrev pub two_edges : List ℕ
two_edges = 4 ∷ 4 ∷ 2 ∷ 0 ∷ 0 ∷ 2 ∷ 1 ∷ 3 ∷ 2 ∷ 3 ∷ 0 ∷ 1 ∷ no_goal ∷ no_goal ∷ no_goal ∷ no_goal ∷ []

abbrev under : ℕ → List ℕ → ℕ → Call → Seen → Example
under rule b m c s = record { bytes = b; horizon = m; rule = rule; call = c; seen = s }

-- what the exchange's formula has for G: agent 0 does not go from 0 to 1 where agent 1 goes from 1 to 0, and the other way round
abbrev no_exchanges : List ℤ
no_exchanges =
    neg 1 ∷ neg 4 ∷ neg 6 ∷ neg 7 ∷ pos 0
    ∷ neg 5 ∷ neg 8 ∷ neg 2 ∷ neg 3 ∷ pos 0
    ∷ []

-- agent 0 goes from 0 to 1 and agent 1 from 1 to 2 on the path, in one step
abbrev closing : List ℤ
closing =
    pos 1 ∷ neg 2 ∷ neg 3
    ∷ neg 4 ∷ pos 5 ∷ neg 6
    ∷ neg 7 ∷ pos 8 ∷ neg 9
    ∷ neg 10 ∷ neg 11 ∷ pos 12
    ∷ []

-- the agents of the two edges exchange their ends, a time a line
abbrev both_exchange : List ℤ
both_exchange =
    neg 1 ∷ neg 2 ∷ pos 3 ∷ neg 4
    ∷ neg 5 ∷ neg 6 ∷ neg 7 ∷ pos 8
    ∷ neg 9 ∷ neg 10 ∷ neg 11 ∷ pos 12
    ∷ neg 13 ∷ neg 14 ∷ pos 15 ∷ neg 16
    ∷ pos 17 ∷ neg 18 ∷ neg 19 ∷ neg 20
    ∷ neg 21 ∷ pos 22 ∷ neg 23 ∷ neg 24
    ∷ neg 25 ∷ pos 26 ∷ neg 27 ∷ neg 28
    ∷ pos 29 ∷ neg 30 ∷ neg 31 ∷ neg 32
    ∷ []

-- the largest number of 64 bits
abbrev last : ℕ
last = 18446744073709551615

abbrev pub table : List Example
table =
    -- on the path one agent closes up behind another
    under 2 (path_two 0 1 1 2) 1 (check (0 ∷ 1 ∷ 1 ∷ 2 ∷ [])) (answer (accept 2))
    ∷ under 2 (path_two 0 1 1 2) 1 (encode (0 ∷ 1 ∷ 1 ∷ 2 ∷ []) (sevens 12)) (valuation (accept 12) closing)
    ∷ under 2 (path_two 0 1 1 2) 1 (decode closing lent_plan) (plan (accept 4) (0 ∷ 1 ∷ 1 ∷ 2 ∷ []))
    ∷ under 1 (path_two 0 1 1 2) 1 (decode closing lent_plan) (plan (refuse 24 33) lent_plan)
    -- it drives into one that stays: they share a vertex
    ∷ under 2 (path_two 0 1 1 2) 1 (check (0 ∷ 1 ∷ 1 ∷ 1 ∷ [])) (answer (refuse 21 3))
    -- a ring of three turns
    ∷ under 2 triangle 1 (check (0 ∷ 1 ∷ 2 ∷ 1 ∷ 2 ∷ 0 ∷ [])) (answer (accept 3))
    ∷ under 1 triangle 1 (check (0 ∷ 1 ∷ 2 ∷ 1 ∷ 2 ∷ 0 ∷ [])) (answer (refuse 26 3))
    -- two agents exchange the ends of an edge: the formula has 22 clauses, 70 words
    ∷ under 2 exchange 1 (check (0 ∷ 1 ∷ 1 ∷ 0 ∷ [])) (answer (refuse 25 2))
    ∷ under 2 exchange 1 (encode (0 ∷ 1 ∷ 1 ∷ 0 ∷ []) (sevens 8)) (valuation (refuse 25 2) (sevens 8))
    ∷ under 2 exchange 1 size (sized 70 22)
    ∷ under 2 exchange 1 (write (sevens 71)) (words (accept 0) (exchange_units ++ exchange_shared ++ no_exchanges ++ pos 7 ∷ []))
    ∷ under 2 exchange 1 (clause 20 (sevens 5)) (words (accept 5) (neg 1 ∷ neg 4 ∷ neg 6 ∷ neg 7 ∷ pos 0 ∷ []))
    ∷ under 2 exchange 1 (clause 21 (sevens 4)) (words (refuse 12 5) (sevens 4))
    ∷ under 2 exchange 1 (clause 22 (sevens 5)) (words (refuse 11 22) (sevens 5))
    ∷ under 2 exchange 1 (decode (pos 1 ∷ neg 2 ∷ neg 3 ∷ pos 4 ∷ neg 5 ∷ pos 6 ∷ pos 7 ∷ neg 8 ∷ []) lent_plan) (plan (refuse 24 20) lent_plan)
    ∷ under 1 exchange 1 (decode (pos 1 ∷ neg 2 ∷ neg 3 ∷ pos 4 ∷ neg 5 ∷ pos 6 ∷ pos 7 ∷ neg 8 ∷ []) lent_plan) (plan (refuse 24 21) lent_plan)
    -- two exchanges: the plan check names the lowest agent, the decoder the clause of the lowest edge, which others cross
    ∷ under 2 two_edges 1 (check (2 ∷ 3 ∷ 0 ∷ 1 ∷ 3 ∷ 2 ∷ 1 ∷ 0 ∷ [])) (answer (refuse 25 4))
    ∷ under 2 two_edges 1 (decode both_exchange (replicate 8 7)) (plan (refuse 24 132) (replicate 8 7))
    -- one agent alone: the rules agree
    ∷ under 2 pair 1 size (sized 24 8)
    ∷ under 2 pair 1 pruned_size (sized 28 10)
    ∷ under 2 pair 1 (write (sevens 24)) (words (accept 0) pair_words)
    -- no rule: after the horizon, before all else; the floor is given none
    ∷ under 0 pair 1 size (unsized 31 0)
    ∷ under 3 pair 1 pruned_size (unsized 31 0)
    ∷ under last pair 1 size (unsized 31 0)
    ∷ under last pair 33 size (unsized 10 0)
    ∷ under 3 pair 1 (write []) (words (refuse 31 0) [])
    ∷ under 3 pair 1 (clause 8 []) (words (refuse 31 0) [])
    ∷ under 3 pair 1 (check []) (answer (refuse 31 0))
    ∷ under 3 pair 1 (decode [] []) (plan (refuse 31 0) [])
    ∷ under 3 pair 1 (encode [] []) (valuation (refuse 31 0) [])
    ∷ under 3 pair 1 (read [] []) (valuation (refuse 31 0) [])
    ∷ under 3 pair 33 floor (answer (accept 1))
    ∷ []

abbrev pub Claim : Type 0
Claim = Holds table
