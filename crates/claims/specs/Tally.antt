-- What is claimed of the tally: of one call, whatever the record holds, and of histories, lists of calls from an empty record on.
use Rattle.std.specs.Prelude.{◌≡◌, ◌↔◌, ◌≢◌, ◌⊎◌, List, [], ◌∷◌, ◌++◌, ℕ, ◌+◌, ◌*◌, ◌≤◌, ◌<◌, min, max, length, get_or, set, replicate}
use Rattle.answers.specs.declared.Answer.{Answer}
use Rattle.answers.specs.Answers.{accept, refuse}
use Rattle.tally.specs.declared.Tally.{Tally}
use Rattle.tally.specs.Tally.{empty, under, total}
use Rattle.tally.specs.History.{but34, least_of, greatest_of, States}
use Rattle.calls.specs.Calls.{check_answer}
use Rattle.calls.specs.Tally.{tally_answer, tally_record, Call, answer_of, answers_of, after}
use Rattle.claims.specs.Examples.{pair, pair_with, exchange, path_two}

-- ---- one call, which finds the record t and leaves the record u
-- one more plan has passed, at this cost; the first pass sets least and greatest, whatever they held
pub record Passed (t u : Tally) (cost : ℕ) : Type 0 where
  pub passed : u.passed ≡ t.passed + 1
  pub refused : u.refused ≡ t.refused
  pub sum : u.sum ≡ t.sum + cost
  pub first : t.passed ≡ 0 → (u.least ≡ cost) × (u.greatest ≡ cost)
  pub later : t.passed ≢ 0 → (u.least ≡ min t.least cost) × (u.greatest ≡ max t.greatest cost)

-- one more refusal under this number, and nothing else has changed
pub record Refused (t u : Tally) (number : ℕ) : Type 0 where
  pub counter : under u number ≡ under t number + 1
  pub others : (q : ℕ) → q ≢ number → under u q ≡ under t q
  pub counters : length u.refused ≡ length t.refused
  pub passed : u.passed ≡ t.passed
  pub sum : u.sum ≡ t.sum
  pub least : u.least ≡ t.least
  pub greatest : u.greatest ≡ t.greatest

-- a record has 36 counters of refusals
pub record OneCall (b : List ℕ) (m rule : ℕ) (p : List ℕ) (t : Tally) : Type 0 where
  -- 34 is answered exactly where 65,535 or more are counted, or the sum exceeds 512 times the plans passed
  pub full : ((tally_answer b m rule p t).number ≡ 34) ↔ ((65535 ≤ total t) ⊎ (512 * t.passed < t.sum))
  pub place : (tally_answer b m rule p t).number ≡ 34 → (tally_answer b m rule p t).second ≡ 65535
  pub unchanged : (tally_answer b m rule p t).number ≡ 34 → tally_record b m rule p t ≡ t
  -- else the answer is the plan check's
  pub alike : (tally_answer b m rule p t).number ≢ 34 → tally_answer b m rule p t ≡ check_answer b m rule p
  pub passes : (tally_answer b m rule p t).number ≡ 0 → Passed t (tally_record b m rule p t) (tally_answer b m rule p t).second
  pub refuses : (tally_answer b m rule p t).number ≢ 0 → (tally_answer b m rule p t).number ≢ 34
      → Refused t (tally_record b m rule p t) (tally_answer b m rule p t).number

-- ---- histories
-- what the plan check answers to a call
abbrev pub check_of : Call → Answer
check_of c = check_answer c.b c.m c.rule c.p

pub record History (calls : List Call) : Type 0 where
  pub answered : length (answers_of empty calls) ≡ length calls
  -- the record states what the list of answers states
  pub states : States (after empty calls) (answers_of empty calls)
  -- such a sum as 34 names is not brought about
  pub most : (after empty calls).sum ≤ 512 * (after empty calls).passed
  -- the next call answers 34 exactly where 65,535 answers have been counted
  pub next : (c : Call) → ((answer_of c (after empty calls)).number ≡ 34) ↔ (length (but34 (answers_of empty calls)) ≡ 65535)
  -- so the first 65,535 answers are the plan check's, and from then on each is 34
  pub checked : (i : ℕ) (c : Call) → i < length calls → i < 65535 → get_or (answers_of empty calls) i (accept 0) ≡ check_of (get_or calls i c)
  pub later : (i : ℕ) → i < length calls → 65535 ≤ i → (get_or (answers_of empty calls) i (accept 0)).number ≡ 34

-- the least of costs is one of them, and none is less; the greatest likewise
pub record Extremes (costs : List ℕ) : Type 0 where
  pub least : (i : ℕ) × (i < length costs) × (get_or costs i 0 ≡ least_of costs)
  pub none_less : (i : ℕ) → i < length costs → least_of costs ≤ get_or costs i 0
  pub greatest : (i : ℕ) × (i < length costs) × (get_or costs i 0 ≡ greatest_of costs)
  pub none_greater : (i : ℕ) → i < length costs → get_or costs i 0 ≤ greatest_of costs

-- Worked out by hand. Six calls from an empty record: the path's plan, which costs 3; that with a file that closes up, and that with two
-- that exchange; a horizon above 32; a plan that stands still, and costs 0; the pair's.
abbrev pub given : List ℕ → ℕ → List ℕ → Call
given b m p = record { b = b; m = m; rule = 1; p = p }

abbrev pub six : List Call
six =
    given (path_two 0 1 1 2) 2 (0 ∷ 1 ∷ 0 ∷ 2 ∷ 1 ∷ 2 ∷ [])
    ∷ given (path_two 0 1 1 2) 1 (0 ∷ 1 ∷ 1 ∷ 2 ∷ [])
    ∷ given exchange 1 (0 ∷ 1 ∷ 1 ∷ 0 ∷ [])
    ∷ given pair 33 (0 ∷ 1 ∷ [])
    ∷ given (pair_with 0 0) 0 (0 ∷ [])
    ∷ given pair 1 (0 ∷ 1 ∷ [])
    ∷ []

-- a record with these numbers, whose counters are 0 but for `count` under the number q
abbrev pub holding : ℕ → ℕ → ℕ → ℕ → ℕ → ℕ → Tally
holding passed q count sum least greatest =
    record { passed = passed; refused = set (replicate 36 0) q count; sum = sum; least = least; greatest = greatest }

pub record Worked : Type 0 where
  pub answers : answers_of empty six ≡ accept 3 ∷ refuse 26 2 ∷ refuse 25 2 ∷ refuse 10 0 ∷ accept 0 ∷ accept 1 ∷ []
  pub tally : after empty six
      ≡ record { passed = 3; refused = replicate 10 0 ++ 1 ∷ replicate 14 0 ++ 1 ∷ 1 ∷ replicate 9 0; sum = 4; least = 0; greatest = 3 }
  -- the first pass sets least and greatest, whatever they held; a later one only what it exceeds or falls short of
  pub first : tally_record pair 1 1 (0 ∷ 1 ∷ []) (holding 0 5 2 0 7 9) ≡ holding 1 5 2 1 1 1
  pub second : tally_record pair 1 1 (0 ∷ 1 ∷ []) (holding 1 5 2 512 7 9) ≡ holding 2 5 2 513 1 9
  -- a refusal changes its counter alone, also in a record that no history brings
  pub third : tally_record pair 1 1 (1 ∷ 1 ∷ []) (holding 1 18 2 512 7 9) ≡ holding 1 18 3 512 7 9
  -- 34, before all else: by the plans passed, by any one counter, by both, by the sum
  pub passed_full : tally_answer [] 33 0 [] (holding 65535 5 0 0 0 0) ≡ refuse 34 65535
  pub counter_full : (tally_answer pair 1 1 (0 ∷ 1 ∷ []) (holding 0 0 65535 0 0 0) ≡ refuse 34 65535)
      × (tally_answer pair 1 1 (0 ∷ 1 ∷ []) (holding 0 35 65535 0 0 0) ≡ refuse 34 65535)
  pub both_full : tally_answer pair 1 1 (0 ∷ 1 ∷ []) (holding 65530 34 5 0 0 0) ≡ refuse 34 65535
  pub almost_full : tally_answer pair 1 1 (0 ∷ 1 ∷ []) (holding 65530 34 4 0 0 0) ≡ accept 1
  pub dearest : tally_answer pair 1 1 (0 ∷ 1 ∷ []) (holding 2 5 0 1024 0 0) ≡ accept 1
  pub too_dear : tally_answer pair 1 1 (0 ∷ 1 ∷ []) (holding 2 5 0 1025 0 0) ≡ refuse 34 65535
  pub unchanged : tally_record pair 1 1 (0 ∷ 1 ∷ []) (holding 2 5 0 1025 0 0) ≡ holding 2 5 0 1025 0 0

pub record Claim : Type 0 where
  pub call : (b : List ℕ) (m rule : ℕ) (p : List ℕ) (t : Tally) → length t.refused ≡ 36 → OneCall b m rule p t
  pub history : (calls : List Call) → History calls
  pub extremes : (x : ℕ) (costs : List ℕ) → Extremes (x ∷ costs)
  -- while none has passed, least and greatest are 0
  pub none : (least_of [] ≡ 0) × (greatest_of [] ≡ 0)
  pub worked : Worked
