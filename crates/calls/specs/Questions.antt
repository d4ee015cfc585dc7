-- The questions asked after 1 to 10 and 31, of the ceiling just after 31, and of a record before all else: under each number, what is asked and the place that a no names.
use Rattle.std.specs.Prelude.{List, [], ◌∷◌, cond, ℕ, suc, ◌+◌, length, get_or, leb, ltb, eqb, ℤ}
use Rattle.lists.specs.Loop.{any}
use Rattle.answers.specs.Answers.{Question, ask, ask_each, refuse}
use Rattle.instance.specs.declared.Sizes.{Sizes}
use Rattle.instance.specs.Instance.{Instance, following, adjacent}
use Rattle.distances.specs.Distance.{reachable}
use Rattle.formula.specs.Formula.{Formula}
use Rattle.plan.specs.Plan.{Row, cost, plan_bytes, plan_index, plan_row, condition1, condition2, condition3, at_goal, Leaving, stays, exchanges, moves_on, occupant_leaves}
use Rattle.valuation.specs.Valuation.{right_entry, satisfied?}
use Rattle.tally.specs.declared.Tally.{Tally}
use Rattle.tally.specs.Tally.{takes_more}
use Rattle.solver_text.specs.Text.{lines}
use Rattle.solver_text.specs.Form.{text_most, right_line, offset, complete?, satisfiable?, status_place, given, times}

-- Of a formula f: is the clause number below the clause count?
abbrev pub question11 : Formula → ℕ → Question
question11 f c = ask (ltb c (length f.clauses)) (refuse 11 (length f.clauses))

-- Does the formula, or the one clause with its 0, fit the lent slice?
abbrev pub question12 : ℕ → ℕ → Question
question12 needed room = ask (leb needed room) (refuse 12 needed)

-- Has the plan exactly (m+1)·k bytes?
abbrev pub question13 : Instance → List ℕ → Question
question13 I p = ask (eqb (length p) (plan_bytes I.sizes)) (refuse 13 (length p))

-- Has the valuation exactly one entry for each variable of the formula?
abbrev pub question14 : Formula → List ℤ → Question
question14 f entries = ask (eqb (length entries) f.variables) (refuse 14 (length entries))

-- Has the slice for a decoded plan (m+1)·k bytes or more?
abbrev pub question15 : Instance → ℕ → Question
question15 I room = ask (leb (plan_bytes I.sizes) room) (refuse 15 (plan_bytes I.sizes))

-- Has the slice for a valuation an entry or more for each of N variables?
abbrev pub question16 : ℕ → ℕ → Question
question16 N room = ask (leb N room) (refuse 16 N)

-- under rule 1 the number of question 20's refusal says what the occupant of the vertex entered does
unfoldable pub occupied_number : Leaving → ℕ
occupied_number stays = 20
occupied_number exchanges = 25
occupied_number moves_on = 26

-- under rule 2 it is that of an exchange
unfoldable pub second_number : Sizes → Row → Row → ℕ → ℕ
second_number s here next a = cond (following s) 25 (occupied_number (occupant_leaves s here next a))

-- of an accepted instance with its horizon, and of the bytes p of a plan
module _ (I : Instance) (p : List ℕ) where
  open I use {sizes, start, goal}
  open sizes use {n, k, m}

  -- Is each plan byte below n?
  abbrev pub question17 : Question
  question17 = ask_each (plan_bytes sizes) (λ i. ltb (get_or p i 0) n) λ i. refuse 17 i

  -- Is row 0 the starts?
  abbrev pub question18 : Question
  question18 = ask_each k (λ a. eqb (plan_row sizes p 0 a) (start a)) λ a. refuse 18 (plan_index sizes 0 a)

  -- Does step t obey condition 1?
  abbrev pub question19 : ℕ → Question
  question19 t = ask_each k (condition1 (adjacent I) (plan_row sizes p t) (plan_row sizes p (suc t))) λ a. refuse 19 (plan_index sizes (suc t) a)

  -- Condition 2? The lowest agent that fails it decides between 20, 25 and 26.
  abbrev pub question20 : ℕ → Question
  question20 t =
      ask_each k (condition2 sizes (plan_row sizes p t) (plan_row sizes p (suc t)))
      λ a. refuse (second_number sizes (plan_row sizes p t) (plan_row sizes p (suc t)) a) (plan_index sizes (suc t) a)

  -- Condition 3?
  abbrev pub question21 : ℕ → Question
  question21 t = ask_each k (condition3 (plan_row sizes p (suc t))) λ a. refuse 21 (plan_index sizes (suc t) a)

  -- Is row m the goals? Free agents are passed over.
  abbrev pub question22 : Question
  question22 = ask_each k (at_goal goal (plan_row sizes p m)) λ a. refuse 22 (plan_index sizes m a)

-- of a formula f and a list of entries
module _ (f : Formula) (entries : List ℤ) where
  -- Is entry i the number i+1 or its negative?
  abbrev pub question23 : Question
  question23 = ask_each f.variables (right_entry entries) λ i. refuse 23 i

  -- Has every clause a true literal?
  abbrev pub question24 : Question
  question24 = ask_each (length f.clauses) (λ c. satisfied? entries (get_or f.clauses c [])) λ c. refuse 24 c

-- of the number N of a formula's variables, and of the text that a solver printed
module _ (N : ℕ) (text : List ℕ) where
  -- Is the text of the form? In three parts: Is it short enough? May each line stand where it stands? Are the s line and the 0 there?
  abbrev pub questions27 : List Question
  questions27 =
      ask (leb (length text) text_most) (refuse 27 text_most)
      ∷ ask_each (length (lines text)) (right_line text N) (λ i. refuse 27 (offset text i))
      ∷ ask (complete? (lines text)) (refuse 27 (length text))
      ∷ []

  -- Is the s line SATISFIABLE?
  abbrev pub question28 : Question
  question28 = ask (any satisfiable? (lines text)) (refuse 28 (status_place text))

  -- Is each variable given once?
  abbrev pub question29 : Question
  question29 = ask_each N (λ i. eqb (times (suc i) (given text)) 1) λ i. refuse 29 (suc i)

-- Can each goal be reached from its start? In the floor call only: of k agents with d a from start to goal, 0 for a free agent, where
-- `place` is the offset of the first goal.
abbrev pub question30 : ℕ → (ℕ → ℕ) → ℕ → Question
question30 k d place = ask_each k (λ a. reachable (d a)) λ a. refuse 30 (place + a)

-- Is the ceiling at most 128?
abbrev pub question32 : ℕ → Question
question32 c = ask (leb c 128) (refuse 32 0)

-- Does the plan cost at most c?
abbrev pub question33 : ℕ → Instance → List ℕ → Question
question33 c I p = ask (leb (cost I.sizes p) c) (refuse 33 (cost I.sizes p))

-- Does the record take one answer more?
abbrev pub question34 : Tally → Question
question34 t = ask (takes_more t) (refuse 34 65535)
