-- What a function of the library returns, Ok or a refusal, as the answer of a call.
use Rattle.std.specs.Prelude.{ℕ, Result, Ok, Err}
use Rattle.answers.specs.declared.Answer.{Answer}
use Rattle.answers.specs.declared.Size.{Size}
use Rattle.answers.specs.declared.Reason.{Reason}
use Rattle.answers.specs.declared.Reason.TheVariants.{CutShort, VertexCount, AgentCount, EdgeCount, InstanceLength, ImproperEdge, EdgeOrder, BadStart, BadGoal, Horizon, ClauseNumber, FormulaRoom, PlanLength, ValuationLength, PlanRoom, ValuationRoom, NoVertex, NotAtStart, Jump, Occupied, Shared, NotAtGoal, WrongEntry, FalseClause, Exchange, ClosingUp, TextForm, Verdict, VariableCount, Unreachable, Rule, Ceiling, TooDear, FullRecord}
use Rattle.answers.specs.declared.Refusal.{Refusal}
use Rattle.answers.specs.declared.Extent.{Extent}
use Rattle.answers.specs.Answers.{refuse, accept}

-- the number of the question that is answered no
abbrev pub number_of : Reason → ℕ
number_of CutShort = 1
number_of VertexCount = 2
number_of AgentCount = 3
number_of EdgeCount = 4
number_of InstanceLength = 5
number_of ImproperEdge = 6
number_of EdgeOrder = 7
number_of BadStart = 8
number_of BadGoal = 9
number_of Horizon = 10
number_of ClauseNumber = 11
number_of FormulaRoom = 12
number_of PlanLength = 13
number_of ValuationLength = 14
number_of PlanRoom = 15
number_of ValuationRoom = 16
number_of NoVertex = 17
number_of NotAtStart = 18
number_of Jump = 19
number_of Occupied = 20
number_of Shared = 21
number_of NotAtGoal = 22
number_of WrongEntry = 23
number_of FalseClause = 24
number_of Exchange = 25
number_of ClosingUp = 26
number_of TextForm = 27
number_of Verdict = 28
number_of VariableCount = 29
number_of Unreachable = 30
number_of Rule = 31
number_of Ceiling = 32
number_of TooDear = 33
number_of FullRecord = 34

-- a refusal as an answer
abbrev pub refused : Refusal → Answer
refused r = refuse (number_of r.reason) r.place

-- what comes of the questions of a function that returns a value: the acceptance with this count of the value, or the refusal
abbrev pub answered : {A : Type 0} → (A → ℕ) → Result A Refusal → Answer
answered count (Ok x) = accept (count x)
answered count (Err r) = refused r

-- that of a function that only asks: its count is 0
abbrev pub asked : {A : Type 0} → Result A Refusal → Answer
asked r = answered (λ _. 0) r

-- that of a function that returns the count itself
abbrev pub answer_of : Result ℕ Refusal → Answer
answer_of r = answered (λ count. count) r

-- that of a size call
abbrev pub size_of : Result Extent Refusal → Size
size_of (Ok size) = record { number = 0; second = size.words; clauses = size.clauses }
size_of (Err r) = record { number = number_of r.reason; second = r.place; clauses = 0 }
