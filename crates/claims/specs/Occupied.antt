-- What is claimed of 20, 25 and 26: they tell how the vertex that the lowest agent at fault enters was occupied.
use Rattle.std.specs.Prelude.{◌≡◌, ◌↔◌, ◌≢◌, ◌⊎◌, List, Bool, true, false, ℕ, suc, ◌≤◌, ◌<◌, length, get_or}
use Rattle.answers.specs.declared.Answer.{Answer}
use Rattle.instance.specs.Instance.{Instance, following, instance, Edge}
use Rattle.instance.specs.Questions.{instance_answer}
use Rattle.formula.specs.Formula.{formula}
use Rattle.plan.specs.Plan.{Row, plan_bytes, plan_row, plan_index}
use Rattle.plan.specs.Passing.{Exchange, ValidStep}
use Rattle.calls.specs.Calls.{check_answer, encode_answer}

-- In the step from a row to the next row: agent a enters a vertex, and of k agents b, and no other, stood on it.
pub record Enters (k : ℕ) (here next : Row) (a b : ℕ) : Type 0 where
  pub changes : here a ≢ next a
  pub agent : b < k
  pub stood : here b ≡ next a
  pub alone : (c : ℕ) → c < k → here c ≡ next a → c ≡ b

-- What b does: it stays, it moves to the vertex that a had, or it moves to another.
abbrev pub Stays : Row → Row → ℕ → ℕ → Type 0
Stays here next a b = next b ≡ here b

abbrev pub Exchanges : Row → Row → ℕ → ℕ → Type 0
Exchanges here next a b = next b ≡ here a

abbrev pub MovesOn : Row → Row → ℕ → ℕ → Type 0
MovesOn here next a b = (next b ≢ here b) × (next b ≢ here a)

-- an answer with one of the three numbers
abbrev pub OneOfThree : Answer → Type 0
OneOfThree answer = (answer.number ≡ 20) ⊎ ((answer.number ≡ 25) ⊎ (answer.number ≡ 26))

-- an instance and a plan
module _ (I : Instance) (p : List ℕ) where
  open I use {sizes, start}
  open sizes use {n, k, m}

  abbrev P : ℕ → Row
  P = plan_row sizes p

  -- It is question 20's turn in step t: the plan has its size and holds vertices, it begins with the starts, the steps before are
  -- valid, and condition 1 holds for every agent of the step.
  pub record Turn (t : ℕ) : Type 0 where
    pub step : t < m
    pub size : length p ≡ plan_bytes sizes
    pub inside : (i : ℕ) → i < plan_bytes sizes → get_or p i 0 < n
    pub starts : (c : ℕ) → c < k → P 0 c ≡ start c
    pub before : (u : ℕ) → u < t → ValidStep I (P u) (P (suc u))
    pub crosses : (c : ℕ) → c < k → (P t c ≡ P (suc t) c) ⊎ Edge I (P t c) (P (suc t) c)

  -- agent a enters in step t a vertex on which an agent stood
  abbrev pub EntersOccupied : ℕ → ℕ → Type 0
  EntersOccupied t a = (P t a ≢ P (suc t) a) × ((c : ℕ) × (c < k) × (P t c ≡ P (suc t) a))

  -- it is at fault by condition 2: it does so, or, where agents may follow, it exchanges vertices with one
  abbrev pub AtFault : Bool → ℕ → ℕ → Type 0
  AtFault false t a = EntersOccupied t a
  AtFault true t a = (c : ℕ) × (c < k) × Exchange I (P t) (P (suc t)) a c

  -- an answer tells how agent a met agent b in step t
  pub record Tells (answer : Answer) : Type 0 where
    pub t : ℕ
    pub a : ℕ
    pub b : ℕ
    pub agent : a < k
    pub place : answer.second ≡ plan_index sizes (suc t) a
    pub turn : Turn t
    -- no lower agent is at fault
    pub lowest : (c : ℕ) → c < a → AtFault (following sizes) t c → ⊥
    -- no row up to t has a vertex twice, so exactly one agent, b, stood on the vertex that a enters
    pub apart : (u : ℕ) → u ≤ t → (c d : ℕ) → c < k → d < k → c ≢ d → P u c ≢ P u d
    pub enters : Enters k (P t) (P (suc t)) a b
    -- the number says what it does
    pub stays : (answer.number ≡ 20) ↔ Stays (P t) (P (suc t)) a b
    pub exchanges : (answer.number ≡ 25) ↔ Exchanges (P t) (P (suc t)) a b
    pub moves_on : (answer.number ≡ 26) ↔ MovesOn (P t) (P (suc t)) a b

  -- at question 20's turn some agent is at fault
  abbrev pub Meeting : Type 0
  Meeting = (t : ℕ) × (a : ℕ) × Turn t × (a < k) × AtFault (following sizes) t a

-- For all bytes, horizons, rules and plans, and both calls that ask: one of the three numbers tells how the vertex was occupied; and of an
-- accepted instance, with a long enough slice for the valuation, one of them is answered wherever there is such a meeting.
pub record Claim : Type 0 where
  pub check : (b : List ℕ) (m rule : ℕ) (p : List ℕ) → OneOfThree (check_answer b m rule p) → Tells (instance b m rule) p (check_answer b m rule p)
  pub check_gives : (b : List ℕ) (m rule : ℕ) (p : List ℕ) → (instance_answer b m rule).number ≡ 0 → Meeting (instance b m rule) p → OneOfThree (check_answer b m rule p)
  pub encoder : (b : List ℕ) (m rule : ℕ) (p : List ℕ) (room : ℕ) → OneOfThree (encode_answer b m rule p room) → Tells (instance b m rule) p (encode_answer b m rule p room)
  pub encoder_gives : (b : List ℕ) (m rule : ℕ) (p : List ℕ) (room : ℕ) → (instance_answer b m rule).number ≡ 0 → (formula (instance b m rule)).variables ≤ room
      → Meeting (instance b m rule) p → OneOfThree (encode_answer b m rule p room)
