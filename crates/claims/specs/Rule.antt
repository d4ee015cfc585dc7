-- What is claimed of the movement rule itself: when 31 is answered, which numbers do not occur under rule 2, that what passes under rule 1
-- passes under rule 2, and where a clause of G stands under rule 2. What the other files claim, they claim under either rule.
use Rattle.std.specs.Prelude.{◌≡◌, ◌≢◌, List, [], ℕ, suc, ◌+◌, ◌*◌, ◌-◌, ◌≤◌, ◌<◌, get_or, T, ℤ}
use Rattle.lists.specs.Loop.{all}
use Rattle.answers.specs.Answers.{clear}
use Rattle.instance.specs.Instance.{Instance, Counted, instance}
use Rattle.instance.specs.Questions.{bytes_questions, instance_answer}
use Rattle.formula.specs.Formula.{Formula, formula, exchange, clauses}
use Rattle.formula.specs.Counts.{clauses_by}
use Rattle.valuation.specs.Satisfying.{Valuation, Satisfies}
use Rattle.calls.specs.Calls.{size_answer, write_answer, clause_answer, check_answer, decode_answer, encode_answer, read_answer, floor_answer}
use Rattle.calls.specs.Ceiling.{ceiling_size_answer, ceiling_write_answer, ceiling_decode_answer, ceiling_encode_answer, ceiling_read_answer}
use Rattle.claims.specs.Correspondence.{Accepts, N}

-- number and second of every answer of the calls that are given a rule
pub record Every (b : List ℕ) (m rule : ℕ) (Holds : ℕ → ℕ → Type 0) : Type 0 where
  pub size : (f : Instance → Formula) → Holds (size_answer f b m rule).number (size_answer f b m rule).second
  pub writer : (f : Instance → Formula) (room : ℕ) → Holds (write_answer f b m rule room).number (write_answer f b m rule room).second
  pub clause : (c room : ℕ) → Holds (clause_answer b m rule c room).number (clause_answer b m rule c room).second
  pub check : (p : List ℕ) → Holds (check_answer b m rule p).number (check_answer b m rule p).second
  pub decoder : (entries : List ℤ) (room : ℕ) → Holds (decode_answer b m rule entries room).number (decode_answer b m rule entries room).second
  pub encoder : (p : List ℕ) (room : ℕ) → Holds (encode_answer b m rule p room).number (encode_answer b m rule p room).second
  pub reader : (text : List ℕ) (room : ℕ) → Holds (read_answer b m rule text room).number (read_answer b m rule text room).second
  -- with a ceiling
  pub ceiling_size : (c : ℕ) → Holds (ceiling_size_answer b m rule c).number (ceiling_size_answer b m rule c).second
  pub ceiling_writer : (c room : ℕ) → Holds (ceiling_write_answer b m rule c room).number (ceiling_write_answer b m rule c room).second
  pub ceiling_decoder : (c : ℕ) (entries : List ℤ) (room : ℕ)
      → Holds (ceiling_decode_answer b m rule c entries room).number (ceiling_decode_answer b m rule c entries room).second
  pub ceiling_encoder : (c : ℕ) (p : List ℕ) (room : ℕ) → Holds (ceiling_encode_answer b m rule c p room).number (ceiling_encode_answer b m rule c p room).second
  pub ceiling_reader : (c : ℕ) (text : List ℕ) (room : ℕ) → Holds (ceiling_read_answer b m rule c text room).number (ceiling_read_answer b m rule c text room).second

-- some valuation satisfies the formula
abbrev pub Satisfiable : List ℕ → ℕ → ℕ → Type 0
Satisfiable b m rule = (entries : List ℤ) × Valuation (N b m rule) entries × Satisfies (formula (instance b m rule)) entries

-- agent b stands at this place among the agents other than a
pub record PlaceOf (a b place : ℕ) : Type 0 where
  pub below : b < a → place ≡ b
  pub above : a < b → suc place ≡ b

-- under rule 2: behind the six families before it, the clause of time t, edge j and agents a and b
module _ (I : Instance) where
  open I use {sizes, low, high}
  open sizes use {k, e, m}

  abbrev pub before_g : ℕ
  before_g = let c = clauses_by sizes in c.A + c.B + c.C + c.D + c.E + c.F

  abbrev pub InG : Type 0
  InG = (t j a b place : ℕ) → t < m → j < e → a < k → b < k → a ≢ b → PlaceOf a b place
      → get_or (clauses I) (before_g + ((t * e + j) * (k * (k - 1)) + (a * (k - 1) + place))) [] ≡ exchange sizes t (low j) (high j) a b

pub record Claim : Type 0 where
  -- a rule that is neither 1 nor 2 gets 31 and place 0 from every call that is given it, where 1 to 10 are answered yes
  pub refused : (b : List ℕ) (m rule : ℕ) → T (all clear (bytes_questions b)) → m ≤ 32 → rule ≢ 1 → rule ≢ 2
      → Every b m rule (λ number place. (number ≡ 31) × (place ≡ 0))
  -- where one of them is answered no, the answer is the same under every number given as rule; 1 and 2 pass alike
  pub sooner : (b : List ℕ) (m rule : ℕ) → (instance_answer b m 1).number ≢ 0 → instance_answer b m rule ≡ instance_answer b m 1
  pub alike : (b : List ℕ) (m : ℕ) → instance_answer b m 2 ≡ instance_answer b m 1
  -- under rule 2 no answer has number 20 or 26, and the floor's never does
  pub never : (b : List ℕ) (m : ℕ) → Every b m 2 (λ number second. (number ≢ 20) × (number ≢ 26))
  pub never_floor : (b : List ℕ) → ((floor_answer b).number ≢ 20) × ((floor_answer b).number ≢ 26)
  -- a plan that passes under rule 1 passes under rule 2, with the same cost; so where the formula is satisfiable under 1, it is under 2
  pub follows : (b : List ℕ) (m : ℕ) (p : List ℕ) → Accepts (check_answer b m 1 p) → check_answer b m 2 p ≡ check_answer b m 1 p
  pub satisfiable : (b : List ℕ) (m : ℕ) → Accepts (instance_answer b m 1) → Satisfiable b m 1 → Satisfiable b m 2
  -- of every instance under rule 2 whose g is the number of agents that have a goal
  pub in_g : (I : Instance) → I.sizes.rule ≡ 2 → Counted I → InG I
