-- What the form of a solver's text is, and what the reader's answer and slice say of it: one claim.
use Rattle.std.specs.Prelude.{◌≡◌, ◌↔◌, ◌⊎◌, List, [], ◌∷◌, true, false, ℕ, suc, ◌≤◌, ◌<◌, length, take, T, ℤ}
use Rattle.lists.specs.Loop.{all}
use Rattle.answers.specs.declared.Answer.{Answer}
use Rattle.answers.specs.Answers.{clear}
use Rattle.instance.specs.Instance.{Instance, instance}
use Rattle.instance.specs.Questions.{instance_answer}
use Rattle.formula.specs.Variables.{Literal}
use Rattle.formula.specs.Formula.{Formula, formula}
use Rattle.plan.specs.Plan.{plan_bytes}
use Rattle.valuation.specs.Satisfying.{True, Valuation, Satisfies, Names}
use Rattle.ceiling.specs.Ceiling.{under_ceiling}
use Rattle.decimals.specs.Decimals.{signed}
use Rattle.solver_text.specs.Text.{skipped, status, values, kind, lines, satisfiable, unsatisfiable, unknown, token?, value}
use Rattle.solver_text.specs.Cut.{Cut, DecimalText}
use Rattle.solver_text.specs.Form.{text_most, literal?, given, times, in_order}
use Rattle.solver_text.specs.Printed.{printed, gathered, some?}
use Rattle.calls.specs.Questions.{question14, question23}
use Rattle.calls.specs.Calls.{check_answer, decode_answer, read_answer, read_slice}
use Rattle.calls.specs.Ceiling.{ceiling_decode_answer, ceiling_read_answer, ceiling_read_slice}
use Rattle.claims.specs.Correspondence.{Accepts, handed_back}
use Rattle.claims.specs.Ceiling as ceiling

-- what the form's lines and tokens are
pub record Form : Type 0 where
  -- lines: the parts into which byte 10 cuts the text
  pub cut_at_lines : (text : List ℕ) → Cut 10 text (lines text)
  -- an empty line and one that begins with c are skipped
  pub empty_line : kind [] ≡ skipped
  pub comment : (l : List ℕ) → kind (99 ∷ l) ≡ skipped
  -- s lines: "s SATISFIABLE", and the other two, byte for byte
  pub status_line : (l : List ℕ) → (kind l ≡ status true) ↔ (l ≡ satisfiable)
  pub other_line : (l : List ℕ) → (kind l ≡ status false) ↔ ((l ≡ unsatisfiable) ⊎ (l ≡ unknown))
  -- v lines: those that begin "v "; their tokens are the parts into which byte 32 cuts the rest
  pub cut_at_spaces : (rest : List ℕ) → (ts : List (List ℕ)) × (kind (118 ∷ 32 ∷ rest) ≡ values ts) × Cut 32 rest ts
  pub only_those : (l : List ℕ) (ts : List (List ℕ)) → kind l ≡ values ts → (rest : List ℕ) × (l ≡ 118 ∷ 32 ∷ rest)
  -- a token is right exactly when it is the decimal text of a number from -N to N, and it says that number
  pub tokens : (N : ℕ) (t : List ℕ) → T (token? N t) ↔ DecimalText N t
  pub token_says : (w : ℤ) → value (signed w) ≡ w

-- A reader, of an instance I and a formula F of it: by its answers and slices, by those of the decoder that is to be given what it reads, and
-- by the plan check's answers.
module _ (I : Instance) (F : Formula) (read : List ℕ → ℕ → Answer) (slice : List ℕ → List ℤ → List ℤ) (decode : List ℤ → ℕ → Answer) (handed_back : List ℤ → List ℕ → List ℕ) (check : List ℕ → Answer) where
  open F use {variables}

  -- the valuation read: the first entries of its slice z
  abbrev pub entries_read : List ℕ → List ℤ → List ℤ
  entries_read text z = take variables (slice text z)

  pub record Reader : Type 0 where
    -- what is accepted is a valuation of the formula's variables, for which 14 and 23 are answered yes
    pub valuation : (text : List ℕ) (z : List ℤ) → Accepts (read text (length z))
        → Valuation variables (entries_read text z)
        × T (all clear (question14 F (entries_read text z) ∷ question23 F (entries_read text z) ∷ []))
    -- its entries are exactly the literals of the text
    pub literals : (text : List ℕ) (z : List ℤ) → Accepts (read text (length z))
        → (literal : Literal) → True (entries_read text z) literal ↔ True (given text) literal
    -- the competition's text of any valuation, its v lines cut anywhere, is accepted and reads back to the same entries
    pub back : (groups : List (List ℤ)) (last z : List ℤ) → T (all some? groups) → Valuation variables (gathered groups last) → variables ≤ length z
        → Accepts (read (printed groups last) (length z)) × (entries_read (printed groups last) z ≡ gathered groups last)
    -- so is that of any literals of the variables, in any order, each variable once; they are read in variable order
    pub any_order : (groups : List (List ℤ)) (last z : List ℤ) → T (all some? groups) → T (all (literal? variables) (gathered groups last))
        → ((i : ℕ) → i < variables → times (suc i) (gathered groups last) ≡ 1) → length (printed groups last) ≤ text_most → variables ≤ length z
        → Accepts (read (printed groups last) (length z)) × (entries_read (printed groups last) z ≡ in_order variables (gathered groups last))
    -- where the literals of an accepted text satisfy the formula, the decoder comes to the plan that they name, which passes the check
    pub plan : (text : List ℕ) (z : List ℤ) (s : List ℕ) → Accepts (read text (length z)) → plan_bytes I.sizes ≤ length s → Satisfies F (given text)
        → Accepts (decode (entries_read text z) (length s))
        × Names I.sizes (given text) (handed_back (entries_read text z) s)
        × Accepts (check (handed_back (entries_read text z) s))

pub record Claim : Type 0 where
  pub form : Form
  -- for every accepted instance, horizon and rule
  pub reader : (b : List ℕ) (m rule : ℕ) → Accepts (instance_answer b m rule)
      → Reader (instance b m rule) (formula (instance b m rule)) (read_answer b m rule) (read_slice b m rule) (decode_answer b m rule) (handed_back b m rule) (check_answer b m rule)
  -- and with every ceiling from 0 to 128: the variables are then all of them, and the decoder that with the ceiling
  pub ceiling_reader : (b : List ℕ) (m rule c : ℕ) → Accepts (instance_answer b m rule) → c ≤ 128
      → Reader (instance b m rule) (under_ceiling c (instance b m rule)) (ceiling_read_answer b m rule c) (ceiling_read_slice b m rule c) (ceiling_decode_answer b m rule c) (ceiling.handed_back b m rule c) (check_answer b m rule)
