-- The correspondence of satisfying valuations and passing plans: one claim, about the answers and the slices of the plan check,
-- the decoder and the encoder.
use Rattle.std.specs.Prelude.{◌≡◌, ◌↔◌, List, ℕ, ◌≤◌, length, take, ℤ}
use Rattle.answers.specs.declared.Answer.{Answer}
use Rattle.instance.specs.Instance.{Instance, instance}
use Rattle.formula.specs.Formula.{Formula, formula}
use Rattle.plan.specs.Plan.{plan_bytes, makespan}
use Rattle.valuation.specs.Satisfying.{Valuation, Satisfies, Names}
use Rattle.instance.specs.Questions.{instance_answer}
use Rattle.calls.specs.Calls.{check_answer, decode_answer, decode_slice, encode_answer, encode_slice}

-- a call accepts when its answer's number is 0
abbrev pub Accepts : Answer → Type 0
Accepts answer = answer.number ≡ 0

-- for the instance bytes b, the horizon m and the rule
module _ (b : List ℕ) (m rule : ℕ) where
  abbrev I : Instance
  I = instance b m rule

  -- the base formula
  abbrev base : Formula
  base = formula I

  -- how many bytes a plan has, and how many variables the formula
  abbrev pub bytes : ℕ
  bytes = plan_bytes I.sizes

  abbrev pub N : ℕ
  N = base.variables

  -- the plan handed back: the first (m+1)·k bytes of the plan slice s
  abbrev pub handed_back : List ℤ → List ℕ → List ℕ
  handed_back entries s = take bytes (decode_slice b m rule entries s)

  -- the valuation written: the first N entries of its slice z
  abbrev pub written : List ℕ → List ℤ → List ℤ
  written p z = take N (encode_slice b m rule p z)

  pub record Correspondence : Type 0 where
    -- the decoder accepts a list of entries exactly when it is a valuation of the formula's variables that satisfies every clause
    pub decoder : (entries : List ℤ) (s : List ℕ) → bytes ≤ length s
        → Accepts (decode_answer b m rule entries (length s)) ↔ (Valuation N entries × Satisfies base entries)
    -- the plan handed back is the one that the valuation names, and it passes the check
    pub decoded : (entries : List ℤ) (s : List ℕ) → bytes ≤ length s → Accepts (decode_answer b m rule entries (length s))
        → Names I.sizes entries (handed_back entries s) × Accepts (check_answer b m rule (handed_back entries s))
    -- no two accepted valuations give one plan
    pub injective : (entries others : List ℤ) (s z : List ℕ) → bytes ≤ length s → bytes ≤ length z
        → Accepts (decode_answer b m rule entries (length s)) → Accepts (decode_answer b m rule others (length z))
        → handed_back entries s ≡ handed_back others z → entries ≡ others
    -- the encoder accepts bytes exactly when the plan check passes them
    pub encoder : (p : List ℕ) (z : List ℤ) → N ≤ length z
        → Accepts (encode_answer b m rule p (length z)) ↔ Accepts (check_answer b m rule p)
    -- what it writes is a satisfying valuation that names that plan, and the decoder turns it back into the same bytes
    pub encoded : (p : List ℕ) (z : List ℤ) → N ≤ length z → Accepts (encode_answer b m rule p (length z))
        → Valuation N (written p z) × Satisfies base (written p z) × Names I.sizes (written p z) p
        × ((s : List ℕ) → bytes ≤ length s
        → Accepts (decode_answer b m rule (written p z) (length s)) × (handed_back (written p z) s ≡ p))
    -- some valuation satisfies the formula exactly when some plan of makespan m passes the check
    pub satisfiable : ((entries : List ℤ) × Valuation N entries × Satisfies base entries)
        ↔ ((p : List ℕ) × (makespan I.sizes.k p ≡ m) × Accepts (check_answer b m rule p))

-- for every accepted instance, horizon and rule
abbrev pub Claim : Type 0
Claim = (b : List ℕ) (m rule : ℕ) → Accepts (instance_answer b m rule) → Correspondence b m rule
