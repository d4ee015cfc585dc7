-- What the marks of the variables say. They stand in contracts.
use Rattle.std.specs.Prelude.{◌≡◌, List, [], ◌∷◌, ◌++◌, Bool, true, false, ℕ, suc, get_or, ℤ, pos, neg_ℤ}
use Rattle.lists.specs.Loop.{for}
use Rattle.answers.specs.Answers.{Question}
use Rattle.formula.specs.Variables.{Literal}
use Rattle.solver_text.specs.Form.{in_order}
use Rattle.solver_lines.specs.declared.Mark.{Mark}
use Rattle.solver_lines.specs.declared.Mark.TheVariants.{Absent, Positive, Negative, Repeated}
use Rattle.calls.specs.Questions.{questions27, question28}

-- given once
abbrev pub once? : Mark → Bool
once? Absent = false
once? Positive = true
once? Negative = true
once? Repeated = false

-- the entry of variable i + 1 that its mark says
abbrev pub entry_of : Mark → ℕ → ℤ
entry_of Absent i = neg_ℤ (pos (suc i))
entry_of Positive i = pos (suc i)
entry_of Negative i = neg_ℤ (pos (suc i))
entry_of Repeated i = neg_ℤ (pos (suc i))

abbrev pub entries_of : ℕ → List Mark → List ℤ
entries_of N marks = for N λ i. entry_of (get_or marks i Absent) i ∷ []

-- the marks say the entries of these literals in variable order
abbrev pub Says : ℕ → List Literal → List Mark → Type 0
Says N vs marks = entries_of N marks ≡ in_order N vs

-- 27 and 28
unfoldable pub form_questions : ℕ → List ℕ → List Question
form_questions N text = questions27 N text ++ question28 N text ∷ []
