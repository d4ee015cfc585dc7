-- The marks of the variables given, and what the lines of a text say. They stand in contracts.
use Rattle.std.specs.Prelude.{◌≡◌, List, [], ◌∷◌, cond, ℕ, zero, suc, ◌+◌, length, get_or, set, ℤ, pos, negsuc, false, Option, None, Some, Result, Ok, Err}
use Rattle.lists.specs.Loop.{any}
use Rattle.answers.specs.Answers.{Question, refuse, decide}
use Rattle.solver_text.specs.declared.Said.{Said}
use Rattle.solver_text.specs.Text.{pieces, zero?, tokens?, kind, same, satisfiable, unsatisfiable, unknown}
use Rattle.solver_text.specs.Walk.{right?, after, said_after, wrong_lines}
use Rattle.solver_lines.specs.declared.Mark.{Mark}
use Rattle.solver_lines.specs.declared.Mark.TheVariants.{Absent, Positive, Negative, Repeated}
use Rattle.solver_lines.specs.declared.Status.{Status}
use Rattle.solver_lines.specs.declared.Status.TheVariants.{Satisfiable, Unsatisfiable, Unknown}
use Rattle.solver_lines.specs.declared.Values.{Values}
use Rattle.solver_lines.specs.declared.Line.{Line}

-- ---- marks, that of variable i + 1 at place i
-- the mark after one that is given as `sign`
abbrev pub again : Mark → Mark → Mark
again Absent sign = sign
again Positive sign = Repeated
again Negative sign = Repeated
again Repeated sign = Repeated

-- the marks after a number; 0 is no literal
unfoldable pub mark : List Mark → ℤ → List Mark
mark ms (pos zero) = ms
mark ms (pos (suc i)) = set ms i (again (get_or ms i Absent) Positive)
mark ms (negsuc i) = set ms i (again (get_or ms i Absent) Negative)

unfoldable pub marked : List Mark → List ℤ → List Mark
marked ms [] = ms
marked ms (v ∷ vs) = marked (mark ms v) vs

-- ---- lines
-- what the tokens of l say, which begins at `at`, where they are right
unfoldable pub values_of : ℕ → List ℕ → ℕ → Option Values
values_of N l at = cond (tokens? N false (pieces 32 l)) (Some (record { closed = any zero? (pieces 32 l); end = at + length l })) None

-- the s line's kind
unfoldable pub status_of : List ℕ → Option Status
status_of l =
    cond (same l satisfiable) (Some Satisfiable) (cond (same l unsatisfiable) (Some Unsatisfiable) (cond (same l unknown) (Some Unknown) None))

-- what the line l says, which begins at `at`, after those that said `said`, where it is right
unfoldable pub line_of : ℕ → List ℕ → ℕ → Said → Option Line
line_of N l at said = cond (right? N said (kind l)) (Some (record { end = at + length l; said = after at said (kind l) })) None

-- what the lines ls say, from the offset `at` on, or the offset of the first wrong one
abbrev pub IsLines : ℕ → List (List ℕ) → ℕ → Said → Result Said ℕ → Type 0
IsLines N ls at said (Ok s) = (wrong_lines N at said ls ≡ []) × (s ≡ said_after at said ls)
IsLines N ls at said (Err place) = (qs : List Question) (c : ℕ) → decide (wrong_lines N at said ls ∷ qs) c ≡ refuse 27 place
