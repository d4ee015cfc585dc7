-- The questions of a solver's text are answered yes exactly where it has all that is asked.
use mathlib.Core.Path.{◌≡◌}
use mathlib.Core.Logic.{◌↔◌}
use mathlib.Core.List.{List}
use Prim.Native.Nat.{ℕ, suc, ◌≤◌, ◌<◌}
use lib.ListN.{length}
use lib.Dec.{T}
use Rattle.lists.specs.Loop.{all, any}
use Rattle.lists.proofs.Tests.{and_iff, leb_iff, eqb_iff}
use Rattle.answers.specs.Answers.{clear}
use Rattle.answers.proofs.Laws.{numbered, clear_iff, each_all, each_nil, ask_nil, ask_all}
use Rattle.solver_text.specs.Text.{lines}
use Rattle.solver_text.specs.Form.{text_most, right_line, complete?, satisfiable?, given, times}
use Rattle.calls.specs.Calls.{text_questions}

-- what is asked of a text about the variables 1 to N
pub record Readable (N : ℕ) (text : List ℕ) : Type 0 where
  pub short : length text ≤ text_most
  pub right : (i : ℕ) → i < length (lines text) → T (right_line text N i)
  pub complete : T (complete? (lines text))
  pub satisfied : T (any satisfiable? (lines text))
  pub once : (i : ℕ) → i < N → times (suc i) (given text) ≡ 1

module _ (N : ℕ) (text : List ℕ) where
  pub numbered_text : T (all numbered (text_questions N text))
  unfolding text_questions
  numbered_text = simp (and_iff, each_all, ask_all) ((λ f. tt), ((λ i l f. tt), ((λ f. tt), ((λ f. tt), ((λ i l f. tt), tt)))))

  pub clear_text : T (all clear (text_questions N text)) ↔ Readable N text
  unfolding text_questions
  clear_text =
      simp (and_iff, clear_iff, each_nil, ask_nil, leb_iff, eqb_iff) (
        (λ h. record { short = h.0; right = h.1.0; complete = h.1.1.0; satisfied = h.1.1.1.0; once = h.1.1.1.1.0 }),
        (λ r. (r.short, (r.right, (r.complete, (r.satisfied, (r.once, tt)))))),
      )
