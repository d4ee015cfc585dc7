-- The form met line after line, from the offset `at` on, after lines that said `said`: as a loop meets it. `proofs/Walk` shows that it
-- is the form of `Form`.
use Rattle.std.specs.Prelude.{List, [], ◌∷◌, ◌++◌, Bool, true, false, not, ◌&&◌, ◌||◌, ℕ, ◌+◌, length, None, Some, is_some, option_map, unwrap_or}
use Rattle.lists.specs.Loop.{unless, any}
use Rattle.answers.specs.Answers.{Question, refuse}
use Rattle.solver_text.specs.declared.Said.{Said}
use Rattle.solver_text.specs.Text.{Kind, skipped, status, values, neither, kind, tokens?, zero?}

abbrev pub nothing : Said
nothing = record { verdict = None; closed = false }

-- there was an s line; one was SATISFIABLE; the offset of the first, or p where there was none
abbrev pub stated? : Said → Bool
stated? said = is_some said.verdict

abbrev pub satisfied? : Said → Bool
satisfied? said = unwrap_or (option_map (λ v. v.satisfiable) said.verdict) false

abbrev pub place_or : ℕ → Said → ℕ
place_or p said = unwrap_or (option_map (λ v. v.place) said.verdict) p

-- may a line of this kind stand here?
abbrev pub right? : ℕ → Said → Kind → Bool
right? N said skipped = true
right? N said (status s) = not (stated? said)
right? N said (values ts) = tokens? N said.closed ts
right? N said neither = false

-- what has been said after it; `at` is its offset
abbrev pub after : ℕ → Said → Kind → Said
after at said skipped = said
after at said (status s) =
    record { verdict = Some (record { satisfiable = satisfied? said || s; place = place_or at said }); closed = said.closed }
after at said (values ts) = record { verdict = said.verdict; closed = said.closed || any zero? ts }
after at said neither = said

unfoldable pub said_after : ℕ → Said → List (List ℕ) → Said
said_after at said [] = said
said_after at said (l ∷ ls) = said_after (at + length l + 1) (after at said (kind l)) ls

-- a refusal for each wrong line
unfoldable pub wrong_lines : ℕ → ℕ → Said → List (List ℕ) → Question
wrong_lines N at said [] = []
wrong_lines N at said (l ∷ ls) =
    unless (right? N said (kind l)) (refuse 27 at) ++ wrong_lines N (at + length l + 1) (after at said (kind l)) ls

-- an s line is there, and where one is SATISFIABLE, so is the 0
abbrev pub whole? : Said → Bool
whole? said = stated? said && (not (satisfied? said) || said.closed)
