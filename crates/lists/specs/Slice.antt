-- A slice that has been filled from its start.
use Rattle.std.specs.Prelude.{◌≡◌, List, ◌++◌, ℕ, length, drop}

-- the elements of out first, and beyond them what s has there
unfoldable pub filled : {A : Type 0} → List A → List A → List A
filled out s = out ++ drop (length out) s

-- a slice that held s holds f: out was written to its start, and r is the length of out
abbrev pub Wrote : {A : Type 0} → List A → List A → List A → ℕ → Type 0
Wrote out s f r = (r ≡ length out) × (f ≡ filled out s)
