-- `formula_printer::asked` meets its contract: behind the byte m stands the instance. Assumes nothing.
use mathlib.Core.Path.{◌≡◌, refl}
use mathlib.Core.List.{List, [], ◌∷◌}
use Prim.Native.Nat.{ℕ}
use native.Mathlib.Omega.{arith}
use lib.ListN.{length}
use Rattle.formula_printer.specs.Output.{answer_status, input_status}
use Rattle.formula_printer.proofs.asked.Goals as goal

empty : (input : List ℕ) → length input ≡ 0 → input_status input ≡ answer_status input 0
unfolding input_status
empty [] h = refl
empty (x ∷ input) h = absurd (let z : ⊥ = omega arith in z)

begun : (input b : List ℕ) (m : ℕ) → input ≡ m ∷ b → input_status input ≡ answer_status b m
unfolding input_status
begun input b m e = rw e refl

pub returns-in-Some : goal.returns-in-Some
returns-in-Some c = rw c.from.ensures (begun c.args.input.now c.in-Some.b.now c.in-Some.m.now c.in-Some.ensures.cases.0)

pub returns-in-None : goal.returns-in-None
returns-in-None c = empty c.args.input.now c.in-None.ensures.cases
