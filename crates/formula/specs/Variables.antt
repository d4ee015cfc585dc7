-- Variables and literals.
use Rattle.std.specs.Prelude.{ℕ, suc, ◌+◌, ◌*◌, ℤ, pos, neg_ℤ}
use Rattle.instance.specs.declared.Sizes.{Sizes}

-- A literal is a variable number, or its negative for "not".
abbrev pub Literal : Type 0
Literal = ℤ

-- It is a signed number of 32 bits, so no variable number is above this.
abbrev pub highest : ℕ
highest = 2147483647

module _ (s : Sizes) where
  open s use {n, k, m}

  -- N
  abbrev pub variable_count : ℕ
  variable_count = n * k * suc m

  -- The number of X(t,a,v) is 1 + (a·(m+1) + t)·n + v. What is added to 1 is the index of the variable's entry in a valuation.
  unfoldable pub index : ℕ → ℕ → ℕ → ℕ
  index t a v = (a * suc m + t) * n + v

  -- X(t,a,v): agent a is at vertex v at time t
  abbrev pub X : ℕ → ℕ → ℕ → Literal
  X t a v = pos (suc (index t a v))

  abbrev pub ¬X : ℕ → ℕ → ℕ → Literal
  ¬X t a v = neg_ℤ (X t a v)
