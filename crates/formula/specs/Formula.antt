-- The seven families of clauses, in their order. Inside one, the first index runs slowest, and each from its lowest number on.
-- A family takes only what it uses. It stands in two parts: the clauses of one block, that is of one t and a, of one t and v, or of one
-- t and an edge; and its blocks, one after another.
use Rattle.std.specs.Prelude.{List, [], ◌∷◌, ◌++◌, Bool, not, cond, ℕ, suc, ltb, eqb, ℤ, pos}
use Rattle.lists.specs.Loop.{for, when, each}
use Rattle.instance.specs.declared.Sizes.{Sizes}
use Rattle.instance.specs.Instance.{Instance, following, free, adjacent}
use Rattle.formula.specs.Variables as variables
use Rattle.formula.specs.Variables.{Literal, variable_count}

abbrev pub Clause : Type 0
Clause = List Literal

-- no two hold of things numbered below n: for each v, w with v < w the clause ¬x v, ¬x w, where ¬x v says that v does not
abbrev pub no_two : ℕ → (ℕ → Literal) → List Clause
no_two n ¬x = for n λ v. for n λ w. when (ltb v w) ((¬x v ∷ ¬x w ∷ []) ∷ [])

module _ (s : Sizes) where
  open s use {n, k, e, m}

  abbrev X : ℕ → ℕ → ℕ → Literal
  X = variables.X s

  abbrev ¬X : ℕ → ℕ → ℕ → Literal
  ¬X = variables.¬X s

  -- agent a is at its start at time 0
  abbrev pub block_a : (ℕ → ℕ) → ℕ → List Clause
  block_a start a = (X 0 a (start a) ∷ []) ∷ []

  unfoldable pub A : (ℕ → ℕ) → List Clause
  A start = for k λ a. block_a start a

  -- agent a is at its goal at time m, if it has one
  abbrev pub block_b : (ℕ → ℕ) → ℕ → List Clause
  block_b goal a = when (not (free (goal a))) ((X m a (goal a) ∷ []) ∷ [])

  unfoldable pub B : (ℕ → ℕ) → List Clause
  B goal = for k λ a. block_b goal a

  -- at time t agent a is at some vertex
  abbrev pub somewhere : ℕ → ℕ → Clause
  somewhere t a = for n λ v. X t a v ∷ []

  abbrev pub block_c : ℕ → ℕ → List Clause
  block_c t a = somewhere t a ∷ []

  unfoldable pub C : List Clause
  C = for (suc m) λ t. for k λ a. block_c t a

  -- at time t agent a is not at two vertices v < w
  abbrev pub block_d : ℕ → ℕ → List Clause
  block_d t a = no_two n λ v. ¬X t a v

  unfoldable pub D : List Clause
  D = for (suc m) λ t. for k λ a. block_d t a

  -- at time t two agents a < b are not both at v
  abbrev pub block_e : ℕ → ℕ → List Clause
  block_e t v = no_two k λ a. ¬X t a v

  unfoldable pub E : List Clause
  E = for (suc m) λ t. for n λ v. block_e t v

  -- X(t,a,w) for each w near, rising
  abbrev pub nearby : (ℕ → Bool) → ℕ → ℕ → List Literal
  nearby near t a = for n λ w. when (near w) (X t a w ∷ [])

  -- agent a at v at time t keeps v or goes to a neighbour of v
  abbrev pub onward : (ℕ → Bool) → ℕ → ℕ → ℕ → Clause
  onward near t a v = ¬X t a v ∷ X (suc t) a v ∷ nearby near (suc t) a

  abbrev pub block_f : (ℕ → ℕ → Bool) → ℕ → ℕ → List Clause
  block_f near t a = for n λ v. onward (near v) t a v ∷ []

  unfoldable pub F : (ℕ → ℕ → Bool) → List Clause
  F near = for m λ t. for k λ a. block_f near t a

  -- G under rule 1: where another agent b is at v at time t, agent a is not at v at time t + 1
  abbrev pub no_following : ℕ → ℕ → List Clause
  no_following t a = for k λ b. when (not (eqb a b)) (for n λ v. (¬X t b v ∷ ¬X (suc t) a v ∷ []) ∷ [])

  -- under rule 2: agents a and b do not exchange u and v
  abbrev pub exchange : ℕ → ℕ → ℕ → ℕ → ℕ → Clause
  exchange t u v a b = ¬X t a u ∷ ¬X (suc t) a v ∷ ¬X t b v ∷ ¬X (suc t) b u ∷ []

  -- no two agents do, across the edge with the low end u and the high end v
  abbrev pub no_exchange : ℕ → ℕ → ℕ → List Clause
  no_exchange t u v = for k λ a. for k λ b. when (not (eqb a b)) (exchange t u v a b ∷ [])

  -- the edges in stored order: edge j has the ends low j and high j
  unfoldable pub G : (ℕ → ℕ) → (ℕ → ℕ) → List Clause
  G low high = cond (following s) (for m λ t. for e λ j. no_exchange t (low j) (high j)) (for m λ t. for k λ a. no_following t a)

-- all clauses; a clause's number is its place here, from 0
module _ (I : Instance) where
  open I use {sizes, low, high, start, goal}

  unfoldable pub clauses : List Clause
  clauses = A sizes start ++ B sizes goal ++ C sizes ++ D sizes ++ E sizes ++ F sizes (adjacent I) ++ G sizes low high

-- a formula is its number of variables, and its clauses
pub record Formula : Type 0 where
  pub variables : ℕ
  pub clauses : List Clause

-- the formula of an instance and a horizon
abbrev pub formula : Instance → Formula
formula I = record { variables = variable_count I.sizes; clauses = clauses I }

-- a clause in a formula: its literals and then 0
abbrev pub line : Clause → List ℤ
line clause = clause ++ pos 0 ∷ []

-- a formula's words
unfoldable pub words : Formula → List ℤ
words f = each line f.clauses
