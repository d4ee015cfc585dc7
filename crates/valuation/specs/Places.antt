-- Truth as places. It stands in the contracts of `satisfaction`, for families E, F and G, and in the proofs.
use Rattle.std.specs.Prelude.{◌≡◌, ◌↔◌, ◌≢◌, Bool, ℕ, suc, ◌<◌, T}
use Rattle.instance.specs.declared.Sizes.{Sizes}
use Rattle.formula.specs.Variables.{Literal, X, ¬X}

module _ (s : Sizes) where
  open s use {n, k, m}

  -- the truth h puts agent a at P t a at time t, and nowhere else
  pub record Places (h : Literal → Bool) (P : ℕ → ℕ → ℕ) : Type 0 where
    pub inside : (t a : ℕ) → t < suc m → a < k → P t a < n
    pub here : (t a v : ℕ) → t < suc m → a < k → v < n → T (h (X s t a v)) ↔ (v ≡ P t a)
    pub elsewhere : (t a v : ℕ) → t < suc m → a < k → v < n → T (h (¬X s t a v)) ↔ (v ≢ P t a)
