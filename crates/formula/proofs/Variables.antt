-- X's numbers: all there is to know of `index`. Agent by agent and time by time the vertices' numbers follow one another from 1 to N.
use mathlib.Core.Path.{◌≡◌, ap}
use mathlib.Core.Logic.{◌⊎◌, inl, inr, by_cases}
use Prim.Native.Nat.{ℕ, suc, ◌+◌, ◌*◌, ◌≤◌, ◌<◌}
use native.Mathlib.Nat.{add-mul, mul_assoc, mul_comm, mul_left_comm, suc-mul, zero-mul, mul-le-mul_right}
use native.Mathlib.Numerals.{add-one}
use native.Mathlib.Decide.{dec_lt}
use native.Mathlib.Omega.{arith}
use Rattle.lists.proofs.Blocks.{place_lt, place_split, place_inj}
use Rattle.instance.specs.declared.Sizes.{Sizes}
use Rattle.instance.specs.Limits.{Limits}
use Rattle.formula.specs.Variables.{variable_count, index, highest}
use Rattle.formula.proofs.Limits.{rows, variables_most}

module _ (s : Sizes) where
  open s use {n, k, m}

  count_eq : k * suc m * n ≡ variable_count s
  count_eq = simp (mul_comm, mul_left_comm)

  pub index_is : (t a v : ℕ) → index s t a v ≡ (a * (m + 1) + t) * n + v
  unfolding index
  index_is t a v = rw add-one

  -- the agents before and the times before
  pub index_before : (t a : ℕ) → index s t a 0 ≡ a * (suc m * n) + t * n
  unfolding index
  index_before t a = omega (arith, add-mul (a * suc m) t n, mul_assoc a (suc m) n)

  -- the numbers of agent a at time t: a run of n, from that of vertex 0 on
  pub run_fits : (t a : ℕ) → t < suc m → a < k → index s t a 0 + n ≤ variable_count s
  unfolding index
  run_fits t a p q = omega (arith, count_eq, suc-mul (a * suc m + t) n, mul-le-mul_right n (place_lt k (suc m) a t q p))

  pub vertices_run : (t a v : ℕ) → suc (index s t a 0) + v ≡ suc (index s t a v)
  unfolding index
  vertices_run t a v = omega arith

  -- X(t,a,v) in range has an index below N, and each index below N is that of some X in range
  pub index_lt : (t a v : ℕ) → t < suc m → a < k → v < n → index s t a v < variable_count s
  index_lt t a v p q r = omega (arith, run_fits t a p q, vertices_run t a v)

  pub index_onto : (i : ℕ) → i < variable_count s → (t a v : ℕ) × (t < suc m) × (a < k) × (v < n) × (i ≡ index s t a v)
  unfolding index
  index_onto i h =
      let (r, v, p, q, e) = place_split (k * suc m) n i (rw count_eq h) in
      let (a, t, p', q', e') = place_split k (suc m) r p in
      (t, a, v, q', p', q, rw (← e') e)

  pub index_inj : (t a v u b w : ℕ) → t < suc m → u < suc m → v < n → w < n → index s t a v ≡ index s u b w → (t ≡ u) × (a ≡ b) × (v ≡ w)
  unfolding index
  index_inj t a v u b w x x' z z' e =
      let (f, g) = place_inj n (a * suc m + t) v (b * suc m + u) w z z' e in
      let (h, i) = place_inj (suc m) a t b u x x' f in
      (i, h, g)

  -- the runs in their order: time after time, agent after agent
  pub first_run : index s 0 0 0 ≡ 0
  unfolding index
  first_run = simp zero-mul

  pub next_run : (t a : ℕ) → index s (t + 1) a 0 ≡ index s t a 0 + n
  unfolding index
  next_run t a = omega (arith, add-mul (a * suc m + t) 1 n)

  pub next_agent : (a : ℕ) → index s 0 (a + 1) 0 ≡ index s (suc m) a 0
  unfolding index
  next_agent a = omega (arith, ap (λ (x : ℕ). x * n) (let e : (a + 1) * suc m + 0 ≡ a * suc m + suc m = rw (add-one, suc-mul) (omega arith) in e))

  pub last_run : index s 0 k 0 ≡ variable_count s
  unfolding index
  last_run = omega (arith, count_eq)

  -- a run that begins before the end of another begins before it, or is the same
  pub runs_apart : (t a p b : ℕ) → t < suc m → p < suc m → index s p b 0 < index s t a 0 + n → (index s p b 0 < index s t a 0) ⊎ ((p ≡ t) × (b ≡ a))
  unfolding index
  runs_apart t a p b x y l =
      by_cases (dec_lt (b * suc m + p) (a * suc m + t))
      (λ h. inl (omega (arith, suc-mul (b * suc m + p) n, mul-le-mul_right n h)))
      (λ h.
      by_cases (dec_lt (a * suc m + t) (b * suc m + p))
      (λ h'. absurd (let z : ⊥ = omega (arith, suc-mul (a * suc m + t) n, mul-le-mul_right n h') in z))
      (λ h'. let (e, e') = place_inj (suc m) b p a t y x (omega arith) in inr (e', e)))

  -- the numbers of a vertex at one time: one for each agent, (m+1)·n apart
  pub agents_run : (t v a : ℕ) → suc (index s t 0 v) + a * ((m + 1) * n) ≡ suc (index s t a v)
  unfolding index
  agents_run t v a = rw add-one (omega (arith, mul_assoc a (suc m) n, add-mul (a * suc m) t n, add-mul (0 * suc m) t n, zero-mul (suc m)))

  -- how many runs stand before one
  pub runs_before : Limits s → (t a : ℕ) → t ≤ m → a < k → a * (m + 1) + t < 528
  runs_before w t a p q = rw add-one (omega (arith, place_lt k (suc m) a t q (omega arith), mul_comm k (suc m), rows s w))

  -- the number behind each run is no larger than a literal may be
  pub vertices_fit : (t : ℕ) → Limits s → (a : ℕ) → t ≤ m → a < k → suc (index s t a 0) + n ≤ highest
  vertices_fit t w a p q = omega (arith, run_fits t a (omega arith) q, variables_most s w)

  pub agents_fit : (t : ℕ) → Limits s → (v : ℕ) → t ≤ m → v < n → suc (index s t 0 v) + k * ((m + 1) * n) ≤ highest
  agents_fit t w v p r =
      rw add-one (omega (arith, index_lt t 0 v (omega arith) w.k_least r, variables_most s w, mul_assoc k (suc m) n, count_eq))
