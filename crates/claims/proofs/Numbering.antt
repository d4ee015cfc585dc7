-- The variables' numbers, proved: the laws of `index`, and the correspondence by numbers.
use mathlib.Core.Path.{◌≡◌, sym, ap}
use mathlib.Core.Logic.Iff
use mathlib.Core.Logic.{◌↔◌, ⊎_elim}
use mathlib.Core.List.{List}
use Prim.Native.Nat.{ℕ, suc, ◌+◌, ◌*◌, ◌-◌, ◌<◌}
use native.Mathlib.Nat.{add-mul, mul_assoc, one-mul}
use native.Mathlib.Omega.{arith}
use lib.IntN.{ℤ, pos, neg_ℤ}
use Rattle.lists.proofs.Blocks.{place_lt, place_split}
use Rattle.instance.specs.declared.Sizes.{Sizes}
use Rattle.formula.specs.Variables.{X, index, variable_count}
use Rattle.formula.proofs.Variables.{index_is, index_lt, index_onto, index_inj}
use Rattle.plan.specs.Plan.{plan_row}
use Rattle.valuation.specs.Valuation.{entry}
use Rattle.valuation.specs.Satisfying.{Valuation, Names}
use Rattle.valuation.proofs.Entries.{true_yes}
use Rattle.calls.proofs.Valuation.{true_iff}
use Rattle.claims.specs.Numbering.{number, InRange, Numbers, Told, Claim}
use Rattle.claims.proofs.Correspondence.{correspondence}

module _ (s : Sizes) where
  open s use {n, k, m}

  counted : (t a v : ℕ) → suc (index s t a v) ≡ number s t a v
  counted t a v = omega (arith, index_is s t a v)

  in_stretch : (a t v : ℕ) → number s t a v ≡ 1 + a * ((m + 1) * n) + (t * n + v)
  in_stretch a t v = omega (arith, add-mul (a * (m + 1)) t n, mul_assoc a (m + 1) n)

  stretch_end : (a : ℕ) → (a + 1) * ((m + 1) * n) ≡ a * ((m + 1) * n) + (m + 1) * n
  stretch_end a = omega (arith, add-mul a 1 ((m + 1) * n), one-mul ((m + 1) * n))

  numbers : Numbers s
  numbers =
      record {
        yes = λ t a v. ap pos (counted t a v);
        no = λ t a v. ap (λ (x : ℕ). neg_ℤ (pos x)) (counted t a v);
        all = λ x. (
          (λ (l, h).
              let (t, a, v, p, q, r, e) = index_onto s (x - 1) (omega arith) in
              (t, a, v, (omega arith, q, r), omega (arith, counted t a v))),
          (λ (t, a, v, (p, q, r), e).
              let l = index_lt s t a v (omega arith) q r in (omega arith, omega (arith, counted t a v))),
        );
        once = λ t a v u b w (p, q, r) (p', q', r') e.
            index_inj s t a v u b w (omega arith) (omega arith) r r' (omega (arith, counted t a v, counted u b w));
        stretch = λ a x y. (
          (λ (l, h).
              let (t, v, p, q, e) = place_split (m + 1) n (x - 1 - a * ((m + 1) * n)) (omega (arith, stretch_end a)) in
              (t, v, (omega arith, y, q), omega (arith, in_stretch a t v))),
          (λ (t, v, (p, q, r), e).
              let l = place_lt (m + 1) n t v (omega arith) r in
              (omega (arith, in_stretch a t v), omega (arith, in_stretch a t v, stretch_end a))),
        );
      }

  -- the plan that a valuation names, by numbers
  module _ (es : List ℤ) (p : List ℕ) (w : Valuation (variable_count s) es) (c : Names s es p) where
    says : (t a v : ℕ) → InRange s t a v → (entry es (index s t a v) ≡ pos (suc (index s t a v))) ↔ (plan_row s p t a ≡ v)
    says t a v (x, y, z) =
        let l : t < suc m = omega arith in
        Iff.trans (Iff.symm (true_yes s es w t a v l y z))
        (Iff.trans (true_iff es (X s t a v)) (Iff.trans (c.chosen t a v l y z) (sym, sym)))

    told : Told s es p
    told =
        record {
          yes = λ t a v r. rw (← index_is s t a v, ← counted t a v) (says t a v r);
          no = λ t a v r.
              let e = says t a v r in
              rw (← index_is s t a v, ← counted t a v) (
                (λ h d. let g = e.1 d in let z : ◌≡◌ {A = ℕ} 0 1 = cc in absurd (let f : ⊥ = omega arith in f)),
                (λ d. ⊎_elim (λ h. absurd (d (e.0 h))) (λ h. h) (w.each (index s t a v) (index_lt s t a v (omega (arith, r.0)) r.1 r.2))),
              );
        }

pub numbering : Claim
numbering b m rule e =
    let c = correspondence b m rule e in
    record {
      numbers = numbers _;
      decoded = λ es s l h. told _ es _ ((c.decoder es s l).0 h).0 (c.decoded es s l h).0;
      encoded = λ p z l h. let (w, q, r, o) = c.encoded p z l h in told _ _ p w r;
    }
