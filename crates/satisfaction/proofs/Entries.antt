-- What one row of entries says, what all rows together say, and that this is what a valuation makes true.
use mathlib.Core.Path.{◌≡◌, refl, ap, subst}
use mathlib.Core.Logic.Iff
use mathlib.Core.Logic.{◌↔◌, ◌≢◌, inl, inr, ⊎_elim, by_cases}
use mathlib.Core.List.{List}
use mathlib.Core.Bool.{Bool, true, false}
use Prim.Native.Nat.{ℕ, suc, ◌+◌, ◌*◌, ◌-◌, ◌≤◌, ◌<◌}
use native.Mathlib.Nat.{le_refl}
use native.Mathlib.Decide.{dec_lt, ℕ_discrete}
use native.Mathlib.Omega.{arith}
use lib.ListN.{length, get_or, set, take, length-set}
use lib.Seq.{get_or-set_same, get_or-set_other, get_or-take, length-take-le}
use lib.Dec.{T}
use lib.IntN.{ℤ, pos, negsuc}
use Rattle.std.specs.Prelude.{Some, Ok, Err}
use Rattle.lists.proofs.Tests.{or_iff}
use Rattle.lists.proofs.Blocks.{place_lt, place_inj}
use Rattle.answers.specs.Fault.{FirstFault, FirstFailing}
use Rattle.answers.proofs.Faults.{fault_none}
use Rattle.instance.specs.declared.Sizes.{Sizes}
use Rattle.formula.specs.Variables.{X, index, variable_count}
use Rattle.plan.specs.Plan.{plan_bytes}
use Rattle.valuation.specs.Valuation.{entry, right_entry, true?}
use Rattle.valuation.specs.Satisfying.{Valuation}
use Rattle.formula.proofs.Variables.{index_lt, vertices_run, runs_apart}
use Rattle.valuation.proofs.Entries.{same_number_iff, true_yes}
use Rattle.satisfaction.specs.Rows.{Stop, Tallied, says, denies, Seen, Came, byte_of, Read}
use Rattle.satisfaction.specs.declared.Said.{Said}
use Rattle.satisfaction.specs.declared.Said.TheVariants.{Nothing, One, Several}

module _ (es : List ℤ) where
  -- an entry is right where it says its variable or denies it, and never does both
  denied_right : (i : ℕ) → T (denies es i) → T (right_entry es i)
  denied_right i t = (or_iff (says es i) (denies es i)).1 (inr t)

  pub right_says : (i : ℕ) → T (right_entry es i) → (T (denies es i) → ⊥) → T (says es i)
  right_says i t f = ⊎_elim (λ u. u) (λ u. absurd (f u)) ((or_iff (says es i) (denies es i)).0 t)

  not_both : (i : ℕ) → T (says es i) → T (denies es i) → ⊥
  not_both i t u =
      let a : entry es i ≡ pos (suc i) = (same_number_iff (entry es i) (pos (suc i))).0 t in
      let b : entry es i ≡ negsuc i = (same_number_iff (entry es i) (negsuc i)).0 u in
      let z : ◌≡◌ {A = ℕ} 0 1 = cc in
      omega arith

  -- what is skipped says nothing
  pub skip_le : (low n r i : ℕ) → Stop (denies es) low n r → low ≤ i → T (says es i) → r ≤ i
  skip_le low n r i f h t = by_cases (dec_lt i r) (λ l. absurd (not_both i t (f.before i h l))) (λ l. omega arith)

  -- the entries of one row
  module _ (base n : ℕ) where
    abbrev q : ℕ → Bool
    q v = says es (base + v)

    abbrev Right : ℕ → Type 0
    Right r = Stop (right_entry es) base (base + n) r

    -- entry i of the row, by its vertex
    row_at : (P : ℕ → Type 0) → ((v : ℕ) → v < n → P (base + v)) → (i : ℕ) → base ≤ i → i < base + n → P i
    row_at P h i l r = let e : base + (i - base) ≡ i = omega arith in subst P e (h (i - base) (omega arith))

    module _ (count v : ℕ) (o : Tallied (λ u. denies es (base + u)) n count v) where
      pub came_none : count ≡ 0 → Came es base n (Ok Nothing)
      came_none e =
          let (z, g) = o.none e in (
            record {
              least = omega arith;
              within = le_refl _;
              before = row_at (λ i. T (right_entry es i)) (λ u l. denied_right (base + u) (g u l));
              here = λ l. absurd (let f : ⊥ = omega arith in f);
            },
            record {
              most = omega arith;
              one = λ l. absurd (let z : ⊥ = omega arith in z);
              none = λ d u l t. not_both (base + u) t (g u l);
              several = λ d. absurd (let z : ⊥ = omega arith in z);
            },
          )

      module _ (e : count ≡ 1) where
        most : v < n
        most = (o.one e).0

        rest : (u : ℕ) → u < n → u ≢ v → T (right_entry es (base + u))
        rest u l d = denied_right (base + u) ((o.one e).2 u l d)

        pub came_one : T (right_entry es (base + v)) → Came es base n (Ok (One v))
        came_one r =
            let t = right_says (base + v) r (o.one e).1 in
            let b = most in (
              record {
                least = omega arith;
                within = le_refl _;
                before = row_at (λ i. T (right_entry es i)) (λ u l. by_cases (ℕ_discrete u v) (λ p. rw p r) (λ p. rest u l p));
                here = λ r. absurd (let z : ⊥ = omega arith in z);
              },
              record {
                most = omega arith;
                one = λ x u l. (
                  (λ y. by_cases (ℕ_discrete u v) (λ p. p) (λ p. absurd (not_both (base + u) y ((o.one e).2 u l p)))),
                  (λ y. rw y t),
                );
                none = λ x. absurd (let z : ⊥ = omega arith in z);
                several = λ x. absurd (let z : ⊥ = omega arith in z);
              },
            )

        pub came_wrong : (T (right_entry es (base + v)) → ⊥) → Came es base n (Err (base + v))
        came_wrong t =
            let b = most in (
              omega arith,
              record {
                least = omega arith;
                within = omega arith;
                before = λ i h p.
                    row_at (λ i. i < base + v → T (right_entry es i)) (λ u l q. rest u l (λ z. let f : ⊥ = omega arith in f)) i h (omega arith) p;
                here = λ r. t;
              },
            )

      pub came_several : count ≢ 0 → count ≢ 1 → Right (base + n) → Came es base n (Ok Several)
      came_several d d' r = (
        r,
        let (x, y, a, b, f, g) = o.more (omega arith) in
            record {
              most = omega arith;
              one = λ l. absurd (let z : ⊥ = omega arith in z);
              none = λ d. absurd (let z : ⊥ = omega arith in z);
              several = λ q. (
                x,
                y,
                a,
                b,
                right_says (base + x) (r.before (base + x) (omega arith) (omega arith)) f,
                right_says (base + y) (r.before (base + y) (omega arith) (omega arith)) g,
              );
            },
      )

seen_cong : (n : ℕ) (f g : ℕ → Bool) (x : ℕ) → ((v : ℕ) → v < n → f v ≡ g v) → Seen n f x → Seen n g x
seen_cong n f g x e c =
    record {
      most = c.most;
      one = λ l v h. rw (e v h) at (c.one l v h);
      none = λ o v h t. c.none o v h (rw (e v h) t);
      several = λ o.
          let (v, u, a, b, y, z) = c.several o in
          (v, u, a, b, rw (e v (omega arith)) at y, rw (e u b) at z);
    }

-- ---- the rows whose entries stand below `end` are read
pub record Sofar (s : Sizes) (es : List ℤ) (vertices : List ℕ) (end : ℕ) : Type 0 where
  pub size : length vertices ≡ 528
  pub right : (j : ℕ) → j < end → T (right_entry es j)
  pub seen : (t a : ℕ) → t < suc s.m → a < s.k → index s t a 0 < end → Seen s.n (λ v. says es (index s t a v)) (get_or vertices (t * s.k + a) 0)

module _ (s : Sizes) (es : List ℤ) (vertices : List ℕ) where
  open s use {n, k, m}

  pub sofar_none : length vertices ≡ 528 → Sofar s es vertices 0
  sofar_none e =
      record {
        size = e;
        right = λ j l. absurd (let f : ⊥ = omega arith in f);
        seen = λ t a x y l. absurd (let f : ⊥ = omega arith in f);
      }

  -- the row of agent a at time t comes next
  module _ (t a : ℕ) (x : t < suc m) (y : a < k) (base : ℕ) (e : base ≡ index s t a 0) (o : Sofar s es vertices base) where
    pub sofar_more : (said : Said) → Came es base n (Ok said) → (at v : ℕ) → at ≡ t * k + a → at < 528 → v ≡ byte_of n said → Sofar s es (set vertices at v) (base + n)
    sofar_more said c at v w l ev =
        rw w (record {
          size = simp length-set o.size;
          right = λ j b. by_cases (dec_lt j base) (λ p. o.right j p) (λ p. c.0.before j (omega arith) (omega arith));
          seen = λ u b x' y' g.
              by_cases (ℕ_discrete (u * k + b) (t * k + a))
              (λ p. let (q, q') = place_inj k u b t a y' y p in rw (q, q', get_or-set_same vertices (t * k + a) v 0 (omega (arith, o.size))) here)
              (λ p. rw (get_or-set_other vertices (t * k + a) (u * k + b) v 0 p) (o.seen u b x' y' (earlier u b x' g p)));
        })
      where
        here : Seen n (λ u. says es (index s t a u)) v
        here = seen_cong n _ _ v (λ u z. ap (says es) (let q : base + u ≡ index s t a u = omega (arith, vertices_run s t a u) in q)) (rw ev c.1)

        earlier : (u b : ℕ) → u < suc m → index s u b 0 < base + n → u * k + b ≢ t * k + a → index s u b 0 < base
        earlier u b x' g p =
            ⊎_elim (λ q. omega arith) (λ q. absurd (p (rw (q.0, q.1)))) (runs_apart s t a u b x x' (omega arith))

    pub sofar_wrong : (N r : ℕ) → Came es base n (Err r) → base + n ≤ N → FirstFailing N (right_entry es) (Some r)
    sofar_wrong N r c h = (
      omega (arith, c.0),
      record {
        within = omega (arith, c.0);
        before = λ j b. by_cases (dec_lt j base) (λ p. o.right j p) (λ p. c.1.before j (omega arith) b);
        here = λ b. c.1.here c.0;
      },
    )

-- ---- truth under a valuation goes by one entry
bool_same : (a b : Bool) → T a ↔ T b → a ≡ b
bool_same true true h = refl
bool_same true false h = absurd (h.0 tt)
bool_same false true h = absurd (h.1 tt)
bool_same false false h = refl

module _ (s : Sizes) (es : List ℤ) (w : Valuation (variable_count s) es) where
  open s use {n, k, m}

  -- one entry tells
  pub read_true : (t a v : ℕ) → t < suc m → a < k → v < n → says es (index s t a v) ≡ true? es (X s t a v)
  read_true t a v x y z =
      bool_same _ _ (Iff.trans (same_number_iff (get_or es (index s t a v) (pos 0)) (pos (suc (index s t a v)))) (Iff.symm (true_yes s es w t a v x y z)))

  pub right_at : (i : ℕ) → i < variable_count s → T (right_entry es i)
  right_at i l =
      (or_iff (says es i) (denies es i)).1 (⊎_elim (λ e. inl ((same_number_iff (get_or es i (pos 0)) (pos (suc i))).1 e)) (λ e. inr ((same_number_iff (get_or es i (pos 0)) (negsuc i)).1 e)) (w.each i l))

  -- an entry that is not its variable's negative makes it true
  pub denied_or_true : (t a v : ℕ) → t < suc m → a < k → v < n → (T (denies es (index s t a v)) → T (true? es (X s t a v)) → ⊥) × ((T (denies es (index s t a v)) → ⊥) → T (true? es (X s t a v)))
  denied_or_true t a v x y z =
      let q = read_true t a v x y z in
      ((λ h h'. not_both es (index s t a v) (rw q h') h), (λ f. rw q at (right_says es (index s t a v) (right_at (index s t a v) (index_lt s t a v x y z)) f)))

-- ---- all rows are read
module _ (s : Sizes) (es : List ℤ) (e : length es ≡ variable_count s) (vertices : List ℕ) (o : Sofar s es vertices (variable_count s)) where
  open s use {n, k, m}

  pub done_right : FirstFault (variable_count s) (right_entry es) (variable_count s)
  done_right = fault_none refl o.right

  valid : Valuation (variable_count s) es
  valid =
      record {
        size = e;
        each = λ i l.
            ⊎_elim
            (λ u. inl ((same_number_iff (entry es i) (pos (suc i))).0 u))
            (λ u. inr ((same_number_iff (entry es i) (negsuc i)).0 u))
            ((or_iff (says es i) (denies es i)).0 (o.right i l));
      }

  pub done_read : 0 < n → suc m * k ≤ 528 → Read s es (take (plan_bytes s) vertices)
  done_read z h =
      record {
        size = length-take-le (plan_bytes s) vertices (omega (arith, o.size));
        valid = valid;
        seen = λ t a x y.
            rw (get_or-take (plan_bytes s) vertices (t * k + a) 0 (place_lt (suc m) k t a x y))
            (seen_cong n _ _ _ (λ v z. read_true s es valid t a v x y z) (o.seen t a x y (index_lt s t a 0 x y z)));
      }
