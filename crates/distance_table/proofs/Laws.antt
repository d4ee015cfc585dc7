-- The loops of the search: the bits of a frontier one after another, then round after round.
use mathlib.Core.Path.{◌≡◌, refl, sym, ◌∙◌, ap, ap₂}
use mathlib.Core.Logic.{by_cases}
use mathlib.Core.List.{List, [], ◌++◌}
use mathlib.Core.Bool.{Bool, true, false, not, ◌&&◌, ◌||◌, cond}
use Prim.Native.Nat.{ℕ, zero, suc, ◌+◌, ◌-◌, ◌^◌, ◌≤◌, ◌<◌}
use native.Mathlib.Numerals.{add-one}
use native.Mathlib.Decide.{ℕ_discrete, dec_lt}
use native.Mathlib.Omega.{arith}
use borrow.Author.Tests.{lt-ltb, le-ltb}
use lib.Bits.{bit_and, bit_or}
use lib.Count.{count_trailing_zeros}
use lib.Dec.{ltb, eqb}
use lib.ListN.{take, length, get_or, get_or-append, set, length-set, replicate}
use lib.Seq.{length-take-le, get_or-set_same, get_or-set_other}
use Rattle.lists.specs.Loop.{some}
use Rattle.lists.proofs.Tests.{and_true, and_false, some_ext, some_skip, below_suc, below_zero}
use Rattle.bits.specs.Bits.{bit, set?}
use Rattle.bits.proofs.Bits.{bit_zero, bit_beyond, set_or, set_pow}
use Rattle.bits.proofs.Lowest.{Left, left_all, left_next, low_past, low_below, low_set, low_first}
use Rattle.instance.specs.Instance.{joined}
use Rattle.distances.specs.Distance.{unreachable, within, below}
use Rattle.distances.proofs.Rounds.{new, spread, below_next, within_next, new_next, below_done, new_beyond, within_none, below_none}
use Rattle.distances.specs.Table.{RowOf, TableOf}

unset : (x w : ℕ) → bit x w ≡ 0 → set? x w ≡ false
unset x w e = ap (λ (b : ℕ). eqb b 1) e

-- ---- the frontier's bits below `from` are done: their bytes in the row, and their neighbours' bits
pub record Spreading (near row₀ : List ℕ) (frontier d from rest : ℕ) (row : List ℕ) (reached : ℕ) : Type 0 where
  pub left : Left frontier rest from
  pub inside : from ≤ 64
  pub wide : length row ≡ 64
  pub bytes : (w : ℕ) → w < 64 → get_or row w 0 ≡ cond (set? frontier w && ltb w from) d (get_or row₀ w 0)
  pub bits : (w : ℕ) → set? reached w ≡ some from (λ u. set? frontier u && joined near u w)

module _ {near row₀ : List ℕ} {frontier d : ℕ} (fits : frontier < 2 ^ 64) where
  pub spreading_none : length row₀ ≡ 64 → Spreading near row₀ frontier d 0 frontier row₀ 0
  spreading_none l =
      record {
        left = left_all frontier fits;
        inside = omega arith;
        wide = l;
        bytes = λ w h. sym (ap (λ (b : Bool). cond (set? frontier w && b) d (get_or row₀ w 0)) (le-ltb w 0 (omega arith)) ∙ ap (λ (b : Bool). cond b d (get_or row₀ w 0)) (and_false (set? frontier w)));
        bits = λ w. unset 0 w (bit_zero w);
      }

  module _ {from rest reached : ℕ} {row : List ℕ} (s : Spreading near row₀ frontier d from rest row reached) where
    -- a bit that is not set is no turn
    same_test : (w next : ℕ) → (w < from → w < next) → (w < next → (w < from → ⊥) → bit frontier w ≡ 0) → set? frontier w && ltb w from ≡ set? frontier w && ltb w next
    same_test w next f g =
        by_cases (dec_lt w from)
        (λ l. rw (lt-ltb w from l, lt-ltb w next (f l)))
        (λ l.
        by_cases (dec_lt w next)
        (λ k. rw (unset frontier w (g k l)))
        (λ k. rw (le-ltb w from (omega arith), le-ltb w next (omega arith))))

    module _ (p : 0 < rest) where
      abbrev low : ℕ
      low = count_trailing_zeros 64 rest

      pub spreading_below : count_trailing_zeros 64 rest < 64
      spreading_below = low_below 64 frontier fits rest from s.left p

      past : from ≤ low
      past = low_past 64 frontier fits rest from s.left p

      here : set? frontier low ≡ true
      here = ap (λ (b : ℕ). eqb b 1) (low_set 64 frontier fits rest from s.left p)

      none : (u : ℕ) → from ≤ u → u < low → bit frontier u ≡ 0
      none = low_first 64 frontier fits rest from s.left p

      turned : (w : ℕ) → some (low + 1) (λ u. set? frontier u && joined near u w) ≡ some from (λ u. set? frontier u && joined near u w) || joined near low w
      turned w =
          let e : from + (low - from) ≡ low = omega (arith, past) in
          rw add-one
          (ap₂ ◌||◌
          (ap (λ (x : ℕ). some x (λ u. set? frontier u && joined near u w)) (sym e)
          ∙ some_skip from (low - from) (λ u. set? frontier u && joined near u w) (λ u a l. ap (λ (b : Bool). b && joined near u w) (unset frontier u (none u a (omega arith)))))
          (ap (λ (b : Bool). b && joined near low w) here))

      pub spreading_next : Spreading near row₀ frontier d (count_trailing_zeros 64 rest + 1) (bit_and rest (rest - 1)) (set row (count_trailing_zeros 64 rest) d) (bit_or reached (get_or near (count_trailing_zeros 64 rest) 0))
      spreading_next =
          record {
            left = left_next 64 frontier fits rest from s.left p;
            inside = omega (arith, spreading_below);
            wide = length-set row low d ∙ s.wide;
            bytes = λ w h.
                by_cases (ℕ_discrete w low)
                (λ e. rw e (get_or-set_same row low d 0 (omega (arith, s.wide, spreading_below)) ∙ sym (ap₂ (λ (a b : Bool). cond (a && b) d (get_or row₀ low 0)) here (lt-ltb low (low + 1) (omega arith)))))
                (λ f.
                get_or-set_other row low w d 0 f
                ∙ s.bytes w h
                ∙ ap (λ (b : Bool). cond b d (get_or row₀ w 0)) (same_test w (low + 1) (λ l. omega (arith, past)) (λ l k. none w (omega arith) (omega arith))));
            bits = λ w. set_or reached (get_or near low 0) w ∙ ap (λ (b : Bool). b || joined near low w) (s.bits w) ∙ sym (turned w);
          }

    -- nothing is left
    module _ (z : rest ≡ 0) where
      gone : (u : ℕ) → from ≤ u → bit frontier u ≡ 0
      gone u a = sym (s.left.above u a) ∙ ap (λ (x : ℕ). bit x u) z ∙ bit_zero u

      pub spread_bytes : (w : ℕ) → w < 64 → get_or row w 0 ≡ cond (set? frontier w) d (get_or row₀ w 0)
      spread_bytes w h =
          s.bytes w h
          ∙ ap (λ (b : Bool). cond b d (get_or row₀ w 0)) (same_test w 64 (λ l. h) (λ l k. gone w (omega arith)) ∙ ap (λ (b : Bool). set? frontier w && b) (lt-ltb w 64 h) ∙ and_true (set? frontier w))

      pub spread_bits : (w : ℕ) → set? reached w ≡ some 64 (λ u. set? frontier u && joined near u w)
      spread_bits w =
          let e : from + (64 - from) ≡ 64 = omega (arith, s.inside) in
          s.bits w
          ∙ sym (some_skip from (64 - from) (λ u. set? frontier u && joined near u w) (λ u a l. ap (λ (b : Bool). b && joined near u w) (unset frontier u (gone u a))))
          ∙ ap (λ (x : ℕ). some x (λ u. set? frontier u && joined near u w)) e

-- ---- round d comes next: the distances below d are in the row, the frontier is what is new at d, and what d edges reach is seen
pub record Round (near : List ℕ) (n v d : ℕ) (row : List ℕ) (frontier seen : ℕ) : Type 0 where
  pub inside : d ≤ n
  pub wide : length row ≡ 64
  pub known : (w : ℕ) → w < n → get_or row w 0 ≡ below n (joined near) d v w
  pub fresh : (w : ℕ) → set? frontier w ≡ new n (joined near) v d w
  pub reach : (w : ℕ) → set? seen w ≡ within n (joined near) d v w

marks : (n w : ℕ) → w < n → get_or (replicate n 255) w 0 ≡ unreachable
marks (suc n) zero h = refl
marks (suc n) (suc w) h = marks n w (omega arith)
marks zero w h = absurd (let f : ⊥ = omega arith in f)

module _ (near : List ℕ) (n v : ℕ) (few : n ≤ 64) (start : v < n) (words : (u : ℕ) → u < 64 → get_or near u 0 < 2 ^ n) where
  pub round_none : (row : List ℕ) → row ≡ replicate 64 255 → (x : ℕ) → x ≡ bit_or 0 (2 ^ v) → Round near n v 0 row x x
  round_none row e x q =
      let only : (w : ℕ) → set? x w ≡ eqb v w =
      λ w. ap (λ (y : ℕ). set? y w) q ∙ set_or 0 (2 ^ v) w ∙ ap₂ ◌||◌ (unset 0 w (bit_zero w)) (set_pow v w) in
      record {
        inside = omega arith;
        wide = ap length e;
        known = λ w h. ap (λ (r : List ℕ). get_or r w 0) e ∙ marks 64 w (omega arith) ∙ sym (below_none n (joined near) v w);
        fresh = λ w. only w ∙ sym (within_none n (joined near) v w) ∙ sym (and_true (within n (joined near) 0 v w));
        reach = λ w. only w ∙ sym (within_none n (joined near) v w);
      }

  beyond : (u w : ℕ) → u < n → n ≤ w → joined near u w ≡ false
  beyond u w h l = unset (get_or near u 0) w (bit_beyond (get_or near u 0) n w (words u (omega arith)) l)

  module _ (d frontier seen : ℕ) (row : List ℕ) (r : Round near n v d row frontier seen) where
    -- no vertex is at distance d, so none is further
    pub round_stop : frontier ≡ 0 → RowOf n near v row
    round_stop z w h =
        let e : d + (n - d) ≡ n = omega (arith, r.inside) in
        r.known w h
        ∙ sym (below_done n (joined near) v d (λ u l. sym (r.fresh u) ∙ ap (λ (x : ℕ). set? x u) z ∙ unset 0 u (bit_zero u)) (n - d) w h)
        ∙ ap (λ (x : ℕ). below n (joined near) x v w) e

    -- all distances are below n
    pub round_all : n ≤ d → RowOf n near v row
    round_all l w h = r.known w h ∙ ap (λ (x : ℕ). below n (joined near) x v w) (let e : d ≡ n = omega (arith, r.inside) in e)

    module _ (l : d < n) (row' : List ℕ) (reached rest : ℕ) (wide' : length row' ≡ 64)
        (bytes : (w : ℕ) → w < 64 → get_or row' w 0 ≡ cond (set? frontier w) d (get_or row w 0))
        (bits : (w : ℕ) → set? reached w ≡ some 64 (λ u. set? frontier u && joined near u w))
        (others : (w : ℕ) → set? rest w ≡ set? reached w && not (set? seen w)) where
      neighbours : (w : ℕ) → set? reached w ≡ spread n (joined near) v d w
      neighbours w =
          let e : n + (64 - n) ≡ 64 = omega arith in
          bits w
          ∙ some_ext 64 _ (λ u. new n (joined near) v d u && joined near u w) (λ u h. ap (λ (b : Bool). b && joined near u w) (r.fresh u))
          ∙ ap (λ (x : ℕ). some x (λ u. new n (joined near) v d u && joined near u w)) (sym e)
          ∙ some_skip n (64 - n) (λ u. new n (joined near) v d u && joined near u w) (λ u a h. ap (λ (b : Bool). b && joined near u w) (new_beyond n (joined near) v start beyond d u a))

      pub round_next : Round near n v (d + 1) row' rest (bit_or seen reached)
      round_next =
          rw add-one
          (record {
            inside = omega arith;
            wide = wide';
            known = λ w h.
                bytes w (omega arith)
                ∙ ap₂ (λ (b : Bool) (x : ℕ). cond b d x) (r.fresh w) (r.known w h)
                ∙ sym (below_next n (joined near) v d w);
            fresh = λ w.
                others w
                ∙ ap₂ (λ (a b : Bool). a && not b) (neighbours w) (r.reach w)
                ∙ sym (new_next n (joined near) v d w);
            reach = λ w.
                set_or seen reached w
                ∙ ap₂ ◌||◌ (r.reach w) (neighbours w)
                ∙ sym (within_next n (joined near) v d w);
          })

-- ---- the rows of the vertices below v are filled
pub record Rows (n : ℕ) (near : List ℕ) (v : ℕ) (table : List (List ℕ)) : Type 0 where
  pub inside : v ≤ n
  pub tall : length table ≡ n
  pub rows : (u : ℕ) → u < v → RowOf n near u (get_or table u [])

pub rows_none : {n : ℕ} {near : List ℕ} (table : List (List ℕ)) → n ≤ length table → Rows n near 0 (take n table)
rows_none {n} table l = record { inside = omega arith; tall = length-take-le n table l; rows = below_zero _ }

pub rows_next : {n : ℕ} {near : List ℕ} {v : ℕ} {table : List (List ℕ)} → Rows n near v table → v < n → (row : List ℕ) → RowOf n near v row
    → Rows n near (v + 1) (set table v row)
rows_next {n} {near} {v} {table} w l row r =
    rw add-one
    (record {
      inside = omega arith;
      tall = length-set table v row ∙ w.tall;
      rows = below_suc (λ u. RowOf n near u (get_or (set table v row) u [])) v
          (λ u h. rw (get_or-set_other table v u row [] (λ e. let f : ⊥ = omega arith in f)) (w.rows u h))
          (rw (get_or-set_same table v row [] (omega (arith, w.tall))) r);
    })

pub rows_all : {n : ℕ} {near : List ℕ} {v : ℕ} {table : List (List ℕ)} → Rows n near v table → n ≤ v → (rest : List (List ℕ)) → TableOf n near (table ++ rest)
rows_all {n} {near} {v} {table} w l rest u h = rw (get_or-append table rest [] u (omega (arith, w.tall))) (w.rows u (omega arith))
