-- `clauses::put_onward` meets its contract: two stores, and the neighbours with the 0 behind them. Assumes nothing.
use mathlib.Core.Path.{◌≡◌, refl, sym, ap, subst}
use mathlib.Core.List.{List, [], ◌∷◌, ◌++◌}
use Prim.Native.Nat.{◌+◌, ◌-◌, ◌≤◌}
use native.Mathlib.Omega.{arith}
use native.Mathlib.Numerals.{add-one}
use mir.Syntax.{w32}
use mir.Val.{to_z, of_z}
use mir.Facts.{to_z-of_z}
use borrow.Rule.Slice.PartMut.{put_mid}
use borrow.Author.Rules.{sfits_of}
use lib.Count.{ones}
use lib.ListN.{length, length-take, length-drop, length-set, set}
use lib.IntN.{ℤ}
use Rattle.lists.specs.Slice.{filled, Wrote}
use Rattle.lists.proofs.Slices.{sets_filled, filled_part}
use Rattle.bits.specs.Bits.{set?}
use Rattle.bits.proofs.Bits.{ones_count}
use Rattle.formula.specs.Variables.{X, ¬X}
use Rattle.formula.specs.Formula.{Clause, line, nearby, onward}
use Rattle.clauses.proofs.Laws.{line_length}
use borrow.Author.Rules.{rules}
use Rattle.clauses.proofs.put_onward.Goals as goal

pub bounds-f-1 : goal.bounds-f-1
bounds-f-1 c =
    let near : Clause = nearby c.args.s.sizes (set? c.args.word) (c.args.t.0 + 1) c.args.a.0 in
    let two : List ℤ = ¬X c.args.s.sizes c.args.t.0 c.args.a.0 c.args.v.0 ∷ X c.args.s.sizes (c.args.t.0 + 1) c.args.a.0 c.args.v.0 ∷ [] in
    let clause : onward c.args.s.sizes (set? c.args.word) c.args.t.0 c.args.a.0 c.args.v.0 ≡ two ++ near = rw (add-one c.args.t.0) in
    let degree : ones c.args.word ≡ length near = sym (ones_count c.args.s.sizes.n c.args.word (X c.args.s.sizes (c.args.t.0 + 1) c.args.a.0) c.requires.t_lt_m.3) in
    let room : ones c.args.word + 3 ≤ length c.args.f.now = omega (arith, c.requires.v_in_bounds, ap (λ (c : Clause). length (line c)) clause, line_length near, degree) in
    simp length-set (omega (arith, room))

pub slice_bounds-put_near-count : goal.slice_bounds-put_near-count
slice_bounds-put_near-count c =
    let near : Clause = nearby c.args.s.sizes (set? c.args.word) (c.args.t.0 + 1) c.args.a.0 in
    let two : List ℤ = ¬X c.args.s.sizes c.args.t.0 c.args.a.0 c.args.v.0 ∷ X c.args.s.sizes (c.args.t.0 + 1) c.args.a.0 c.args.v.0 ∷ [] in
    let clause : onward c.args.s.sizes (set? c.args.word) c.args.t.0 c.args.a.0 c.args.v.0 ≡ two ++ near = rw (add-one c.args.t.0) in
    let degree : ones c.args.word ≡ length near = sym (ones_count c.args.s.sizes.n c.args.word (X c.args.s.sizes (c.args.t.0 + 1) c.args.a.0) c.requires.t_lt_m.3) in
    let room : ones c.args.word + 3 ≤ length c.args.f.now = omega (arith, c.requires.v_in_bounds, ap (λ (c : Clause). length (line c)) clause, line_length near, degree) in
    simp length-set (omega (arith, room))

pub slice_bounds-put_near-start : goal.slice_bounds-put_near-start
slice_bounds-put_near-start c =
    let near : Clause = nearby c.args.s.sizes (set? c.args.word) (c.args.t.0 + 1) c.args.a.0 in
    let two : List ℤ = ¬X c.args.s.sizes c.args.t.0 c.args.a.0 c.args.v.0 ∷ X c.args.s.sizes (c.args.t.0 + 1) c.args.a.0 c.args.v.0 ∷ [] in
    let clause : onward c.args.s.sizes (set? c.args.word) c.args.t.0 c.args.a.0 c.args.v.0 ≡ two ++ near = rw (add-one c.args.t.0) in
    let degree : ones c.args.word ≡ length near = sym (ones_count c.args.s.sizes.n c.args.word (X c.args.s.sizes (c.args.t.0 + 1) c.args.a.0) c.requires.t_lt_m.3) in
    let room : ones c.args.word + 3 ≤ length c.args.f.now = omega (arith, c.requires.v_in_bounds, ap (λ (c : Clause). length (line c)) clause, line_length near, degree) in
    simp length-set (omega (arith, room))

pub put_near-requires : goal.put_near-requires
put_near-requires c =
    let near : Clause = nearby c.args.s.sizes (set? c.args.word) (c.args.t.0 + 1) c.args.a.0 in
    let degree : ones c.args.word ≡ length near = sym (ones_count c.args.s.sizes.n c.args.word (X c.args.s.sizes (c.args.t.0 + 1) c.args.a.0) c.requires.t_lt_m.3) in
    let two : List ℤ = ¬X c.args.s.sizes c.args.t.0 c.args.a.0 c.args.v.0 ∷ X c.args.s.sizes (c.args.t.0 + 1) c.args.a.0 c.args.v.0 ∷ [] in
    let clause : onward c.args.s.sizes (set? c.args.word) c.args.t.0 c.args.a.0 c.args.v.0 ≡ two ++ near = rw (add-one c.args.t.0) in
    let room : ones c.args.word + 3 ≤ length c.args.f.now = omega (arith, c.requires.v_in_bounds, ap (λ (c : Clause). length (line c)) clause, line_length near, degree) in
    simp (length-take, length-drop, length-set) (let r = room in let q = degree in let z = line_length near in search rules)

pub overflow_cast-result : goal.overflow_cast-result
overflow_cast-result c =
    let near : Clause = nearby c.args.s.sizes (set? c.args.word) (c.args.t.0 + 1) c.args.a.0 in
    let two : List ℤ = ¬X c.args.s.sizes c.args.t.0 c.args.a.0 c.args.v.0 ∷ X c.args.s.sizes (c.args.t.0 + 1) c.args.a.0 c.args.v.0 ∷ [] in
    let clause : onward c.args.s.sizes (set? c.args.word) c.args.t.0 c.args.a.0 c.args.v.0 ≡ two ++ near = rw (add-one c.args.t.0) in
    let degree : ones c.args.word ≡ length near = sym (ones_count c.args.s.sizes.n c.args.word (X c.args.s.sizes (c.args.t.0 + 1) c.args.a.0) c.requires.t_lt_m.3) in
    let room : ones c.args.word + 3 ≤ length c.args.f.now = omega (arith, c.requires.v_in_bounds, ap (λ (c : Clause). length (line c)) clause, line_length near, degree) in
    omega (arith, room)

pub overflow_add-result : goal.overflow_add-result
overflow_add-result c =
    let near : Clause = nearby c.args.s.sizes (set? c.args.word) (c.args.t.0 + 1) c.args.a.0 in
    let two : List ℤ = ¬X c.args.s.sizes c.args.t.0 c.args.a.0 c.args.v.0 ∷ X c.args.s.sizes (c.args.t.0 + 1) c.args.a.0 c.args.v.0 ∷ [] in
    let clause : onward c.args.s.sizes (set? c.args.word) c.args.t.0 c.args.a.0 c.args.v.0 ≡ two ++ near = rw (add-one c.args.t.0) in
    let degree : ones c.args.word ≡ length near = sym (ones_count c.args.s.sizes.n c.args.word (X c.args.s.sizes (c.args.t.0 + 1) c.args.a.0) c.requires.t_lt_m.3) in
    let room : ones c.args.word + 3 ≤ length c.args.f.now = omega (arith, c.requires.v_in_bounds, ap (λ (c : Clause). length (line c)) clause, line_length near, degree) in
    omega (arith, room)

pub shape_of-f : goal.shape_of-f
shape_of-f c = rw (c.f-1.given.1, length-set, length-set)

pub returns : goal.returns
returns c =
    let two : List ℤ = ¬X c.args.s.sizes c.args.t.0 c.args.a.0 c.args.v.0 ∷ X c.args.s.sizes (c.args.t.0 + 1) c.args.a.0 c.args.v.0 ∷ [] in
    let near : Clause = nearby c.args.s.sizes (set? c.args.word) (c.args.t.0 + 1) c.args.a.0 in
    let clause : onward c.args.s.sizes (set? c.args.word) c.args.t.0 c.args.a.0 c.args.v.0 ≡ two ++ near = rw (add-one c.args.t.0) in
    let degree : ones c.args.word ≡ length near = sym (ones_count c.args.s.sizes.n c.args.word (X c.args.s.sizes (c.args.t.0 + 1) c.args.a.0) c.requires.t_lt_m.3) in
    let room : ones c.args.word + 3 ≤ length c.args.f.now = omega (arith, c.requires.v_in_bounds, ap (λ (c : Clause). length (line c)) clause, line_length near, degree) in
    let l : List ℤ = c.args.f.now in
    let f : List ℤ = set (set l 0 (to_z w32 (of_z w32 c.negative.result))) 1 (to_z w32 (of_z w32 c.positive.result)) in
    let e : f ≡ filled two l =
    rw (to_z-of_z (sfits_of c.negative.type_inv), to_z-of_z (sfits_of c.positive.type_inv), c.negative.ensures, c.positive.ensures)
    (sets_filled two l (omega (arith, room))) in
    subst (λ (k : Clause). Wrote (line k) l (put_mid 2 (length f - 2) f c.put_near.new.f) (ones c.args.word + 3))
    (sym clause) (
      omega (arith, degree, line_length near),
      filled_part f l two (line near) c.put_near.new.f 2 e refl (omega (arith, room)) c.put_near.ensures,
    )
