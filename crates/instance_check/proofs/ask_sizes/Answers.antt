-- `instance_check::ask_sizes` meets its contract: its tests are those of the questions. Assumes nothing.
use mathlib.Core.Path.{◌≡◌, refl}
use mathlib.Core.Bool.{true, ◌&&◌}
use Prim.Native.Nat.{◌-◌, ◌*◌, ◌≤◌}
use native.Mathlib.Omega.{arith}
use native.Mathlib.Nat.{mul-le-mul}
use borrow.Author.Tests.{not-true, not-false, le-leb, lt-leb, eq-eqb, ne_eqb}
use lib.Dec.{leb}
use Rattle.lists.proofs.Tests.{and_iff, leb_iff}
use Rattle.answers.specs.Answers.{decide, ask}
use Rattle.answers.proofs.Faults.{holds}
use Rattle.instance_check.proofs.ask_sizes.Goals as goal

pub returns-then-not-n : goal.returns-then-not-n
unfolding decide ask
returns-then-not-n c = rw (c.at.ensures, ← c.requires.n_same, not-true (leb 1 c.args.s.n && leb c.args.s.n 64) c.if-not-n.true-raw)

pub returns-then-not-k-n : goal.returns-then-not-k-n
unfolding decide ask
returns-then-not-k-n c =
    let vertices_fit : leb 1 c.args.s.n && leb c.args.s.n 64 ≡ true = not-false _ c.if-not-n.false-raw in
    rw (c.at-then-not-k-n.ensures, ← c.requires.n_same, ← c.requires.k_same, vertices_fit, not-true (leb 1 c.args.s.k && leb c.args.s.k 16 && leb c.args.s.k c.args.s.n) c.if-not-k-n.true-raw)

pub overflow_sub-n : goal.overflow_sub-n
overflow_sub-n c =
    let vertices_fit : leb 1 c.args.s.n && leb c.args.s.n 64 ≡ true = not-false _ c.if-not-n.false-raw in
    let inside : (1 ≤ c.args.s.n) × (c.args.s.n ≤ 64) = simp (and_iff, leb_iff) at (holds {test = leb 1 c.args.s.n && leb c.args.s.n 64} refl vertices_fit) in
    let h = inside in omega arith

pub overflow_mul-n : goal.overflow_mul-n
overflow_mul-n c =
    let vertices_fit : leb 1 c.args.s.n && leb c.args.s.n 64 ≡ true = not-false _ c.if-not-n.false-raw in
    let inside : (1 ≤ c.args.s.n) × (c.args.s.n ≤ 64) = simp (and_iff, leb_iff) at (holds {test = leb 1 c.args.s.n && leb c.args.s.n 64} refl vertices_fit) in
    let h = inside in let n = c.args.s.n in let q : n * (n - 1) ≤ 4032 = mul-le-mul {n₂ = 64} {m₂ = 63} h.1 (omega arith) in omega arith

pub returns-then-n-e : goal.returns-then-n-e
unfolding decide ask
returns-then-n-e c =
    let vertices_fit : leb 1 c.args.s.n && leb c.args.s.n 64 ≡ true = not-false _ c.if-not-n.false-raw in
    let agents_fit : leb 1 c.args.s.k && leb c.args.s.k 16 && leb c.args.s.k c.args.s.n ≡ true = not-false _ c.if-not-k-n.false-raw in
    rw (c.at-then-n-e.ensures, ← c.requires.n_same, ← c.requires.k_same, ← c.requires.e_same, vertices_fit, agents_fit, lt-leb _ _ c.if-n-e.true)

pub returns-then-len-e : goal.returns-then-len-e
unfolding decide ask
returns-then-len-e c =
    let vertices_fit : leb 1 c.args.s.n && leb c.args.s.n 64 ≡ true = not-false _ c.if-not-n.false-raw in
    let agents_fit : leb 1 c.args.s.k && leb c.args.s.k 16 && leb c.args.s.k c.args.s.n ≡ true = not-false _ c.if-not-k-n.false-raw in
    rw (c.at-then-len-e.ensures, ← c.requires.n_same, ← c.requires.k_same, ← c.requires.e_same, vertices_fit, agents_fit, le-leb _ _ c.if-n-e.false, ne_eqb _ _ c.if-len-e.true)

pub returns : goal.returns
unfolding decide ask
returns c =
    let vertices_fit : leb 1 c.args.s.n && leb c.args.s.n 64 ≡ true = not-false _ c.if-not-n.false-raw in
    let agents_fit : leb 1 c.args.s.k && leb c.args.s.k 16 && leb c.args.s.k c.args.s.n ≡ true = not-false _ c.if-not-k-n.false-raw in
    rw (← c.requires.n_same, ← c.requires.k_same, ← c.requires.e_same, vertices_fit, agents_fit, le-leb _ _ c.if-n-e.false, eq-eqb _ _ c.if-len-e.false)
