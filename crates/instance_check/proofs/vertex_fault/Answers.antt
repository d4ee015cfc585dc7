-- `instance_check::vertex_fault` meets its contract. The invariant: every item so far passes the test and is marked. Assumes nothing.
use mathlib.Core.Path.{◌≡◌, refl, ◌∙◌, ap}
use mathlib.Core.List.{List}
use mathlib.Core.Bool.{Bool, false, not, ◌&&◌, ◌||◌}
use mathlib.Core.Logic.{⊎_elim}
use Prim.Native.Nat.{ℕ, ◌+◌, ◌-◌, ◌<◌, ◌≤◌}
use native.Mathlib.Omega.{arith}
use borrow.Author.Tests.{lt-ltb, le-ltb}
use borrow.Author.Count.{below_more, below_none}
use lib.ListN.{length, get_or, take, drop, length-set}
use lib.Dec.{T, ltb}
use Rattle.lists.proofs.Slices.{part_length, part_get_or}
use Rattle.answers.proofs.Faults.{holds, fails, fault_at}
use Rattle.instance.specs.Instance.{free, vertices}
use Rattle.instance.specs.Questions.{new_vertex}
use Rattle.instance.proofs.Goals.{was_free, over_passes, asked_iff}
use Rattle.instance_check.proofs.Laws.{seen_none, seen_more, seen_free, seen_test}
use Rattle.instance_check.proofs.vertex_fault.Goals as goal

-- the items are k bytes, and item a is the byte that many behind the offset
items_length : (b : List ℕ) (offset k : ℕ) → offset + k ≤ length b → length (take (offset + k - offset) (drop offset b)) ≡ k
items_length b offset k h = let s : offset + k - offset ≡ k = omega arith in rw s (part_length b offset k h)

item : (b : List ℕ) (offset k a : ℕ) → a < length (take (offset + k - offset) (drop offset b)) → offset + k ≤ length b
    → (a < k) × (get_or (take (offset + k - offset) (drop offset b)) a 0 ≡ get_or b (offset + a) 0)
item b offset k a l h =
    let s : offset + k - offset ≡ k = omega arith in
    let below : a < k = omega (arith, l, items_length b offset k h) in
    (below, rw s (part_get_or b offset k a 0 below))

pub loop-a-init : goal.loop-a-init
loop-a-init c =
    let byte : ℕ → ℕ = λ a. get_or c.args.b.now (c.args.offset + a) 0 in
    (omega arith, (refl, (seen_none byte, below_none _)))

pub returns-then-n-v : goal.returns-then-n-v
returns-then-n-v c =
    let x = item c.args.b.now c.args.offset c.args.k c.loop-a.a c.loop-a-test.true c.requires.0 in
    let byte : ℕ → ℕ = λ a. get_or c.args.b.now (c.args.offset + a) 0 in
    let new : ℕ → Bool = λ a. new_vertex c.args.b.now byte a in
    let test : ltb c.from-v.result (vertices c.args.b.now) && not (get_or c.loop-a.seen c.from-v.result false) ≡ new c.loop-a.a = seen_test byte c.loop-a.a c.from-v.result c.loop-a.seen (c.from-v.ensures ∙ x.1) c.loop-a.invariant.1.1.0 c.args.b.now c.requires.3 in
    let fault : ltb c.from-v.result (vertices c.args.b.now) && not (get_or c.loop-a.seen c.from-v.result false) ≡ false
    → T (c.args.optional && free (byte c.loop-a.a) || new c.loop-a.a) → ⊥ = λ d t. fails test d ((asked_iff c.args.optional (byte c.loop-a.a) (c.is_free.ensures ∙ ap free x.1) (new c.loop-a.a) c.if-not-optional-is_free.true-raw).0 t) in
    (omega arith, fault_at (omega arith) c.loop-a.invariant.1.1.1 (fault (rw (le-ltb c.from-v.result (vertices c.args.b.now) (omega arith)))))

pub returns-then-seen-v : goal.returns-then-seen-v
returns-then-seen-v c =
    let x = item c.args.b.now c.args.offset c.args.k c.loop-a.a c.loop-a-test.true c.requires.0 in
    let byte : ℕ → ℕ = λ a. get_or c.args.b.now (c.args.offset + a) 0 in
    let new : ℕ → Bool = λ a. new_vertex c.args.b.now byte a in
    let test : ltb c.from-v.result (vertices c.args.b.now) && not (get_or c.loop-a.seen c.from-v.result false) ≡ new c.loop-a.a = seen_test byte c.loop-a.a c.from-v.result c.loop-a.seen (c.from-v.ensures ∙ x.1) c.loop-a.invariant.1.1.0 c.args.b.now c.requires.3 in
    let fault : ltb c.from-v.result (vertices c.args.b.now) && not (get_or c.loop-a.seen c.from-v.result false) ≡ false
    → T (c.args.optional && free (byte c.loop-a.a) || new c.loop-a.a) → ⊥ = λ d t. fails test d ((asked_iff c.args.optional (byte c.loop-a.a) (c.is_free.ensures ∙ ap free x.1) (new c.loop-a.a) c.if-not-optional-is_free.true-raw).0 t) in
    (omega arith, fault_at (omega arith) c.loop-a.invariant.1.1.1 (fault (rw (lt-ltb c.from-v.result (vertices c.args.b.now) (omega arith), c.if-seen-v.true))))

pub loop-a-preserved : goal.loop-a-preserved
loop-a-preserved c =
    let x = item c.args.b.now c.args.offset c.args.k c.loop-a.a c.loop-a-test.true c.requires.0 in
    let byte : ℕ → ℕ = λ a. get_or c.args.b.now (c.args.offset + a) 0 in
    let new : ℕ → Bool = λ a. new_vertex c.args.b.now byte a in
    let a = c.loop-a.a in
    let seen = c.loop-a.seen in
    let inv = c.loop-a.invariant.1 in
    ⊎_elim
    (λ w.
    let v = w.from-v.result in
    let l = lt-ltb v (vertices c.args.b.now) (omega (arith, w.if-n-v.false)) in (
      omega arith,
      (
        rw w.seen-is (simp length-set inv.0),
        (
          rw w.seen-is (seen_more byte a v seen (w.from-v.ensures ∙ x.1) inv.1.0 (omega (arith, w.if-n-v.false))),
          below_more _ _ inv.1.1 ((asked_iff c.args.optional (byte a) (c.is_free.ensures ∙ ap free x.1) (new a) w.if-not-optional-is_free.true-raw).1 (holds (seen_test byte a v seen (w.from-v.ensures ∙ x.1) inv.1.0 c.args.b.now c.requires.3) (rw (l, w.if-seen-v.false)))),
        ),
      ),
    ))
    (λ w. (
      omega arith,
      (
        rw w.seen-is inv.0,
        (rw w.seen-is (seen_free byte a (byte a) seen refl inv.1.0 (was_free c.args.optional (byte a) (c.is_free.ensures ∙ ap free x.1) w.if-not-optional-is_free.false-raw)), below_more _ _ inv.1.1 (over_passes c.args.optional (byte a) (c.is_free.ensures ∙ ap free x.1) (new a) w.if-not-optional-is_free.false-raw)),
      ),
    ))
    c.if-not-optional-is_free.branch-raw

pub returns : goal.returns
returns c =
    let e = items_length c.args.b.now c.args.offset c.args.k c.requires.0 in
    let l : c.args.k ≤ c.loop-a.a = omega (arith, e, c.loop-a-test.false) in
    record { within = omega arith; before = λ i l. c.loop-a.invariant.1.1.1 i (omega arith); here = λ l t. omega arith }
