-- `satisfaction::read_entries` meets its contract: before turn t of agent a the rows before theirs are read, and their entries are right. Assumes nothing.
use Prim.Native.Nat.{ℕ, suc, ◌+◌, ◌*◌, ◌<◌}
use mathlib.Core.Path.{◌≡◌, refl, subst}
use native.Mathlib.Omega.{arith}
use lib.Dec.{T}
use Rattle.lists.proofs.Blocks.{place_lt}
use Rattle.instance.specs.declared.Sizes.{Sizes}
use Rattle.instance.specs.Limits.{Limits}
use Rattle.formula.specs.Variables.{index, variable_count}
use Rattle.formula.proofs.Variables.{runs_before, first_run, next_run, next_agent, last_run}
use Rattle.satisfaction.proofs.Bounds.{products}
use Rattle.satisfaction.proofs.Entries.{Sofar, sofar_none, sofar_more, sofar_wrong, done_right, done_read}
use Rattle.satisfaction.proofs.read_entries.Goals as goal

-- the row of agent a at time t: its byte, how many rows stand before it (no fact needs that but with the edit old_numbering, which is
-- to be refused by what it stores)
byte : (s : Sizes) (w : Limits s) (t a : ℕ) → t < suc s.m → a < s.k → (t * s.k + a < 528) × (a * (s.m + 1) + t < 528)
byte s w t a x y = (omega (arith, place_lt (suc s.m) s.k t a x y, (products s w).cells), runs_before s w t a (omega arith) y)

pub loop-a-init : goal.loop-a-init
loop-a-init c = (omega arith, rw (first_run c.args.s.sizes) (sofar_none _ _ _ c.requires.1))

pub overflow_mul-vertices : goal.overflow_mul-vertices
overflow_mul-vertices c = omega (arith, byte c.args.s.sizes c.args.s.limits c.loop-t.t c.loop-a.a (omega (arith, c.loop-t-test.true)) c.loop-a-test.true)

pub overflow_add-vertices : goal.overflow_add-vertices
overflow_add-vertices c = omega (arith, byte c.args.s.sizes c.args.s.limits c.loop-t.t c.loop-a.a (omega (arith, c.loop-t-test.true)) c.loop-a-test.true)

pub bounds-vertices-t : goal.bounds-vertices-t
bounds-vertices-t c = omega (arith, byte c.args.s.sizes c.args.s.limits c.loop-t.t c.loop-a.a (omega (arith, c.loop-t-test.true)) c.loop-a-test.true, c.loop-t.invariant.1.size)

pub returns-in-Err : goal.returns-in-Err
returns-in-Err c =
    let s = c.args.s.sizes in
    let x : c.loop-t.t < suc s.m = omega (arith, c.loop-t-test.true) in
    let base = c.first_entry-base.ensures in
    record {
      first_wrong = sofar_wrong s c.args.entries.now c.loop-t.vertices c.loop-t.t c.loop-a.a x c.loop-a-test.true c.first_entry-base.result base.0 (rw base.0 c.loop-t.invariant.1) (variable_count s) c.in-Err.wrong c.in-Err.ensures base.1;
      vertices_len = c.loop-t.invariant.1.size;
      read = λ h. absurd (let e = h in subst T e tt);
    }

pub loop-t-preserved : goal.loop-t-preserved
loop-t-preserved c =
    let s = c.args.s.sizes in
    let x : c.loop-t.t < suc s.m = omega (arith, c.loop-t-test.true) in
    let at = byte s c.args.s.limits c.loop-t.t c.loop-a.a x c.loop-a-test.true in
    let base = c.first_entry-base.ensures in
    let e : c.first_entry-base.result + s.n ≡ index s (c.loop-t.t + 1) c.loop-a.a 0 = omega (arith, base.0, next_run s c.loop-t.t c.loop-a.a) in (
      omega (arith, c.loop-t-test.true),
      rw e at (sofar_more s c.args.entries.now c.loop-t.vertices c.loop-t.t c.loop-a.a x c.loop-a-test.true c.first_entry-base.result base.0 (rw base.0 c.loop-t.invariant.1) c.in-Ok.said c.in-Ok.ensures (c.loop-t.t * s.k + c.loop-a.a) c.byte.result refl (omega (arith, at)) c.byte.ensures),
    )

-- after an agent's last time the next agent's first
pub loop-a-preserved : goal.loop-a-preserved
loop-a-preserved c =
    let e : c.loop-t.t ≡ suc c.args.s.sizes.m = omega (arith, c.loop-t.invariant.0, c.loop-t-test.false) in
    (omega (arith, c.loop-a-test.true), rw (next_agent c.args.s.sizes c.loop-a.a) (rw e at c.loop-t.invariant.1))

pub returns : goal.returns
returns c =
    let s = c.args.s.sizes in
    let e : c.loop-a.a ≡ s.k = omega (arith, c.loop-a.invariant.0, c.loop-a-test.false) in
    let o : Sofar s c.args.entries.now c.loop-a.vertices (variable_count s) = rw (last_run s) at (rw e at c.loop-a.invariant.1) in
    record {
      first_wrong = done_right s c.args.entries.now c.requires.0 c.loop-a.vertices o;
      vertices_len = o.size;
      read = λ h. done_read s c.args.entries.now c.requires.0 c.loop-a.vertices o c.args.s.limits.n_least (products s c.args.s.limits).cells;
    }
