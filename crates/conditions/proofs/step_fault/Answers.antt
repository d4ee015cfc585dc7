-- `conditions::step_fault` meets its contract: the two parts of the bytes are the two rows. Assumes nothing.
use Prim.Native.Nat.{◌+◌, ◌*◌}
use native.Mathlib.Omega.{arith}
use Rattle.instance.specs.Instance.{joined}
use Rattle.plan.proofs.Rows.{Rows, rows, part_length, part_below, step_fault}
use Rattle.answers.proofs.Faults.{failing_map}
use Rattle.conditions.specs.Conditions.{place_of}
use Rattle.conditions.proofs.step_fault.Goals as goal

pub invariant_of-rows : goal.invariant_of-rows
invariant_of-rows c =
    let known : Rows c.args.s c.args.p.now c.args.t = rows _ _ _ c.requires.p_len.0 c.requires.p_len.1 in
    let k = c.args.s.k in
    let at = c.args.t * k in
    let x = part_length c.args.p.now at (at + k) (omega arith) (omega (arith, known)) in
    let y = part_length c.args.p.now (at + k) (at + k + k) (omega arith) (omega (arith, known)) in record {
      long = (omega (arith, x), omega (arith, y));
      inside = (
        part_below c.args.p.now 64 c.requires.inside at (at + k) (omega arith) (omega (arith, known)),
        part_below c.args.p.now 64 c.requires.inside (at + k) (at + k + k) (omega arith) (omega (arith, known)),
      );
    }

pub returns : goal.returns
returns c =
    failing_map c.fault.result
    (step_fault c.args.s (joined c.args.near.now) (place_of c.args.which) c.args.p.now c.args.t) c.fault.ensures
