-- `one_clause::put_following` meets its contract. Place p / n names the other agent, p % n the vertex. Assumes nothing.
use Prim.Native.Nat.{◌-◌}
use native.Mathlib.Numerals.{add-one}
use native.Mathlib.Omega.{arith}
use mir.Facts.{to_z-of_z}
use borrow.Author.Rules.{rules, sfits_of}
use Rattle.lists.proofs.Blocks.{cell_at}
use Rattle.one_clause.proofs.Clauses.{room_put, wrote_put, other_clause}
use Rattle.one_clause.proofs.put_following.Goals as goal

pub other-requires : goal.other-requires
other-requires c = let i = cell_at (c.args.s.sizes.k - 1) c.args.s.sizes.n c.args.p c.requires.t_lt_m.2 in search rules

pub negative-requires : goal.negative-requires
negative-requires c = let i = cell_at (c.args.s.sizes.k - 1) c.args.s.sizes.n c.args.p c.requires.t_lt_m.2 in search rules

pub negative-requires-2 : goal.negative-requires-2
negative-requires-2 c = let i = cell_at (c.args.s.sizes.k - 1) c.args.s.sizes.n c.args.p c.requires.t_lt_m.2 in search rules

pub put_clause-requires : goal.put_clause-requires
put_clause-requires c = (omega arith, room_put (other_clause c.args.s.sizes c.args.t.0 c.args.a.0 c.requires.t_lt_m.1 c.args.p c.other.result c.requires.t_lt_m.2 c.other.ensures.0 c.other.ensures.1) c.requires.p_in_bounds)

pub returns : goal.returns
returns c =
    wrote_put
    (other_clause c.args.s.sizes c.args.t.0 c.args.a.0 c.requires.t_lt_m.1 c.args.p c.other.result c.requires.t_lt_m.2 c.other.ensures.0 c.other.ensures.1)
    _
    _
    (rw (add-one c.args.t.0) at (rw (to_z-of_z (sfits_of c.negative.type_inv), c.negative.ensures, to_z-of_z (sfits_of c.negative-2.type_inv), c.negative-2.ensures) at c.put_clause.ensures))
