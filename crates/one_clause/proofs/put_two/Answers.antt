-- `one_clause::put_two` meets its contract. Clause p of a block is the pair with that number. Assumes nothing.
use native.Mathlib.Omega.{arith}
use mir.Facts.{to_z-of_z}
use borrow.Author.Rules.{sfits_of}
use Rattle.one_clause.proofs.Clauses.{room_put, wrote_put, pair_clause}
use Rattle.one_clause.proofs.put_two.Goals as goal

pub put_clause-requires : goal.put_clause-requires
put_clause-requires g c = let (¬x, r) = c.requires.room in (omega arith, room_put (pair_clause c.args.n ¬x c.pair_of-pair.ensures) r)

pub returns : goal.returns
returns g c ¬x h =
    let q = c.pair_of-pair.ensures in
    wrote_put (pair_clause c.args.n ¬x q) _ _
    (rw (to_z-of_z (sfits_of c.literal.type_inv), h _ _ (omega arith) c.literal.ensures, to_z-of_z (sfits_of c.literal-2.type_inv), h _ _ q.below c.literal-2.ensures) at c.put_clause.ensures)
