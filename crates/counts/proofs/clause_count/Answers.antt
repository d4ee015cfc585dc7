-- `counts::clause_count` meets its contract. It follows from the contracts of the functions called and the laws cited. Assumes nothing.
use Rattle.formula.specs.Counts.{clause_count}
use Rattle.counts.proofs.clause_count.Goals as goal

pub returns : goal.returns
unfolding clause_count
returns c = let q = c.clauses_by-c.ensures.a_value in rw (q.0, q.1, q.2, q.3, q.4, q.5, q.6)
