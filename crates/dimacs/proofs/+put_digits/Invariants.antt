-- `dimacs::put_digits` ends: the number falls at each call. Assumes nothing.
use Rattle.dimacs.proofs.+put_digits.Given as goal

abbrev pub decreases-put_digits : goal.decreases-put_digits
decreases-put_digits l = l.x
