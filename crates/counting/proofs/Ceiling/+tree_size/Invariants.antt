-- `counting::Ceiling::tree_size` ends: by recursion on the length of the list. Assumes nothing.
use Rattle.counting.proofs.Ceiling.+tree_size.Given as goal

-- the length of the list
abbrev pub decreases-tree_size : goal.decreases-tree_size
decreases-tree_size l = l.l
