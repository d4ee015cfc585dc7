-- `added_satisfaction::tree::tree_fault` ends: by recursion on the length of the list. Assumes nothing.
use Rattle.added_satisfaction.proofs.tree.+tree_fault.Given as goal

-- the length of the list
abbrev pub decreases-tree_fault : goal.decreases-tree_fault
decreases-tree_fault l = l.tree.l
