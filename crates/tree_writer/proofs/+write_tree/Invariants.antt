-- `tree_writer::write_tree` ends: by recursion on the length of the list. Assumes nothing.
use Rattle.tree_writer.proofs.+write_tree.Given as goal

-- the length of the list
abbrev pub decreases-write_tree : goal.decreases-write_tree
decreases-write_tree l = l.tree.l
