-- `added_entries::write_tree` ends: by recursion on the length of the list. Assumes nothing.
use Rattle.added_entries.proofs.+write_tree.Given as goal

-- the length of the list
abbrev pub decreases-write_tree : goal.decreases-write_tree
decreases-write_tree l = l.tree.l
