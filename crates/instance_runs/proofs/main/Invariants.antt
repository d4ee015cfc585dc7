-- `instance_runs::main` ends: each turn leaves fewer bytes.
use Rattle.std.proofs.Common.{length}
use Rattle.instance_runs.proofs.main.Given as goal

abbrev pub decreases-loop-case : goal.decreases-loop-case
decreases-loop-case l = length l.rest
