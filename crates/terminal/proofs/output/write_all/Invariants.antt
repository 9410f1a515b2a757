-- Each turn leaves less to write.
use Rattle.std.proofs.Common.{length}
use Rattle.terminal.proofs.output.write_all.Given as goal

abbrev pub decreases-loop-left : goal.decreases-loop-left
decreases-loop-left l = length l.left
