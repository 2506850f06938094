-- What is passed, ASCII and whole characters, leaves the machine's verdict as it is.
-- Assumes nothing.
use Rattle.std.proofs.Common.{◌-◌, length}
use Rattle.utf8.specs.Course.{Runs}
use Rattle.utf8.proofs.quick.Given as goal

abbrev pub invariant-loop-i : goal.invariant-loop-i
invariant-loop-i l = Runs l.s 0 l.i

abbrev pub decreases-loop-i : goal.decreases-loop-i
decreases-loop-i l = length l.s - l.i
