-- Each block reaches back to the place where the one before it ended, and so takes that place to its own end.
-- Assumes nothing.
use Rattle.std.proofs.Common.{length, ◌-◌}
use Rattle.pairs.specs.Pairs.{Rights}
use Rattle.pairs.proofs.pairs_end.Given as goal

abbrev pub invariant-loop-j : goal.invariant-loop-j
invariant-loop-j l = Rights l.s l.at l.j

abbrev pub decreases-loop-j : goal.decreases-loop-j
decreases-loop-j l = length l.s - l.j
