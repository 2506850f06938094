-- As long as no pair was wrong, each byte that was passed is right before its next.
-- Assumes nothing.
use Rattle.std.proofs.Common.{◌≡◌, true}
use Rattle.pairs.specs.Pairs.{Rights}
use Rattle.pairs.proofs.block.Given as goal

abbrev pub invariant-loop-k : goal.invariant-loop-k
invariant-loop-k l = l.all ≡ true → Rights l.s l.at l.k
