-- The bytes of the pairs that were passed stand at the front, and what follows is as it was.
-- Assumes nothing.
use Rattle.std.proofs.Common.{◌≡◌}
use Rattle.std.proofs.Math.Seq.{paste}
use Rattle.hexadecimal.specs.Hex.{pairs}
use Rattle.hexadecimal.proofs.put_pairs.Given as goal

abbrev pub invariant-loop-k : goal.invariant-loop-k
invariant-loop-k l = l.out ≡ paste l.initial.out 0 (pairs l.text) l.k
