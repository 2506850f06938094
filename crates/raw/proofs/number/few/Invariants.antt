-- The bytes are read from the last one down, and what is read so far is the number of those passed.
-- Assumes nothing.
use Rattle.std.proofs.Common.{◌≡◌, drop}
use Rattle.raw.specs.Numbers.{value}
use Rattle.raw.proofs.number.few.Given as goal

abbrev pub invariant-loop-k : goal.invariant-loop-k
invariant-loop-k l = l.x ≡ value (drop l.k l.part)
