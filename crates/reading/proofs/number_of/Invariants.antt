-- The bytes so far write the number so far.
-- Assumes what the contract requires, and nothing else.
use Rattle.std.proofs.Common.{◌≡◌, take}
use Rattle.groups.specs.Numbers.{number}
use Rattle.reading.proofs.number_of.Given as goal

abbrev pub invariant-loop-b : goal.invariant-loop-b
invariant-loop-b l = l.x ≡ number 256 (take l.b-index l.bytes)
