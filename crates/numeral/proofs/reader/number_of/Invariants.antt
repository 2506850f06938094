-- The digits so far write the number so far.
-- Assumes what the contract requires, and nothing else.
use Rattle.std.proofs.Common.{◌≡◌, ◌<◌, ◌^◌, map, take}
use Rattle.groups.specs.Numbers.{number}
use Rattle.numeral.specs.Read.{digit_of}
use Rattle.numeral.proofs.reader.number_of.Given as goal

abbrev pub invariant-loop-c : goal.invariant-loop-c
invariant-loop-c l = (l.x ≡ number 10 (map digit_of (take l.c-index l.digits))) × (l.x < 10 ^ l.c-index)
