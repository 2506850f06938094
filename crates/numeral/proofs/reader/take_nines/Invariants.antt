-- The groups passed are those of the digits.
-- Assumes what the contract requires, and nothing else.
use Rattle.std.proofs.Common.{◌≤◌}
use Rattle.numeral.specs.Course.{Nines}
use Rattle.numeral.proofs.reader.take_nines.Given as goal

abbrev pub invariant-loop-k : goal.invariant-loop-k
invariant-loop-k l = (l.from ≤ l.k) × ((l.k ≤ l.to) × Nines l.digits l.from l.k l.fn.groups l.groups)
