-- After each turn the groups passed are printed, and the rest is as it was.
-- Assumes what the contract requires, and nothing else.
use Rattle.std.proofs.Common.{◌≡◌, ◌+◌, ◌-◌, ◌*◌, ◌≤◌, ◌++◌, length, map, take, drop}
use Rattle.printing.specs.Print.{show}
use Rattle.printing.specs.Course.{nines}
use Rattle.printing.proofs.put_nines.Given as goal

abbrev pub invariant-loop-k : goal.invariant-loop-k
invariant-loop-k l = record {
  from : l.from ≤ l.k;
  to : l.k ≤ l.to;
  place : l.p ≡ l.at + 9 * (l.k - l.from);
  long : length l.out ≡ length l.fn.out;
  printed : l.out ≡ take l.at l.fn.out ++ (map show (nines l.groups l.from (l.k - l.from)) ++ drop l.p l.fn.out);
}
