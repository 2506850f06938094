-- The digits come lowest first: what is left to print, put before those already printed, is the whole.
-- Assumes what the contract requires, and nothing else.
use Rattle.std.proofs.Common.{◌≡◌, ◌+◌, ◌++◌, length, map, take, drop}
use Rattle.groups.specs.Numbers.{digits}
use Rattle.printing.specs.Print.{show}
use Rattle.printing.proofs.put_group.Given as goal

abbrev pub invariant-loop-i : goal.invariant-loop-i
invariant-loop-i l = record {
  long : length l.out ≡ length l.fn.out;
  whole : take l.at l.out ++ (map show (digits 10 l.i l.rest) ++ drop (l.at + l.i) l.out) ≡ take l.at l.fn.out ++ (map show (digits 10 l.w l.x) ++ drop (l.at + l.w) l.fn.out);
}
