-- The groups passed are written, and the rest is as it was.
-- Assumes what the contract requires, and nothing else.
use Rattle.std.proofs.Common.{◌≡◌, ◌+◌, ◌-◌, ◌*◌, ◌≤◌, length, get_or}
use Rattle.groups.specs.Course.{run}
use Rattle.writing.specs.Course.{laid_at, shade}
use Rattle.writing.proofs.put_fours.Given as goal

abbrev pub invariant-loop-k : goal.invariant-loop-k
invariant-loop-k l = record {
  from : l.from ≤ l.k;
  to : l.k ≤ l.to;
  place : l.p ≡ l.at + 4 * (l.k - l.from);
  long : length l.out ≡ length l.fn.out;
  laid : l.out ≡ laid_at l.fn.out l.at (4 * (l.k - l.from)) (run 256 4 (λ j. shade l.inverted (get_or l.groups j 0)) l.from (l.k - l.from));
}
