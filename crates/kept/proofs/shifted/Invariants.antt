-- Each place passed holds the group z places on, or 0 where there is none.
-- Assumes what the contract requires, and nothing else.
use Rattle.std.proofs.Common.{◌≡◌, ℕ, ◌+◌, ◌<◌, length, get_or}
use Rattle.kept.proofs.shifted.Given as goal

abbrev pub invariant-loop-k : goal.invariant-loop-k
invariant-loop-k l = record {
  long : length l.out ≡ 9;
  passed : (j : ℕ) → j < l.k → get_or l.out j 0 ≡ get_or l.groups (j + l.z) 0;
}
