-- Every place passed is as it must be; the first that is not decides.
-- Assumes nothing.
use Rattle.std.proofs.Common.{◌≡◌, ℕ, ◌<◌, true, get_or}
use Rattle.groups.specs.Course.{capped_at}
use Rattle.formed.proofs.capped.Given as goal

abbrev pub invariant-loop-k : goal.invariant-loop-k
invariant-loop-k l = (j : ℕ) → j < l.k → capped_at l.t j (get_or l.groups j 0) ≡ true
