-- All words so far are ASCII.
-- Assumes nothing.
use Rattle.std.proofs.Common.{◌≤◌, ◌+◌, ◌*◌}
use Rattle.ascii.specs.Ascii.{ascii_end}
use Rattle.ascii.proofs.past.Given as goal

abbrev pub invariant-loop-k : goal.invariant-loop-k
invariant-loop-k g l = l.at + 8 * l.k ≤ ascii_end l.s l.at
