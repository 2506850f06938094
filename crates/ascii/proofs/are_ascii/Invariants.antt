-- The top bits that are put together are clear where all words so far are ASCII.
-- Assumes nothing.
use Rattle.std.proofs.Common.{◌≡◌, ◌==◌, ◌+◌, ◌*◌, nat_le}
use Rattle.ascii.specs.Ascii.{ascii_end}
use Rattle.ascii.proofs.are_ascii.Given as goal

abbrev pub invariant-loop-k : goal.invariant-loop-k
invariant-loop-k g l = (l.all == 0) ≡ nat_le (l.at + 8 * l.k) (ascii_end l.s l.at)
