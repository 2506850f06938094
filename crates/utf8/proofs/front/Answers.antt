-- What is passed is ASCII.
-- Assumes nothing.
use Rattle.utf8.proofs.Steps.{front-runs}
use Rattle.utf8.proofs.front.Goals as goal

pub returns-then-s-lt128 : goal.returns-then-s-lt128
returns-then-s-lt128 c = front-runs 64 _ c.front64.ensures
