-- The end is not past the text's.
-- Assumes nothing.
use Rattle.std.proofs.Common.{arith}
use Rattle.std.proofs.lemmas.Bool.Decides.{nat_tests}
use Rattle.ascii.proofs.Low.{front-le}
use Rattle.ascii.proofs.step.Goals as goal
use Rattle.ascii.proofs.step.Goals.{else-at-s-via-then-at-s+else-are_ascii, else-at-s-via-else-at-s}

pub returns-else-at-s-clause-near : goal.returns-else-at-s-clause-near
returns-else-at-s-clause-near g c =
    let f = front-le c.args.s.now c.args.at (omega arith) in
    elim c.else-at-s.branch [
      | else-at-s-via-then-at-s+else-are_ascii w ↦ grind (arith, nat_tests)
      | else-at-s-via-else-at-s w ↦ grind (arith, nat_tests)
    ]
