-- Where the first words are all ASCII the end is the same from any place among them.
-- Assumes nothing.
use Rattle.std.proofs.Common.{◌*◌, ◌-◌, length, arith}
use Rattle.std.proofs.lemmas.Bool.Decides.{nat_tests}
use Rattle.ascii.proofs.Low.{pass, front-le}
use Rattle.ascii.proofs.ends.Goals as goal
use Rattle.ascii.proofs.ends.Goals.{then-are_ascii, else-are_ascii}

pub returns : goal.returns
returns g c =
    let s = c.args.s.now in
    let f = front-le s 0 (omega arith) in
    elim c.if-are_ascii.branch [
      | then-are_ascii w ↦ let p = pass s 0 (length s - 8 * g.row.W) in grind (arith, nat_tests)
      | else-are_ascii w ↦ grind (arith, nat_tests)
    ]
