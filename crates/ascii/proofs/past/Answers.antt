-- The end is the same from each word, and the first that is not all ASCII has it.
-- Assumes nothing.
use Rattle.std.proofs.Common.{◌+◌, ◌*◌, arith}
use Rattle.std.proofs.lemmas.Bool.Decides.{nat_tests}
use Rattle.ascii.proofs.Low.{pass}
use Rattle.ascii.proofs.past.Goals as goal

pub returns-then-word-ne0 : goal.returns-then-word-ne0
returns-then-word-ne0 g c =
    let p = pass c.args.s.now c.args.at (c.args.at + 8 * c.loop-k.k) (omega arith) (omega arith) in
    grind (arith, nat_tests)

pub loop-k-preserved : goal.loop-k-preserved
loop-k-preserved g c =
    let p = pass c.args.s.now c.args.at (c.args.at + 8 * c.loop-k.k) (omega arith) (omega arith) in
    grind (arith, nat_tests)
