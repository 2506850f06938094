-- One word more is ASCII exactly where its top bits are clear.
-- Assumes nothing.
use Rattle.std.proofs.Common.{◌+◌, ◌*◌, arith}
use Rattle.ascii.proofs.Low.{pass}
use Rattle.ascii.proofs.Words.{both_clear}
use Rattle.ascii.proofs.are_ascii.Goals as goal

pub loop-k-preserved : goal.loop-k-preserved
loop-k-preserved g c =
    let at = c.args.at in
    let i = at + 8 * c.loop-k.k in
    let b = both_clear c.loop-k.all c.tops-all.result i _ _ c.loop-k.invariant c.tops-all.ensures.clear (pass c.args.s.now at i (omega arith)) in
    search (arith, b)
