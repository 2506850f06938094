-- What is passed, ASCII and whole characters, leaves the machine's verdict as it is.
-- Assumes nothing.
use Rattle.std.proofs.Common.{arith}
use Rattle.utf8.proofs.Steps.{then, ascii-runs, ascii_more, front-runs}
use Rattle.utf8.proofs.quick.Goals as goal

pub returns-then-s-lt8 : goal.returns-then-s-lt8
returns-then-s-lt8 c = (front-runs 8 _ c.front8.ensures, omega arith)

pub loop-i-smaller-then-s-i-lt128-2 : goal.loop-i-smaller-then-s-i-lt128-2
loop-i-smaller-then-s-i-lt128-2 c =
    let h = ascii_more c.args.s.now c.loop-i.i (omega arith) c.if-s-i-lt128.true c.ascii_end-i.ensures in
    omega (arith, (ascii-runs c.args.s.now c.loop-i.i (omega arith) c.ascii_end-i.ensures).within)

pub loop-i-preserved-then-s-i-lt128-2 : goal.loop-i-preserved-then-s-i-lt128-2
loop-i-preserved-then-s-i-lt128-2 c = then c.loop-i.invariant (ascii-runs _ _ (omega arith) c.ascii_end-i.ensures)
