-- Two more bytes come, the first of them in the range that the first byte asks for.
-- Assumes nothing.
use Rattle.std.proofs.Common.{arith}
use Rattle.std.proofs.lemmas.Grind.{common_steps}
use Rattle.rfc3629.proofs.Steps.{lead3}
use Rattle.utf8.proofs.Steps.{begun, onto, halted, whole}
use Rattle.utf8.proofs.past_three.Goals as goal

pub returns-in_err-second : goal.returns-in_err-second
returns-in_err-second c =
    let b = begun c.args.s.now c.args.at (omega arith) (lead3 _ (omega arith) (omega arith)) in
    let h = halted b (c.in_err-second.ensures.three (omega arith)) in
    grind (arith, common_steps, h)

pub returns-in_err-need : goal.returns-in_err-need
returns-in_err-need c =
    let b = begun c.args.s.now c.args.at (omega arith) (lead3 _ (omega arith) (omega arith)) in
    let h = halted (onto b (c.in_ok-second.ensures.three (omega arith))) c.in_err-need.ensures in
    grind (arith, common_steps, h)

pub returns : goal.returns
returns c =
    let b = begun c.args.s.now c.args.at (omega arith) (lead3 _ (omega arith) (omega arith)) in
    let w = c.in_ok-need.ensures in
    (whole _ _ 3 (onto (onto b (c.in_ok-second.ensures.three (omega arith))) w) (omega arith) (omega (arith, w.0)), omega arith)
