-- Above F4 no character begins, and up to there three more bytes come, the first of them in the range that the first byte asks for.
-- Assumes nothing.
use Rattle.std.proofs.Common.{arith}
use Rattle.std.proofs.lemmas.Grind.{common_steps}
use Rattle.rfc3629.proofs.Steps.{lead4, lead_high}
use Rattle.utf8.proofs.Steps.{begun, onto, halted, never, whole}
use Rattle.utf8.proofs.past_four.Goals as goal

pub returns-then-s-at-gt244 : goal.returns-then-s-at-gt244
returns-then-s-at-gt244 c = never _ _ (omega arith) (lead_high _ c.if-s-at-gt244.true)

pub returns-in_err-second : goal.returns-in_err-second
returns-in_err-second c =
    let b = begun c.args.s.now c.args.at (omega arith) (lead4 _ (omega arith) (omega arith)) in
    let h = halted b (c.in_err-second.ensures.four (omega arith)) in
    grind (arith, common_steps, h)

pub returns-in_err-need : goal.returns-in_err-need
returns-in_err-need c =
    let b = begun c.args.s.now c.args.at (omega arith) (lead4 _ (omega arith) (omega arith)) in
    let h = halted (onto b (c.in_ok-second.ensures.four (omega arith))) c.in_err-need.ensures in
    grind (arith, common_steps, h)

pub returns-in_err-need-2 : goal.returns-in_err-need-2
returns-in_err-need-2 c =
    let b = begun c.args.s.now c.args.at (omega arith) (lead4 _ (omega arith) (omega arith)) in
    let h = halted (onto (onto b (c.in_ok-second.ensures.four (omega arith))) c.in_ok-need.ensures) c.in_err-need-2.ensures in
    grind (arith, common_steps, h)

pub returns : goal.returns
returns c =
    let b = begun c.args.s.now c.args.at (omega arith) (lead4 _ (omega arith) (omega arith)) in
    let w = c.in_ok-need-2.ensures in
    (whole _ _ 4 (onto (onto (onto b (c.in_ok-second.ensures.four (omega arith))) c.in_ok-need.ensures) w) (omega arith) (omega (arith, w.0)), omega arith)
