-- Below C2 no character begins, and from there on one more byte comes.
-- Assumes nothing.
use Rattle.std.proofs.Common.{arith}
use Rattle.std.proofs.lemmas.Grind.{common_steps}
use Rattle.rfc3629.proofs.Steps.{lead_low, lead2}
use Rattle.utf8.proofs.Steps.{begun, onto, halted, never, whole}
use Rattle.utf8.proofs.past_two.Goals as goal

pub returns-then-s-at-lt194 : goal.returns-then-s-at-lt194
returns-then-s-at-lt194 c = never _ _ (omega arith) (lead_low _ (omega arith) c.if-s-at-lt194.true)

pub returns-in_err-need : goal.returns-in_err-need
returns-in_err-need c =
    let b = begun c.args.s.now c.args.at (omega arith) (lead2 _ c.if-s-at-lt194.false (omega arith)) in
    let h = halted b c.in_err-need.ensures in
    grind (arith, common_steps, h)

pub returns : goal.returns
returns c =
    let b = begun c.args.s.now c.args.at (omega arith) (lead2 _ c.if-s-at-lt194.false (omega arith)) in
    let w = c.in_ok-need.ensures in
    (whole _ _ 2 (onto b w) (omega arith) (omega (arith, w.0)), omega arith)
