-- Digits whose count is even are pairs, and others are none.
-- Assumes nothing.
use Rattle.std.proofs.Common.{◌∙◌, arith}
use Rattle.std.proofs.lemmas.Grind.{common_steps}
use Rattle.hexadecimal.proofs.Pairs.{even, odd}
use Rattle.hexadecimal.proofs.are_pairs.Goals as goal

pub returns-then-text-eq0 : goal.returns-then-text-eq0
returns-then-text-eq0 c = c.are_digits.ensures ∙ even c.args.text.now c.if-text-eq0.true

pub returns-else-text-eq0 : goal.returns-else-text-eq0
returns-else-text-eq0 c =
    let o = odd c.args.text.now (omega arith) in
    grind (arith, common_steps)
