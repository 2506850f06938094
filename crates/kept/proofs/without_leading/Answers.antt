-- Where no group leads, nothing is dropped.
-- Assumes nothing.
use Rattle.std.proofs.Common.{sym, ◌∙◌}
use Rattle.groups.proofs.Places.{ceil-nine}
use Rattle.kept.proofs.Ends.{none-leads, some-lead}
use Rattle.kept.proofs.without_leading.Goals as goal

pub returns-then-z-eq0 : goal.returns-then-z-eq0
returns-then-z-eq0 c =
    let p = c.args.parts in
    let n = c.div_ceil-n.ensures ∙ ceil-nine p.intg in
    none-leads p (sym (rw n at c.leading-z.ensures.0) ∙ c.if-z-eq0.true)

pub returns : goal.returns
returns c =
    let p = c.args.parts in
    let n = c.div_ceil-n.ensures ∙ ceil-nine p.intg in
    rw n (some-lead p c.leading-z.result c.shifted.result (rw n at c.leading-z.ensures.0) c.if-z-eq0.false c.shifted.ensures)
