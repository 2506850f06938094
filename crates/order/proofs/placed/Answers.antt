-- The groups stand from the first place on, with zeros before and after them.
-- Assumes nothing.
use Rattle.std.proofs.Common.{◌≡◌, ◌≤◌, arith, ◌∙◌}
use Rattle.groups.specs.Layout.{groups_of}
use Rattle.groups.proofs.Accept.{well-digits}
use Rattle.groups.proofs.Places.{ceil-nine}
use Rattle.groups.proofs.Sign.{formed-groups}
use Rattle.order.proofs.Lex.{placed-written}
use Rattle.order.proofs.placed.Goals as goal

pub overflow_sub-first : goal.overflow_sub-first
overflow_sub-first c =
    let h = well-digits _ _ _ (formed-groups _ _ _ _ c.args.d.well) in
    omega arith

pub returns : goal.returns
unfolding groups_of
returns c =
    let h = well-digits _ _ _ (formed-groups _ _ _ _ c.args.d.well) in
    let e : c.div_ceil-first.result ≡ groups_of c.args.d.parts.now.intg = c.div_ceil-first.ensures ∙ ceil-nine c.args.d.parts.now.intg in
    let m : groups_of c.args.d.parts.now.intg ≤ 8 = omega arith in
    rw (e, c.copy_from_slice.ensures.after) (placed-written (groups_of c.args.d.parts.now.intg) c.args.d.parts.now.groups m)
