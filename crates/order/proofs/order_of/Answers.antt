-- Where the points meet the groups alone decide, and else the places.
-- Assumes nothing.
use Rattle.std.proofs.Common.{◌≡◌, ℕ, List, ◌≤◌, true, arith, sym, ◌∙◌}
use Rattle.groups.specs.Layout.{groups_of}
use Rattle.groups.proofs.Accept.{well-digits}
use Rattle.groups.proofs.Base.{well-below}
use Rattle.groups.proofs.Places.{ceil-nine}
use Rattle.groups.proofs.Sign.{formed-groups}
use Rattle.groups.specs.Write.{well_groups}
use Rattle.order.specs.Course.{placed}
use Rattle.order.proofs.Lex.{cmp-is, order-scaled, placed-number, placed-length, placed_below}
use Rattle.order.proofs.order_of.Goals as goal

pub returns-then-div_ceil : goal.returns-then-div_ceil
returns-then-div_ceil c =
    let a = c.args.a.parts.now in
    let b = c.args.b.parts.now in
    let m : groups_of a.intg ≡ groups_of b.intg = sym (c.div_ceil.ensures ∙ ceil-nine a.intg) ∙ c.if-div_ceil.true ∙ c.div_ceil-2.ensures ∙ ceil-nine b.intg in
    let na = c.args.a.nine in
    let nb = c.args.b.nine in
    let ba = well-below _ _ _ na (formed-groups _ _ _ _ c.args.a.well) in
    let bb = well-below _ _ _ nb (formed-groups _ _ _ _ c.args.b.well) in
    c.cmp.ensures ∙ cmp-is 1000000000 a.groups b.groups (na ∙ sym nb) ba bb ∙ order-scaled _ _ a.groups b.groups m

-- as many digits as a decimal has take at most eight groups
few : (i f : ℕ) (gs : List ℕ) → well_groups i f gs ≡ true → groups_of i ≤ 8
unfolding groups_of
few i f gs w = let h = well-digits i f gs w in omega arith

pub returns-else-div_ceil : goal.returns-else-div_ceil
returns-else-div_ceil c =
    let a = c.args.a.parts.now in
    let b = c.args.b.parts.now in
    let wa = formed-groups _ _ _ _ c.args.a.well in
    let wb = formed-groups _ _ _ _ c.args.b.well in
    let na = c.args.a.nine in
    let nb = c.args.b.nine in
    let pa = placed-length (groups_of a.intg) a.groups (few _ _ _ wa) na in
    let pb = placed-length (groups_of b.intg) b.groups (few _ _ _ wb) nb in
    let ba = placed_below (groups_of a.intg) a.groups (well-below _ _ _ na wa) in
    let bb = placed_below (groups_of b.intg) b.groups (well-below _ _ _ nb wb) in
    rw (c.cmp-else-div_ceil.ensures, c.placed.ensures, c.placed-else-div_ceil.ensures, ← placed-number (groups_of a.intg) a.groups, ← placed-number (groups_of b.intg) b.groups)
    (cmp-is 1000000000 (placed (groups_of a.intg) a.groups) (placed (groups_of b.intg) b.groups) (pa ∙ sym pb) ba bb)
