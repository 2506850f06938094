-- The groups that there are have at most nine digits and the others are 0; then the first place and the last decide.
-- Assumes what the contract requires, and nothing else.
use Rattle.std.proofs.Common.{◌≡◌, ◌+◌, ◌-◌, ◌*◌, ◌<◌, get_or, arith, sym, ◌∙◌}
use native.Mathlib.Nat.{mod-one}
use borrow.Author.Tests.{eq-eqb}
use Rattle.groups.specs.Layout.{groups_of}
use Rattle.groups.proofs.Places.{power-is, pow-pos10, ceil-nine}
use Rattle.groups.proofs.Caps.{not-capped, first-over, all_of, all-is}
use Rattle.formed.proofs.all_well.Goals as goal
use Rattle.formed.proofs.all_well.Goals.{then-not-capped-via-then-not-capped, then-not-capped-via-else-not-capped+then-groups-power}

pub returns-then-not-capped : goal.returns-then-not-capped
unfolding groups_of
returns-then-not-capped c =
    let i = c.args.intg in
    let f = c.args.frac in
    let gs = c.args.groups.now in
    let en = c.div_ceil-n.ensures ∙ ceil-nine i in
    let em = c.div_ceil-m.ensures ∙ ceil-nine f in
    elim c.then-not-capped.branch [
      | then-not-capped-via-then-not-capped w ↦ sym (not-capped i f gs (rw (en, em) at (sym w.if-not-capped.ensures)))
      | then-not-capped-via-else-not-capped+then-groups-power w ↦ sym (first-over i f gs (rw (w.power.ensures, en, power-is (i + 9 - 9 * groups_of i) (omega arith)) at w.if-groups-power.true))
    ]

pub nonzero_rem-result : goal.nonzero_rem-result
unfolding groups_of
nonzero_rem-result c =
    let f = c.args.frac in
    rw (c.power-else-rest-eq0.ensures, c.div_ceil-m.ensures, ceil-nine f, power-is (9 * groups_of f - f) (omega arith)) (pow-pos10 (9 * groups_of f - f))

pub returns-then-rest-eq0 : goal.returns-then-rest-eq0
unfolding groups_of
returns-then-rest-eq0 c =
    let i = c.args.intg in
    let f = c.args.frac in
    let gs = c.args.groups.now in
    let en = c.div_ceil-n.ensures ∙ ceil-nine i in
    let em = c.div_ceil-m.ensures ∙ ceil-nine f in
    let e : 9 * groups_of f - f ≡ 0 = rw em at c.if-rest-eq0.true in
    eq-eqb _ 0 c.if-rest-eq0.true ∙ sym (all_of i f gs (rw (en, em) at (sym c.if-not-capped.ensures)) (rw (c.power.ensures, en, power-is (i + 9 - 9 * groups_of i) (omega arith)) at c.if-groups-power.false) (rw e (mod-one (get_or gs (groups_of i + groups_of f - 1) 0))))

pub returns-else-rest-eq0 : goal.returns-else-rest-eq0
unfolding groups_of
returns-else-rest-eq0 c =
    let i = c.args.intg in
    let f = c.args.frac in
    let gs = c.args.groups.now in
    let en = c.div_ceil-n.ensures ∙ ceil-nine i in
    let em = c.div_ceil-m.ensures ∙ ceil-nine f in
    let h : 9 * c.div_ceil-m.result - f ≡ 0 → ⊥ = c.if-rest-eq0.false in
    let q : 0 < 9 * c.div_ceil-m.result - f = omega arith in
    let l : 0 < 9 * groups_of f - f = rw em at q in
    rw (c.power-else-rest-eq0.ensures, en, em, power-is (9 * groups_of f - f) (omega arith)) (sym (all-is i f gs (rw (en, em) at (sym c.if-not-capped.ensures)) (rw (c.power.ensures, en, power-is (i + 9 - 9 * groups_of i) (omega arith)) at c.if-groups-power.false) l (omega arith)))
