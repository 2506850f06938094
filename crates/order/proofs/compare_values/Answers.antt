-- Signs decide where they differ, since none stands on a zero; of two negative values the larger magnitude is the less.
-- Assumes nothing.
use Rattle.std.proofs.Common.{◌≡◌, ℕ, List, Bool, true, ◌<◌, length, sym}
use Rattle.groups.specs.Layout.{groups_of}
use Rattle.groups.specs.Write.{well_formed}
use Rattle.groups.proofs.Sign.{formed-sign}
use Rattle.order.specs.Value.{magnitude}
use Rattle.order.proofs.Values.{both-neg, both-pos, neg-pos, pos-neg, below-magnitude}
use Rattle.order.proofs.compare_values.Goals as goal

-- a decimal that is negative has a magnitude
some : (neg : Bool) (i f : ℕ) (gs : List ℕ) → well_formed neg i f gs ≡ true → neg ≡ true → length gs ≡ 9 → 0 < magnitude (groups_of i) gs
some neg i f gs w e n = below-magnitude (groups_of i) gs n (rw e at (formed-sign neg i f gs w))

pub returns-in-true-true : goal.returns-in-true-true
returns-in-true-true c = rw (c.order_of.ensures, c.in-true-true.is-0, c.in-true-true.is-1) (sym (both-neg _ _))

pub returns-in-true-false : goal.returns-in-true-false
returns-in-true-false c =
    let l = some _ _ _ _ c.args.a.well c.in-true-false.is-0 c.args.a.nine in
    rw (c.in-true-false.is-0, c.in-true-false.is-1) (sym (neg-pos _ _ l))

pub returns-in-false-true : goal.returns-in-false-true
returns-in-false-true c =
    let l = some _ _ _ _ c.args.b.well c.in-false-true.is-1 c.args.b.nine in
    rw (c.in-false-true.is-0, c.in-false-true.is-1) (sym (pos-neg _ _ l))

pub returns-in-false-false : goal.returns-in-false-false
returns-in-false-false c = rw (c.order_of-in-false-false.ensures, c.in-false-false.is-0, c.in-false-false.is-1) (sym (both-pos _ _))
