-- The refusals in their order; past them the groups are read.
-- Assumes nothing.
use Rattle.std.proofs.Common.{◌≡◌, ℕ, ◌-◌, Bool, true, false, arith, sym, ◌∙◌, ap}
use borrow.Author.Tests.{le-leb, lt-leb}
use Rattle.groups.specs.Layout.{size_in, form_of}
use Rattle.groups.specs.Sides.{sides_of}
use Rattle.groups.specs.Read.{in_range, read_groups}
use Rattle.groups.specs.declared.layout.Sides.{Sides}
use Rattle.groups.proofs.Accept.{in-range}
use Rattle.groups.proofs.Sizes.{packed-size, packed-sides}
use Rattle.reading.proofs.read.Goals as goal

-- the size that is tested is that of the groups, in either form
sized : (v : Bool) (p s : ℕ) (z : Sides) → in_range p s ≡ true → z ≡ sides_of (p - s) s → z.size ≡ size_in (form_of v) (p - s) s
sized v p s z r e =
    let h = in-range p s r in
    ap (λ (s : Sides). s.size) e ∙ sym (packed-sides (p - s) s (omega arith)) ∙ sym (packed-size v (p - s) s)

pub returns-then-not-accepted : goal.returns-then-not-accepted
unfolding read_groups
returns-then-not-accepted c = sym (simp (sym c.if-not-accepted.ensures))

pub overflow_sub-intg : goal.overflow_sub-intg
overflow_sub-intg c = (in-range _ _ (sym c.if-not-accepted.ensures)).1.1

pub returns-then-bytes-s : goal.returns-then-bytes-s
unfolding read_groups
returns-then-bytes-s c =
    let a = c.args in
    let r : in_range a.precision a.scale ≡ true = sym c.if-not-accepted.ensures in
    let z = sized a.inverted a.precision a.scale c.sides_of-s.result r c.sides_of-s.ensures in
    sym (simp (r, lt-leb _ _ (rw z at c.if-bytes-s.true)))

pub read_groups-requires : goal.read_groups-requires
read_groups-requires c =
    let a = c.args in
    let r : in_range a.precision a.scale ≡ true = sym c.if-not-accepted.ensures in
    let h = in-range a.precision a.scale r in
    let z = sized false a.precision a.scale c.sides_of-s.result r c.sides_of-s.ensures in
    (c.sides_of-s.ensures, (omega arith, rw z at c.if-bytes-s.false))

pub returns : goal.returns
unfolding read_groups
returns c =
    let a = c.args in
    let r : in_range a.precision a.scale ≡ true = sym c.if-not-accepted.ensures in
    let z = sized a.inverted a.precision a.scale c.sides_of-s.result r c.sides_of-s.ensures in
    c.read_groups.ensures ∙ sym (simp (r, le-leb _ _ (rw z at c.if-bytes-s.false)))
