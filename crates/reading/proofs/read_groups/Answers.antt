-- The rest of the integral digits, the whole groups and the rest of the fraction, each tested before it is stored; the first that is out of range decides.
-- Assumes what the contract requires, and nothing else.
use Rattle.std.proofs.Common.{◌≡◌, ℕ, ◌+◌, ◌-◌, ◌*◌, ◌^◌, length, take, drop, set, rules, arith, sym, ◌∙◌, ap, refl}
use borrow.Author.Tests.{lt-ltb}
use lib.ListN.{length-set}
use Rattle.groups.specs.Numbers.{number}
use Rattle.groups.specs.Layout.{width, form_of}
use Rattle.groups.specs.Sides.{rest, lead_places, wholes}
use Rattle.groups.specs.Packed.{digits_in}
use Rattle.groups.proofs.Places.{power-is}
use Rattle.groups.proofs.Sizes.{width-le, packed-sides}
use Rattle.groups.proofs.SidesLaws.{fields}
use Rattle.reading.proofs.Sided.{tail_in, lead-over, four-over, tail-over, four-in, tail-in, filled-lead, filled_more, filled-all}
use Rattle.reading.proofs.read_groups.Goals as goal

pub part_at-lead-requires : goal.part_at-lead-requires
part_at-lead-requires c =
    let a = c.args in
    let f = fields a.intg a.frac a.s c.requires.0 in
    let z = packed-sides a.intg a.frac c.requires.1.0 in
    let w = width-le (rest a.intg) in
    omega arith

pub returns-then-power-lead : goal.returns-then-power-lead
returns-then-power-lead c =
    let a = c.args in
    let f = fields a.intg a.frac a.s c.requires.0 in
    let x = c.part_at-lead.ensures ∙ ap (λ (w : ℕ). number 256 (take w (digits_in (form_of a.inverted) a.bytes.now))) f.0.1 in
    let p : c.power.result ≡ 10 ^ rest a.intg = c.power.ensures ∙ rw f.0.0 (power-is (rest a.intg) (omega arith)) in
    sym (lead-over a.intg a.frac (digits_in (form_of a.inverted) a.bytes.now) a.inverted (rw (p, x) at c.if-power-lead.true))

pub loop-k-init : goal.loop-k-init
loop-k-init c =
    let a = c.args in
    let f = fields a.intg a.frac a.s c.requires.0 in
    let x = c.part_at-lead.ensures ∙ ap (λ (w : ℕ). number 256 (take w (digits_in (form_of a.inverted) a.bytes.now))) f.0.1 in
    let p : c.power.result ≡ 10 ^ rest a.intg = c.power.ensures ∙ rw f.0.0 (power-is (rest a.intg) (omega arith)) in
    let l = filled-lead a.intg a.frac (digits_in (form_of a.inverted) a.bytes.now) a.inverted _ x (rw p at c.if-power-lead.false) in
    record { from = omega arith; to = omega arith; nine = search rules; place = omega arith; filled = rw f.1.0.0 l }

pub part_at-g-requires : goal.part_at-g-requires
part_at-g-requires c =
    let a = c.args in
    let f = fields a.intg a.frac a.s c.requires.0 in
    let z = packed-sides a.intg a.frac c.requires.1.0 in
    omega arith

pub returns-then-g-ge1000000000 : goal.returns-then-g-ge1000000000
returns-then-g-ge1000000000 c =
    let a = c.args in
    let f = fields a.intg a.frac a.s c.requires.0 in
    let k = c.loop-k.k in
    let ds = digits_in (form_of a.inverted) a.bytes.now in
    let g = c.part_at-g.ensures ∙ ap (λ (n : ℕ). number 256 (take 4 (drop n ds))) c.loop-k.invariant.place in
    sym (four-over a.intg a.frac ds c.requires.1.0 a.inverted (k - lead_places a.intg) (omega arith) (rw g at c.if-g-ge1000000000.true))

pub overflow_add-at : goal.overflow_add-at
overflow_add-at c =
    let a = c.args in
    let f = fields a.intg a.frac a.s c.requires.0 in
    omega arith

pub loop-k-preserved : goal.loop-k-preserved
loop-k-preserved c =
    let a = c.args in
    let f = fields a.intg a.frac a.s c.requires.0 in
    let l = c.loop-k in
    let i = a.intg in
    let ds = digits_in (form_of a.inverted) a.bytes.now in
    let g = c.part_at-g.ensures ∙ ap (λ (n : ℕ). number 256 (take 4 (drop n ds))) l.invariant.place in
    let e : lead_places i + (l.k - lead_places i) ≡ l.k = omega arith in
    let q = rw e at (four-in i a.frac ds a.inverted (l.k - lead_places i) (omega arith)) in
    let r = q.0 ∙ lt-ltb _ _ (rw g at c.if-g-ge1000000000.false) in
    record {
      from = omega arith;
      to = omega arith;
      nine = simp length-set l.invariant.nine;
      place = omega arith;
      filled = filled_more i a.frac ds a.inverted l.k c.part_at-g.result l.gs (omega arith) l.invariant.filled (g ∙ sym q.1) r;
    }

pub part_at-requires : goal.part_at-requires
part_at-requires c =
    let a = c.args in
    let f = fields a.intg a.frac a.s c.requires.0 in
    let z = packed-sides a.intg a.frac c.requires.1.0 in
    let w = width-le (rest a.frac) in
    omega arith

-- past the loop all whole groups are stored, and the tail is read
pub returns-then-tail-ge1000000000 : goal.returns-then-tail-ge1000000000
returns-then-tail-ge1000000000 c =
    let a = c.args in
    let f = fields a.intg a.frac a.s c.requires.0 in
    let ds = digits_in (form_of a.inverted) a.bytes.now in
    let h = c.loop-k-test.false in
    let e : c.loop-k.at ≡ width (rest a.intg) + 4 * wholes a.intg a.frac = omega arith in
    let p : c.power-2.result ≡ 10 ^ (9 - rest a.frac) = c.power-2.ensures ∙ rw f.1.1.1.0 (power-is (9 - rest a.frac) (omega arith)) in
    let t : c.from.result * c.from-2.result ≡ tail_in a.intg a.frac ds = rw (c.from.ensures, c.from-2.ensures, p, c.part_at.ensures, f.1.1.1.1, e) refl in
    sym (tail-over a.intg a.frac ds c.requires.1.0 a.inverted (rw t at c.if-tail-ge1000000000.true))

pub returns : goal.returns
returns c =
    let a = c.args in
    let f = fields a.intg a.frac a.s c.requires.0 in
    let ds = digits_in (form_of a.inverted) a.bytes.now in
    let h = c.loop-k-test.false in
    let e : c.loop-k.at ≡ width (rest a.intg) + 4 * wholes a.intg a.frac = omega arith in
    let p : c.power-2.result ≡ 10 ^ (9 - rest a.frac) = c.power-2.ensures ∙ rw f.1.1.1.0 (power-is (9 - rest a.frac) (omega arith)) in
    let t : c.from.result * c.from-2.result ≡ tail_in a.intg a.frac ds = rw (c.from.ensures, c.from-2.ensures, p, c.part_at.ensures, f.1.1.1.1, e) refl in
    let l = c.loop-k in
    let k : l.k ≡ lead_places a.intg + wholes a.intg a.frac = omega arith in
    let q = tail-in a.intg a.frac ds a.inverted in
    let r = q.0 ∙ lt-ltb _ _ (rw t at c.if-tail-ge1000000000.false) in
    let g = filled_more a.intg a.frac ds a.inverted (lead_places a.intg + wholes a.intg a.frac) (tail_in a.intg a.frac ds) l.gs (omega arith) (rw k at l.invariant.filled) (sym q.1) r in
    let n : length (set l.gs (lead_places a.intg + wholes a.intg a.frac) (tail_in a.intg a.frac ds)) ≡ 9 = simp length-set l.invariant.nine in
    rw (t, f.1.1.0.0) (sym (filled-all a.intg a.frac ds a.inverted (set l.gs (lead_places a.intg + wholes a.intg a.frac) (tail_in a.intg a.frac ds)) n g))
