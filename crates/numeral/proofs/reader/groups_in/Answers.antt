-- The digits of each side are there, and what is stored by sides are the groups of the definition.
-- Assumes what the contract requires, and nothing else.
use Rattle.std.proofs.Common.{◌≡◌, ℕ, ◌-◌, ◌*◌, ◌<◌, ◌≤◌, ◌^◌, length, take, drop, map, arith, refl}
use lib.ListN.{length-drop}
use native.Mathlib.Nat.{mul-lt-mul_of_pos_right}
use Rattle.std.proofs.lemmas.List.{take_all, length-take}
use Rattle.groups.specs.Numbers.{number}
use Rattle.groups.specs.Layout.{power_of}
use Rattle.groups.proofs.Places.{power-is, pow-pos10, nine}
use Rattle.groups.proofs.SidesLaws.{fields}
use Rattle.numeral.specs.Read.{digit_of}
use Rattle.numeral.proofs.Grouped.{groups-stored}
use Rattle.numeral.proofs.reader.groups_in.Goals as goal

-- a group of nine digits that holds the last digits of a fraction
below_billion : (y t : ℕ) → t ≤ 9 → y < 10 ^ t → y * power_of (9 - t) < 1000000000
below_billion y t h l = rw (power-is (9 - t) (omega arith)) (rw (nine t h) at (mul-lt-mul_of_pos_right l (pow-pos10 (9 - t))))

pub take_nines-requires-clause-from_le_to : goal.take_nines-requires-clause-from_le_to
take_nines-requires-clause-from_le_to c =
    let i = length c.args.whole.now in
    let f = length c.args.fraction.now in
    let k = fields i f c.sides_of-s.result c.sides_of-s.ensures in
    let d = length-drop c.sides_of-s.result.lead c.args.whole.now in
    let t = length-take (i - c.sides_of-s.result.lead) (drop c.sides_of-s.result.lead c.args.whole.now) in
    (omega arith, (omega arith, omega arith))

pub take_nines-requires-2-clause-from_le_to : goal.take_nines-requires-2-clause-from_le_to
take_nines-requires-2-clause-from_le_to c =
    let k = fields (length c.args.whole.now) (length c.args.fraction.now) c.sides_of-s.result c.sides_of-s.ensures in
    (omega arith, (omega arith, omega arith))

pub overflow_mul-groups : goal.overflow_mul-groups
overflow_mul-groups c =
    let f = length c.args.fraction.now in
    let t = c.sides_of-s.result.tail in
    let k = fields (length c.args.whole.now) f c.sides_of-s.result c.sides_of-s.ensures in
    let d = length-drop (f - t) c.args.fraction.now in
    let n = length-take (f - (f - t)) (drop (f - t) c.args.fraction.now) in
    let l : length (take (f - (f - t)) (drop (f - t) c.args.fraction.now)) ≡ t = omega arith in
    let m = below_billion c.number_of-tail.result t (omega arith) (rw l at c.number_of-tail.ensures.1) in
    rw c.power.ensures (omega arith)

pub offset_bounds-groups-s : goal.offset_bounds-groups-s
offset_bounds-groups-s c =
    let k = fields (length c.args.whole.now) (length c.args.fraction.now) c.sides_of-s.result c.sides_of-s.ensures in
    omega arith

pub bounds-groups-s : goal.bounds-groups-s
bounds-groups-s c =
    let k = fields (length c.args.whole.now) (length c.args.fraction.now) c.sides_of-s.result c.sides_of-s.ensures in
    omega arith

pub returns : goal.returns
returns c =
    let W = c.args.whole.now in
    let T = c.args.fraction.now in
    let f = length T in
    let s = c.sides_of-s.result in
    let k = fields (length W) f s c.sides_of-s.ensures in
    let a = take_all (length W - s.lead) (drop s.lead W) (rw length-drop (omega arith)) in
    let q : f - (f - s.tail) ≡ s.tail = omega arith in
    let e : c.number_of-tail.result * c.power.result ≡ number 10 (map digit_of (take s.tail (drop (f - s.tail) T))) * 10 ^ (9 - s.tail) =
    rw (c.power.ensures, power-is (9 - s.tail) (omega arith), c.number_of-tail.ensures.0, q) refl in
    groups-stored W T c.requires.few s k c.number_of.result c.number_of.ensures.0 c.take_nines.new.groups c.take_nines-2.new.groups (rw a at c.take_nines.ensures) c.take_nines-2.ensures _ e
