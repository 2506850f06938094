-- The groups passed are those of the digits.
-- Assumes what the contract requires, and nothing else.
use Rattle.std.proofs.Common.{◌≡◌, ◌+◌, ◌-◌, ◌*◌, length, arith}
use Rattle.numeral.specs.Course.{nines_of}
use Rattle.numeral.proofs.Numbers.{nines-none, nines-more}
use Rattle.numeral.proofs.reader.take_nines.Goals as goal

pub loop-k-init : goal.loop-k-init
loop-k-init c = (omega arith, (omega arith, nines-none _ _ _))

pub loop-k-preserved : goal.loop-k-preserved
unfolding nines_of
loop-k-preserved c =
    let l = c.loop-k in
    let s = l.invariant.1.1.size in
    let n : length c.args.groups.now ≡ 9 = c.told-groups in
    let w : 9 * (l.k - c.args.from) + 9 - 9 * (l.k - c.args.from) ≡ 9 = omega arith in
    let z = rw w at c.number_of.ensures.0 in
    (omega arith, (omega arith, nines-more c.args.digits.now c.args.from l.k c.number_of.result c.args.groups.now l.groups l.invariant.0 (omega arith) z l.invariant.1.1))
