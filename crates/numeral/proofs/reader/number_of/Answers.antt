-- One digit more.
-- Assumes what the contract requires, and nothing else.
use Rattle.std.proofs.Common.{arith, sym, refl}
use lib.Dec.{lit<}
use Rattle.groups.specs.Numbers.{number}
use Rattle.numeral.proofs.Numbers.{number_more, below_more, power-fit}
use Rattle.numeral.proofs.reader.number_of.Goals as goal

pub loop-c-init : goal.loop-c-init
unfolding number
loop-c-init c = (refl, lit< tt)

pub overflow_mul-x : goal.overflow_mul-x
overflow_mul-x c =
    let l = power-fit c.loop-c.x c.loop-c.c-index 8 (omega arith) c.loop-c.invariant.1 in
    omega arith

pub overflow_add-x : goal.overflow_add-x
overflow_add-x c =
    let l = power-fit c.loop-c.x c.loop-c.c-index 8 (omega arith) c.loop-c.invariant.1 in
    let d = c.requires.digits c.loop-c.c-index (omega arith) in
    omega arith

pub loop-c-preserved : goal.loop-c-preserved
loop-c-preserved c =
    let d = c.requires.digits c.loop-c.c-index (omega arith) in
    (rw (c.loop-c.invariant.0, c.from.ensures) (sym (number_more c.args.digits.now c.loop-c.c-index (omega arith))), below_more c.loop-c.x c.from.result c.loop-c.c-index c.loop-c.invariant.1 (omega arith))
