-- One byte more in front is the number from there on, and what at most eight bytes write fits.
-- Assumes what the contract requires, and nothing else.
use Rattle.std.proofs.Common.{◌-◌, sym, arith}
use Rattle.raw.proofs.Values.{value-next, value-end, value_drop_below}
use Rattle.raw.proofs.number.few.Goals as goal

pub loop-k-init : goal.loop-k-init
loop-k-init c = sym (value-end c.args.part.now)

pub overflow_mul-x : goal.overflow_mul-x
overflow_mul-x c = omega (arith, value-next c.loop-k.k (c.loop-k.k - 1) c.args.part.now (omega arith), value_drop_below 8 (c.loop-k.k - 1) c.args.part.now (λ j. (c.type_inv.part j).fits) c.requires)

pub overflow_add-x : goal.overflow_add-x
overflow_add-x c = omega (arith, value-next c.loop-k.k (c.loop-k.k - 1) c.args.part.now (omega arith), value_drop_below 8 (c.loop-k.k - 1) c.args.part.now (λ j. (c.type_inv.part j).fits) c.requires)

pub loop-k-preserved : goal.loop-k-preserved
loop-k-preserved c = omega (arith, value-next c.loop-k.k (c.loop-k.k - 1) c.args.part.now (omega arith))
