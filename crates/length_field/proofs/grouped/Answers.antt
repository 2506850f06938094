-- What the groups passed hold, put below the groups to come, is the whole field; five groups hold less than 2 to the 35.
-- Assumes nothing.
use Rattle.std.proofs.Common.{arith, ◌≡◌, ◌+◌, ◌-◌, ◌*◌}
use Rattle.std.proofs.lemmas.Grind.{common_steps}
use Rattle.length_field.specs.Length.{got, field_of, length_at}
use Rattle.length_field.proofs.Fields.{cut-here, long-here, last-here, more-here, bound, unit-more}
use Rattle.length_field.proofs.grouped.Goals as goal

pub returns-then-left-k-clause-value : goal.returns-then-left-k-clause-value
returns-then-left-k-clause-value c = cut-here _ _ _ _ _ _ c.loop-k.invariant.passed c.loop-k-test.true (omega arith)

pub overflow_mul-unit : goal.overflow_mul-unit
overflow_mul-unit c =
    let l = c.loop-k in
    let h = bound l.low l.unit l.k c.from-b.result l.invariant.unit c.loop-k-test.true l.invariant.low c.if-b-lt128.true in
    omega arith

pub overflow_add-low : goal.overflow_add-low
overflow_add-low c =
    let l = c.loop-k in
    let h = bound l.low l.unit l.k c.from-b.result l.invariant.unit c.loop-k-test.true l.invariant.low c.if-b-lt128.true in
    omega arith

pub returns-in_err-length-clause-value : goal.returns-in_err-length-clause-value
returns-in_err-length-clause-value c =
    let l = c.loop-k in
    let h : field_of c.args.at (got (l.low + l.unit * c.from-b.result) (l.k + 1)) ≡ length_at c.args.doc.now c.args.at c.args.end =
    last-here _ _ _ _ _ _ l.invariant.passed c.loop-k-test.true (omega arith) c.from-b.ensures c.if-b-lt128.true in
    grind (arith, common_steps, h)

pub returns-then-b-lt128-clause-value : goal.returns-then-b-lt128-clause-value
returns-then-b-lt128-clause-value c =
    let l = c.loop-k in
    let h : field_of c.args.at (got (l.low + l.unit * c.from-b.result) (l.k + 1)) ≡ length_at c.args.doc.now c.args.at c.args.end =
    last-here _ _ _ _ _ _ l.invariant.passed c.loop-k-test.true (omega arith) c.from-b.ensures c.if-b-lt128.true in
    grind (arith, common_steps, h)

pub overflow_mul-low : goal.overflow_mul-low
overflow_mul-low c =
    let l = c.loop-k in
    let h = bound l.low l.unit l.k (c.from-b.result - 128) l.invariant.unit c.loop-k-test.true l.invariant.low (omega arith) in
    omega arith

pub overflow_add-low-in-loop-k : goal.overflow_add-low-in-loop-k
overflow_add-low-in-loop-k c =
    let l = c.loop-k in
    let h = bound l.low l.unit l.k (c.from-b.result - 128) l.invariant.unit c.loop-k-test.true l.invariant.low (omega arith) in
    omega arith

pub overflow_mul-unit-in-loop-k : goal.overflow_mul-unit-in-loop-k
overflow_mul-unit-in-loop-k c =
    let l = c.loop-k in
    let h = bound l.low l.unit l.k 0 l.invariant.unit c.loop-k-test.true l.invariant.low (omega arith) in
    omega arith

pub loop-k-preserved : goal.loop-k-preserved
loop-k-preserved c =
    let l = c.loop-k in
    let h = bound l.low l.unit l.k (c.from-b.result - 128) l.invariant.unit c.loop-k-test.true l.invariant.low (omega arith) in
    record {
      unit = unit-more l.unit l.k l.invariant.unit;
      low = h.0;
      passed = more-here _ _ _ _ _ _ l.invariant.passed c.loop-k-test.true (omega arith) c.from-b.ensures c.if-b-lt128.false;
    }

pub returns-clause-value : goal.returns-clause-value
returns-clause-value c = long-here _ _ _ _ _ _ c.loop-k.invariant.passed c.loop-k-test.false
