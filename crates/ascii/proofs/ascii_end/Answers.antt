-- The end is the same from any place among ASCII; what is left behind the halves of a block is less than a word.
-- Assumes nothing.
use Rattle.std.proofs.Common.{◌≡◌, ◌+◌, ◌-◌, ◌<◌, length, drop, ℕ, ap, sym, ◌∙◌, length-drop, arith}
use Rattle.std.proofs.lemmas.List.{take_all}
use Rattle.std.proofs.lemmas.Bool.Decides.{nat_tests}
use Rattle.ascii.specs.Ascii.{ascii_end}
use Rattle.ascii.proofs.Low.{out, pass, front-le, low_prefix}
use Rattle.ascii.proofs.ascii_end.Goals as goal
use Rattle.ascii.proofs.ascii_end.Goals.{then-loop-i-test+else-are_ascii, else-loop-i-test}

pub returns-then-s-at : goal.returns-then-s-at
returns-then-s-at c = out c.args.s.now c.args.at c.if-s-at.true

pub overflow_add-i-in-loop-i : goal.overflow_add-i-in-loop-i
overflow_add-i-in-loop-i c = let f = front-le c.args.s.now c.args.at (omega arith) in omega arith

pub loop-i-preserved : goal.loop-i-preserved
loop-i-preserved c =
    let p = pass c.args.s.now c.args.at c.loop-i.i (omega arith) (omega arith) in
    grind (arith, nat_tests)

pub step-requires-clause-at_in_bounds : goal.step-requires-clause-at_in_bounds
step-requires-clause-at_in_bounds c = let f = front-le c.args.s.now c.args.at (omega arith) in omega arith

pub step-requires-2-clause-at_in_bounds : goal.step-requires-2-clause-at_in_bounds
step-requires-2-clause-at_in_bounds c =
    let s = c.args.s.now in
    let f = front-le s c.args.at (omega arith) in
    let p = pass s c.args.at c.loop-i.i (omega arith) (omega arith) in
    omega arith

pub step-i-requires-clause-at_in_bounds : goal.step-i-requires-clause-at_in_bounds
step-i-requires-clause-at_in_bounds c =
    let s = c.args.s.now in
    let f = front-le s c.args.at (omega arith) in
    let p = pass s c.args.at c.loop-i.i (omega arith) (omega arith) in
    let q = pass s c.args.at c.step.result (omega arith) (omega arith) in
    omega arith

pub returns : goal.returns
returns c =
    let s = c.args.s.now in
    let at = c.args.at in
    let f = front-le s at (omega arith) in
    let p = pass s at c.loop-i.i (omega arith) (omega arith) in
    let n : ascii_end s at < c.loop-i.i + 64 = elim c.loop-i-test.branch [
      | then-loop-i-test+else-are_ascii w ↦ grind (arith, nat_tests)
      | else-loop-i-test w ↦ omega arith
    ] in
    let q = pass s at c.step.result (omega arith) (omega arith) in
    let r = pass s at c.step-2.result (omega arith) (omega arith) in
    let t = pass s at c.step-i.result (omega arith) (omega arith) in
    let u = pass s at c.min.result (omega arith) (omega arith) in
    omega arith

pub returns-then-s-at-lt8 : goal.returns-then-s-at-lt8
returns-then-s-at-lt8 c =
    let rest = drop c.args.at c.args.s.now in
    let l : length rest ≡ length c.args.s.now - c.args.at = length-drop c.args.at c.args.s.now in
    let t = take_all (length c.args.s.now - c.args.at) rest (omega arith) in
    ap (λ (n : ℕ). c.args.at + n) (rw t at c.leading.ensures.value ∙ sym (low_prefix rest))
