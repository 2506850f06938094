-- A group of no bytes is 0; of the others the greatest number tells the first bit and the inverse.
-- Assumes what the contract requires, and nothing else.
use Rattle.std.proofs.Common.{◌≡◌, ℕ, ◌+◌, ◌-◌, take, drop, arith, ◌∙◌, ap, refl, true, false}
use Rattle.groups.specs.Numbers.{number}
use Rattle.reading.specs.Course.{shown}
use Rattle.reading.proofs.Shown.{greatest-is, of-part, part_lt}
use Rattle.reading.proofs.part_at.Goals as goal

pub returns-then-w-eq0 : goal.returns-then-w-eq0
unfolding number
returns-then-w-eq0 c = rw c.if-w-eq0.true refl

-- the bytes that are cut out are the w bytes from the place on
cut : (at w : ℕ) → at + w - at ≡ w
cut at w = omega arith

pub begun-x-requires : goal.begun-x-requires
begun-x-requires c =
    let a = c.args in
    let g = greatest-is a.w (omega arith) (omega arith) in
    let l = part_lt a.bytes.now a.w a.at (λ k. omega (arith, c.type_inv.bytes k)) (omega arith) in
    let e = c.number_of.ensures ∙ ap (λ (n : ℕ). number 256 (take n (drop a.at a.bytes.now))) (cut a.at a.w) in
    omega arith

pub overflow_sub-result : goal.overflow_sub-result
overflow_sub-result c =
    let g = greatest-is c.args.w (omega arith) (omega arith) in
    omega (arith, c.begun-x.ensures.1)

pub returns-then-inverted : goal.returns-then-inverted
unfolding shown
returns-then-inverted c =
    let a = c.args in
    let e = c.number_of.ensures ∙ ap (λ (n : ℕ). number 256 (take n (drop a.at a.bytes.now))) (cut a.at a.w) in
    rw (c.begun-x.ensures.0, e, c.if-inverted.true) (of-part a.bytes.now a.w (λ k. omega (arith, c.type_inv.bytes k)) true a.at (omega arith) (omega arith) (omega arith))

pub returns-else-inverted : goal.returns-else-inverted
unfolding shown
returns-else-inverted c =
    let a = c.args in
    let e = c.number_of.ensures ∙ ap (λ (n : ℕ). number 256 (take n (drop a.at a.bytes.now))) (cut a.at a.w) in
    rw (c.begun-x.ensures.0, e, c.if-inverted.false) (of-part a.bytes.now a.w (λ k. omega (arith, c.type_inv.bytes k)) false a.at (omega arith) (omega arith) (omega arith))
