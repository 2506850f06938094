-- One byte more.
-- Assumes what the contract requires, and nothing else.
use Rattle.std.proofs.Common.{◌≡◌, ℕ, ◌<◌, ◌^◌, take, arith, sym, refl}
use native.Mathlib.Nat.{pow-le-pow_right, zero-add}
use lib.Dec.{lit<}
use Rattle.groups.specs.Numbers.{number}
use Rattle.groups.proofs.Radix.{more}
use Rattle.reading.proofs.Shown.{part_lt}
use Rattle.reading.proofs.number_of.Goals as goal

-- three bytes or fewer leave room for one more
room : (x k : ℕ) → x < 256 ^ k → k < 4 → x < 16777216
room x k h l = let z : 0 < 256 = lit< tt in let m = pow-le-pow_right z {i = k} {j = 3} (omega arith) in omega arith

pub loop-b-init : goal.loop-b-init
unfolding number
loop-b-init c = refl

pub overflow_mul-x : goal.overflow_mul-x
overflow_mul-x c =
    let i : c.loop-b.x ≡ number 256 (take c.loop-b.b-index c.args.bytes.now) = c.loop-b.invariant in
    let l = part_lt c.args.bytes.now c.loop-b.b-index 0 (λ k. omega (arith, c.type_inv.bytes k)) (omega arith) in
    let r = room c.loop-b.x c.loop-b.b-index (rw i l) (omega arith) in
    omega arith

pub overflow_add-x : goal.overflow_add-x
overflow_add-x c =
    let i : c.loop-b.x ≡ number 256 (take c.loop-b.b-index c.args.bytes.now) = c.loop-b.invariant in
    let l = part_lt c.args.bytes.now c.loop-b.b-index 0 (λ k. omega (arith, c.type_inv.bytes k)) (omega arith) in
    let r = room c.loop-b.x c.loop-b.b-index (rw i l) (omega arith) in
    omega (arith, c.type_inv.bytes c.loop-b.b-index)

pub loop-b-preserved : goal.loop-b-preserved
loop-b-preserved c =
    let i : c.loop-b.x ≡ number 256 (take c.loop-b.b-index c.args.bytes.now) = c.loop-b.invariant in
    rw (i, c.from.ensures) (sym (rw zero-add at (more 256 c.args.bytes.now 0 c.loop-b.b-index (omega arith))))
