-- The rules of the sizes: a decimal's size is that of its two rests and its whole groups.
-- Assumes nothing.
use mathlib.Core.Path.{◌≡◌, refl}
use mathlib.Core.Bool.{Bool, true, false}
use Prim.Native.Nat.{ℕ, zero, suc, ◌+◌, ◌≤◌}
use native.Mathlib.Omega.{arith}
use Rattle.groups.specs.Layout.{width, form_of, offset, size_in, size, Plain, Inverted, Digits}
use Rattle.groups.specs.Sides.{sides_size}
use Rattle.groups.proofs.SidesLaws.{size-sides}

pub width-le : (d : ℕ) → width d ≤ 4
unfolding width
width-le d = omega arith

pub packed-sides : (i f : ℕ) → i + f ≤ 65 → size i f ≡ sides_size i f
unfolding width
packed-sides i f h = size-sides Plain i f h

-- as digits a decimal takes a byte for each
pub digits-size : (i f : ℕ) → f ≤ 30 → i + f ≤ 65 → size_in Digits i f ≡ i + f
digits-size i f hf h = let e = size-sides Digits i f h in omega arith

-- a decimal with a digit takes a byte
pub size-pos : (i f : ℕ) → i + f ≤ 65 → 1 ≤ i + f → 1 ≤ size i f
unfolding width
size-pos i f h l = let e = packed-sides i f h in omega arith

-- inverted bytes are as many
inverted-offset : (i f k : ℕ) → offset Inverted i f k ≡ offset Plain i f k
unfolding offset
inverted-offset i f zero = refl
inverted-offset i f (suc k) = rw (inverted-offset i f k)

pub packed-size : (neg : Bool) (i f : ℕ) → size_in (form_of neg) i f ≡ size i f
packed-size true i f = inverted-offset i f 9
packed-size false i f = refl
