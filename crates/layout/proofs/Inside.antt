-- Entries lie within the header, once over the offset size.
-- Assumes nothing.
use mathlib.Core.Bool.{Bool, true, false, cond}
use Prim.Native.Nat.{ℕ, suc, ◌+◌, ◌*◌, ◌≤◌, ◌<◌}
use native.Mathlib.Omega.{arith}
use native.Mathlib.Nat.{mul-le-mul_right, suc-mul}
use Rattle.layout.specs.Layout.{offset_size, key_entry, key_place, value_place, header_size}
use Rattle.layout.specs.declared.Kind.{Kind}

-- one entry more, of w bytes
step : (w i n : ℕ) → i < n → i * w + w ≤ n * w
step w i n h = let p : suc i * w ≤ n * w = mul-le-mul_right w h in omega (arith, suc-mul i w)

module _ (k : Kind) (n i : ℕ) (h : i < n) where
  pub value-inside : value_place k n i + (offset_size k + 1) ≤ header_size k n
  unfolding value_place header_size
  value-inside = omega (arith, step (offset_size k + 1) i n h)

  pub key-inside : key_place k i + key_entry k ≤ header_size k n
  unfolding key_place value_place header_size
  key-inside = omega (arith, step (key_entry k) i n h)

module _ (k : Kind) where
  size-by : (b : Bool) → 2 ≤ cond b 4 2
  size-by true = omega arith
  size-by false = omega arith

  pub size-two : 2 ≤ offset_size k
  unfolding offset_size
  size-two = size-by k.large
