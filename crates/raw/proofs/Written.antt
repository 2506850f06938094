-- The bytes that write a number, and the number that they write: each gives the other back.
-- Assumes nothing.
use mathlib.Core.Path.{◌≡◌, refl, ap}
use mathlib.Core.List.{List, [], ◌∷◌}
use Prim.Native.Nat.{ℕ, zero, suc, ◌+◌, ◌*◌, ◌^◌, ◌/◌, ◌%◌, ◌<◌}
use native.Mathlib.Nat.{pow-succ'}
use native.Mathlib.Omega.{arith}
use lib.ListN.{length}
use Rattle.raw.specs.Numbers.{value, bytes_of}
use Rattle.raw.proofs.Values.{Bytes}

pub length-bytes : (w n : ℕ) → length (bytes_of w n) ≡ w
unfolding bytes_of
length-bytes zero n = refl
length-bytes (suc w) n = ap suc (length-bytes w (n / 256))

-- what w bytes can hold
pub value-of-bytes : (w n : ℕ) → n < 256 ^ w → value (bytes_of w n) ≡ n
unfolding value bytes_of
value-of-bytes zero n h = omega arith
value-of-bytes (suc w) n h =
    let e : n / 256 < 256 ^ w = omega (arith, pow-succ' 256 w) in
    omega (arith, value-of-bytes w (n / 256) e)

pub bytes-of-value : (l : List ℕ) → Bytes l → bytes_of (length l) (value l) ≡ l
unfolding value bytes_of
bytes-of-value [] p = refl
bytes-of-value (b ∷ l) p =
    let h : b < 256 = p 0 in
    let v = value l in
    let low : (b + 256 * v) % 256 ≡ b = omega arith in
    let high : (b + 256 * v) / 256 ≡ v = omega arith in
    rw (low, high) (ap (λ (r : List ℕ). b ∷ r) (bytes-of-value l (λ k. p (suc k))))
