-- A double that is no number has the one pattern that the logic has for it; all else is found by the check.
-- Assumes nothing.
use mathlib.Core.Path.{◌≡◌, refl}
use mathlib.Core.Bool.{true}
use Prim.Native.Nat.{ℕ}
use native.Mathlib.Omega.{arith}
use lib.Ieee.{Float, nan, inf, fin, binary64, is_nan, to_bits}
use Rattle.rows.specs.Rows.{bits_of}
use Rattle.rows.proofs.values.bits_of.Goals as goal

nan-bits : (x : Float) → is_nan x ≡ true → 9221120237041090560 ≡ to_bits binary64 x
unfolding is_nan to_bits
nan-bits nan h = refl
nan-bits (inf s) h = let z : ◌≡◌ {A = ℕ} 0 1 = cc in absurd (omega arith)
nan-bits (fin s m e) h = let z : ◌≡◌ {A = ℕ} 0 1 = cc in absurd (omega arith)

pub returns-in-Double : goal.returns-in-Double
returns-in-Double c =
    let h : is_nan c.in-Double.x ≡ true = cc (c.is_nan.ensures.value, c.if-is_nan.true) in
    rw c.in-Double.is (nan-bits c.in-Double.x h)
