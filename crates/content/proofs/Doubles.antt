-- Which bits are a NaN: all ones in the exponent, and a fraction that is not 0. Said again here, since std's definition unfolds in proof files alone.
-- Assumes nothing.
use mathlib.Core.Path.{◌≡◌, refl}
use mathlib.Core.Bool.{not, ◌&&◌}
use Prim.Native.Nat.{ℕ, ◌%◌, ◌/◌}
use lib.Dec.{eqb}
use lib.Ieee.{binary64, nan_bits}

pub nan_is : (n : ℕ) → nan_bits binary64 n ≡ (eqb (n % 9223372036854775808 / 4503599627370496) 2047 && not (eqb (n % 4503599627370496) 0))
unfolding nan_bits
nan_is n = refl
