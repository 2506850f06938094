-- Up to eight bytes, filled up with zeros: the number stays the same.
-- Assumes nothing.
use mathlib.Core.Path.{◌≡◌}
use mathlib.Core.List.{List, [], ◌∷◌, ◌++◌}
use Prim.Native.Nat.{ℕ, ◌≤◌}
use native.Mathlib.Omega.{arith}
use lib.ListN.{length, drop}
use Rattle.std.specs.Int.{w64, from_le_bytes}
use Rattle.raw.specs.Numbers.{value}

pub filled : (l : List ℕ) → length l ≤ 8 → from_le_bytes w64 (l ++ drop (length l) (0 ∷ 0 ∷ 0 ∷ 0 ∷ 0 ∷ 0 ∷ 0 ∷ 0 ∷ [])) ≡ value l
unfolding value
filled [] h = omega arith
filled (a ∷ []) h = omega arith
filled (a ∷ b ∷ []) h = omega arith
filled (a ∷ b ∷ c ∷ []) h = omega arith
filled (a ∷ b ∷ c ∷ d ∷ []) h = omega arith
filled (a ∷ b ∷ c ∷ d ∷ e ∷ []) h = omega arith
filled (a ∷ b ∷ c ∷ d ∷ e ∷ f ∷ []) h = omega arith
filled (a ∷ b ∷ c ∷ d ∷ e ∷ f ∷ g ∷ []) h = omega arith
filled (a ∷ b ∷ c ∷ d ∷ e ∷ f ∷ g ∷ i ∷ []) h = omega arith
filled (a ∷ b ∷ c ∷ d ∷ e ∷ f ∷ g ∷ i ∷ j ∷ l) h = absurd (omega arith)
