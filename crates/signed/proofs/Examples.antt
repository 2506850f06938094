-- Numbers of both signs, computed.
-- Assumes nothing.
use mathlib.Core.Path.{◌≡◌, refl}
use mathlib.Core.List.{[], ◌∷◌}
use lib.IntN.{pos, negsuc}
use mir.Syntax.{w16, w32, w64}
use mir.Val.{to_z}
use Rattle.raw.specs.Numbers.{value, le}

largest-positive : to_z w16 (le 2 (0xFF ∷ 0x7F ∷ []) 0 2) ≡ pos 32767
unfolding le value
largest-positive = refl

least : to_z w16 (le 2 (0x00 ∷ 0x80 ∷ []) 0 2) ≡ negsuc 32767
unfolding le value
least = refl

minus-two : to_z w32 (le 4 (0xFE ∷ 0xFF ∷ 0xFF ∷ 0xFF ∷ []) 0 4) ≡ negsuc 1
unfolding le value
minus-two = refl

minus_one : to_z w64 (le 8 (0xFF ∷ 0xFF ∷ 0xFF ∷ 0xFF ∷ 0xFF ∷ 0xFF ∷ 0xFF ∷ 0xFF ∷ []) 0 8) ≡ negsuc 0
unfolding le value
minus_one = refl

-- a sign byte past the end does not count
not_negative : to_z w16 (le 2 (0xFF ∷ 0xFF ∷ []) 0 1) ≡ pos 255
unfolding le value
not_negative = refl
