-- Numbers, computed.
-- Assumes nothing.
use mathlib.Core.Path.{◌≡◌, refl}
use mathlib.Core.List.{[], ◌∷◌}
use Rattle.raw.specs.Numbers.{value, le}

lowest-first : le 4 (0x09 ∷ 0x01 ∷ 0x02 ∷ 0x03 ∷ 0x04 ∷ []) 1 5 ≡ 0x04030201
unfolding le value
lowest-first = refl

up-to-end : le 4 (0x01 ∷ 0x02 ∷ 0x03 ∷ 0x04 ∷ []) 0 2 ≡ 0x0201
unfolding le value
up-to-end = refl
