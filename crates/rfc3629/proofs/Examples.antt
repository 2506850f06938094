-- Texts and where they break, computed: "Zoë"; the same with its last byte replaced; a byte that is in no character; a character that is cut at
-- the end; a surrogate; a number above U+10FFFF; overlong forms of two and three bytes.
-- Assumes nothing.
use mathlib.Core.Path.{◌≡◌, refl}
use mathlib.Core.List.{[], ◌∷◌}
use Rattle.rfc3629.specs.Machine.{ok, bad, lead, run, verdict, verdict_from}

pub texts :
    (verdict (0x5A ∷ 0x6F ∷ 0xC3 ∷ 0xAB ∷ []) ≡ ok)
    × (verdict (0x5A ∷ 0x6F ∷ 0xC3 ∷ 0x22 ∷ []) ≡ bad 3)
    × (verdict (0xFF ∷ []) ≡ bad 0)
    × (verdict (0xE2 ∷ 0x82 ∷ []) ≡ bad 2)
    × (verdict (0xED ∷ 0xA0 ∷ 0x80 ∷ []) ≡ bad 1)
    × (verdict (0xF4 ∷ 0x90 ∷ 0x80 ∷ 0x80 ∷ []) ≡ bad 1)
    × (verdict (0xC0 ∷ 0x80 ∷ []) ≡ bad 0)
    × (verdict (0xE0 ∷ 0x80 ∷ 0x80 ∷ []) ≡ bad 1)
unfolding run lead
texts = (refl, refl, refl, refl, refl, refl, refl, refl)

-- with places counted from 14
pub from-fourteen : verdict_from 14 (0x5A ∷ 0x6F ∷ 0xC3 ∷ 0x22 ∷ []) ≡ bad 17
unfolding run lead
from-fourteen = refl
