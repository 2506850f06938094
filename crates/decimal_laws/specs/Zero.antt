-- What the bytes of a decimal come back as when it is read with kept precision and written (document 02, W2): they themselves, except for a negative
-- zero, which comes back as the positive zero of the same precision.
-- Assumes nothing.
use Rattle.std.specs.Prelude.{ℕ, zero, suc, Bool, false, cond, List, [], ◌∷◌, eqb, length, get_or, replicate}
use Rattle.groups.specs.Numbers.{both, all}

-- The bytes of a negative zero are 7F FF .. FF: all bytes of zero groups inverted, and then the first bit flipped.
unfoldable pub is_negative_zero : List ℕ → Bool
is_negative_zero [] = false
is_negative_zero (b ∷ bs) = both (eqb b 0x7F) (all (length bs) (λ k. eqb (get_or bs k 0) 0xFF))

-- The n bytes of the positive zero are 80 00 .. 00.
unfoldable pub positive_zero : ℕ → List ℕ
positive_zero zero = []
positive_zero (suc n) = 0x80 ∷ replicate n 0x00

unfoldable pub comes_back : List ℕ → List ℕ
comes_back bs = cond (is_negative_zero bs) (positive_zero (length bs)) bs
