-- The number that decimal digits write: one digit or more, '0' is 48 and '9' 57, zeros in front do not matter, and the number is below 2 to the 32.
-- Assumes nothing.
use Rattle.std.specs.Prelude.{ℕ, ◌+◌, ◌-◌, ◌*◌, Bool, true, cond, List, [], ◌∷◌, ltb, Option, Some, None}
use Rattle.request.specs.Test.{both, is_in}

unfoldable pub are_digits : List ℕ → Bool
are_digits [] = true
are_digits (b ∷ bs) = both (is_in b 48 57) (are_digits bs)

-- the number that digits write, behind digits that write v
unfoldable pub value_from : ℕ → List ℕ → ℕ
value_from v [] = v
value_from v (b ∷ bs) = value_from (10 * v + (b - 48)) bs

abbrev pub below : ℕ → Option ℕ
below v = cond (ltb v 4294967296) (Some v) None

-- the same, where all are digits
unfoldable pub number_from : ℕ → List ℕ → Option ℕ
number_from v bs = cond (are_digits bs) (below (value_from v bs)) None

unfoldable pub number_of : List ℕ → Option ℕ
number_of [] = None
number_of (b ∷ bs) = number_from 0 (b ∷ bs)
