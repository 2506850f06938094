-- What of a printed decimal tells its value (document 02, W8): its text after zeros at the front of the integral part and at the end of the fraction,
-- and then a last point, are removed. The integral part begins after a minus. 48 is '0', 46 the point and 45 the minus.
-- No decimal prints -0, so that a minus alone is no plain text of one.
-- Assumes nothing.
use Rattle.std.specs.Prelude.{ℕ, Bool, true, false, cond, List, [], ◌∷◌, ◌++◌, eqb}
use Rattle.groups.specs.Numbers.{both}

-- without the bytes z at the front
unfoldable pub without_front : ℕ → List ℕ → List ℕ
without_front z [] = []
without_front z (b ∷ bs) = cond (eqb b z) (without_front z bs) (b ∷ bs)

abbrev pub is_empty : List ℕ → Bool
is_empty [] = true
is_empty (b ∷ bs) = false

-- without the bytes z at the end: one of them goes where nothing is left after it
unfoldable pub without_end : ℕ → List ℕ → List ℕ
without_end z [] = []
without_end z (b ∷ bs) = cond (both (eqb b z) (is_empty (without_end z bs))) [] (b ∷ without_end z bs)

-- without a point that is the last byte
unfoldable pub without_last_point : List ℕ → List ℕ
without_last_point [] = []
without_last_point (b ∷ bs) = cond (both (eqb b 46) (is_empty bs)) [] (b ∷ without_last_point bs)

-- what stands before the point: the integral part
unfoldable pub before_point : List ℕ → List ℕ
before_point [] = []
before_point (b ∷ bs) = cond (eqb b 46) [] (b ∷ before_point bs)

-- the point, and after it the fraction
unfoldable pub from_point : List ℕ → List ℕ
from_point [] = []
from_point (b ∷ bs) = cond (eqb b 46) (b ∷ bs) (from_point bs)

-- of a text without a minus
unfoldable pub plain_number : List ℕ → List ℕ
plain_number bs = without_last_point (without_front 48 (before_point bs) ++ without_end 48 (from_point bs))

unfoldable pub plain : List ℕ → List ℕ
plain [] = []
plain (b ∷ bs) = cond (eqb b 45) (45 ∷ plain_number bs) (plain_number (b ∷ bs))
