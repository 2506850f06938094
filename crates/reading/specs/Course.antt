-- What private functions do on the way; no public promise rests on it.
-- Assumes nothing.
use Rattle.std.specs.Prelude.{ℕ, ◌+◌, ◌-◌, Bool, cond, ltb, eqb}

-- a number with the bit that weighs `half` flipped
unfoldable pub flip_by : ℕ → ℕ → ℕ
flip_by half x = cond (ltb x half) (x + half) (x - half)

-- the same if it begins the decimal
unfoldable pub begins : ℕ → ℕ → ℕ → ℕ
begins at half x = cond (eqb at 0) (flip_by half x) x

-- a number of bytes, of which `top` is the greatest, as a decimal shows it: its first bit flipped or not, and all bits inverted or not
unfoldable pub shown : Bool → ℕ → ℕ → ℕ → ℕ → ℕ
shown v at half top x = cond v (top - begins at half x) (begins at half x)
