-- Tests of one byte.
-- Assumes nothing.
use Rattle.std.specs.Prelude.{ℕ, Bool, true, false, leb}

abbrev pub both : Bool → Bool → Bool
both true b = b
both false b = false

-- a byte lies between two
abbrev pub is_in : ℕ → ℕ → ℕ → Bool
is_in b low high = both (leb low b) (leb b high)
