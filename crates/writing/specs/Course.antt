-- What private functions do on the way; no public promise rests on it.
-- Assumes nothing.
use Rattle.std.specs.Prelude.{ℕ, ◌+◌, ◌-◌, Bool, cond, List, ◌++◌, map, take, drop}
use Rattle.groups.specs.Packed.{invert}

-- the list out with ds, of w elements, written over it from `at` on
unfoldable pub laid_at : List ℕ → ℕ → ℕ → List ℕ → List ℕ
laid_at out at w ds = take at out ++ (ds ++ drop (at + w) out)

-- a number of four bytes with all its bits inverted, or as it is; and digits so
unfoldable pub shade : Bool → ℕ → ℕ
shade v x = cond v (4294967295 - x) x

unfoldable pub shaded : Bool → List ℕ → List ℕ
shaded v ds = cond v (map invert ds) ds
