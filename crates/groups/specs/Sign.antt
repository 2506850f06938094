-- The sign of a decimal (document 02, W2, which puts right a rule of document 01): a decimal whose groups are all zero is positive. So only a value
-- below zero has a sign, and there is one zero of each precision and scale.
-- Assumes nothing.
use Rattle.std.specs.Prelude.{ℕ, Bool, not, List, eqb, get_or}
use Rattle.groups.specs.Numbers.{both, all}

-- all groups are zero
unfoldable pub is_nought : List ℕ → Bool
is_nought gs = all 9 (λ k. eqb (get_or gs k 0) 0)

-- a minus before groups that are not all zero: the sign of a decimal that is read
unfoldable pub below_zero : Bool → List ℕ → Bool
below_zero neg gs = both neg (not (is_nought gs))

-- a sign on zero: no decimal has it
unfoldable pub signed_nought : Bool → List ℕ → Bool
signed_nought neg gs = both neg (is_nought gs)
