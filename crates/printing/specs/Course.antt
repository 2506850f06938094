-- What private functions do on the way; no public promise rests on it.
-- Assumes nothing.
use Rattle.std.specs.Prelude.{ℕ, zero, suc, ◌+◌, ◌-◌, ◌*◌, ◌/◌, ◌^◌, ◌≤◌, ◌<◌, cond, List, [], ◌∷◌, ◌++◌, map, eqb, get_or}
use Rattle.groups.specs.Numbers.{digits}
use Rattle.printing.specs.Print.{show}

-- the digits of c whole groups, from place j on
unfoldable pub nines : List ℕ → ℕ → ℕ → List ℕ
nines gs j zero = []
nines gs j (suc c) = nines gs j c ++ digits 10 9 (get_or gs (j + c) 0)

-- how many of a fraction's f digits stand before the group that ends it, in groups, and how many are in that one
abbrev pub before : ℕ → ℕ
before f = (f - 1) / 9

abbrev pub rest : ℕ → ℕ
rest f = f - 9 * before f

-- the text of the integral digits in n groups, the first of them w digits wide
unfoldable pub whole_text : ℕ → ℕ → List ℕ → List ℕ
whole_text n w gs = cond (eqb n 0) (48 ∷ []) (map show (digits 10 w (get_or gs 0 0) ++ nines gs 1 (n - 1)))

-- how many characters it has
unfoldable pub whole_length : ℕ → ℕ → ℕ
whole_length n w = cond (eqb n 0) 1 (w + 9 * (n - 1))

-- the text of a fraction of f digits, in the groups from place n on
unfoldable pub point_text : ℕ → ℕ → List ℕ → List ℕ
point_text n f gs =
    cond (eqb f 0) [] (46 ∷ map show (nines gs n (before f) ++ digits 10 (rest f) (get_or gs (n + before f) 0 / 10 ^ (9 - rest f))))

-- how many characters it has
unfoldable pub fraction_length : ℕ → ℕ
fraction_length f = cond (eqb f 0) 0 (f + 1)

-- g has w digits, and a 0 has one
abbrev pub Significant : ℕ → ℕ → Type 0
Significant w g = ((1 ≤ w) × (w ≤ 9)) × ((g < 10 ^ w) × (2 ≤ w → 10 ^ (w - 1) ≤ g))
