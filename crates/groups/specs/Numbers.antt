-- Digits and lists in general: the number that digits in a base write, highest first; the lowest digits of a number; a list by its
-- elements; a test at every number below n; leading zeros.
-- Assumes nothing.
use Rattle.std.specs.Prelude.{ℕ, zero, suc, ◌+◌, ◌*◌, ◌/◌, ◌%◌, ◌^◌, ◌<◌, Bool, true, false, cond, List, [], ◌∷◌, ◌++◌, eqb, length, get_or}

-- the number that the digits xs write in base b
unfoldable pub number : ℕ → List ℕ → ℕ
number b [] = 0
number b (x ∷ xs) = x * b ^ length xs + number b xs

-- the n lowest digits of x in base b
unfoldable pub digits : ℕ → ℕ → ℕ → List ℕ
digits b zero x = []
digits b (suc n) x = digits b n (x / b) ++ (x % b ∷ [])

-- f 0, f 1, .. f (n - 1)
unfoldable pub tab : ℕ → (ℕ → ℕ) → List ℕ
tab zero f = []
tab (suc n) f = f 0 ∷ tab n (λ k. f (suc k))

abbrev pub both : Bool → Bool → Bool
both true b = b
both false b = false

-- the test p holds at 0, 1, .. n - 1
abbrev pub all : ℕ → (ℕ → Bool) → Bool
all zero p = true
all (suc n) p = both (p n) (all n p)

-- every element is below b
abbrev pub Below : ℕ → List ℕ → Type 0
Below b xs = (k : ℕ) → get_or xs k 0 < b

-- how many of the first n are zero, up to the first that is not
unfoldable pub leading_in : ℕ → List ℕ → ℕ
leading_in zero xs = 0
leading_in (suc n) [] = 0
leading_in (suc n) (x ∷ xs) = cond (eqb x 0) (suc (leading_in n xs)) 0
