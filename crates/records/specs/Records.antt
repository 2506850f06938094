-- Decimals as numbers. A decimal is twelve: the integral digits, the digits after the point, the sign (0, else 1), and nine groups. A list that is shorter is
-- the decimal of no digits, which every function of decimals refuses by 26; what stands behind the twelve is not read. Numbers that are not of 32 bits are
-- told by their low 32 bits.
-- Assumes nothing.
use Rattle.std.specs.Prelude.{ℕ, ◌+◌, false, cond, List, ◌∷◌, ltb, length, get_or, Result}
use Rattle.refusal.specs.declared.Refusal.{Refusal}
use Rattle.refusal.specs.Told.{Told, told_by}
use Rattle.lent.specs.Layout.{flag, low}
use Rattle.groups.specs.Numbers.{tab}
use Rattle.groups.specs.Read.{zeros}
use Rattle.decimal.specs.declared.Decimal.{Decimal}

-- the decimal of twelve numbers
unfoldable pub decimal_in : List ℕ → Decimal
decimal_in xs = record { intg = get_or xs 0 0; frac = get_or xs 1 0; sign = flag (get_or xs 2 0); groups = tab 9 (λ k. get_or xs (k + 3) 0) }

-- the record of no digits
abbrev pub no_digits : Decimal
no_digits = record { intg = 0; frac = 0; sign = false; groups = zeros }

-- the decimal of a list
unfoldable pub decimal_by : List ℕ → Decimal
decimal_by xs = cond (ltb (length xs) 12) no_digits (decimal_in xs)

-- the numbers of a decimal
abbrev pub record_numbers : Decimal → List ℕ
record_numbers d = low d.intg ∷ low d.frac ∷ cond d.sign 1 0 ∷ d.groups

-- a decimal that is answered, or its refusal
unfoldable pub record_told : Result Decimal Refusal → Told
record_told a = told_by record_numbers a
