-- Decimals as numbers. A decimal is twelve: the integral digits, the digits after the point, the sign (0, else 1), and nine groups. A list that is shorter is
-- no decimal, 26; what stands behind the twelve is not read. `decimal_in` of the crate records is the decimal of twelve numbers.
-- Assumes nothing.
use Rattle.std.specs.Prelude.{ℕ, cond, List, ◌∷◌, ltb, length, Result}
use Rattle.refusal.specs.declared.Refusal.{Refusal}
use Rattle.refusal.specs.Told.{Told, refusal, told_by}
use Rattle.decimal.specs.Write.{write_bin, bin_leaves}
use Rattle.decimal.specs.Text.{print_told, print_leaves}
use Rattle.decimal.specs.Value.{compare_told}
use Rattle.decimal.specs.declared.Decimal.{Decimal}
use Rattle.lent.specs.Layout.{beside}
use Rattle.records.specs.Records.{decimal_in}

abbrev pub decimal_numbers : Decimal → List ℕ
decimal_numbers d = d.intg ∷ d.frac ∷ cond d.sign 1 0 ∷ d.groups

-- a decimal that is answered, or its refusal
unfoldable pub decimal_told : Result Decimal Refusal → Told
decimal_told a = told_by decimal_numbers a

-- what depends on a decimal, where the list holds one
unfoldable pub held : {A : Type 0} → List ℕ → A → (Decimal → A) → A
held xs none f = cond (ltb (length xs) 12) none (f (decimal_in xs))

-- writing and printing into a lent list of bytes, which is as it was where there is no room for the count, `out` being empty, and where there is no decimal
unfoldable pub written_told : List ℕ → List ℕ → Told
written_told xs bytes = held xs (refusal 26) (λ d. write_bin d bytes)

unfoldable pub written_leaves : List ℕ → List ℕ → List ℕ → List ℕ
written_leaves xs bytes out = beside 1 out bytes (held xs bytes (λ d. bin_leaves d bytes))

unfoldable pub printed_told : List ℕ → List ℕ → Told
printed_told xs text = held xs (refusal 26) (λ d. print_told d text)

unfoldable pub printed_leaves : List ℕ → List ℕ → List ℕ → List ℕ
printed_leaves xs text out = beside 1 out text (held xs text (λ d. print_leaves d text))

-- the order of two: 26 where either is none
unfoldable pub order_told : List ℕ → List ℕ → Told
order_told xs ys = held xs (refusal 26) (λ a. held ys (refusal 26) (λ b. compare_told a b))
