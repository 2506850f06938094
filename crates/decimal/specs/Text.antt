-- A decimal's text, read and printed. The text and its digits are those of the crates numeral and printing; here a decimal is made of them, and them of a decimal.
-- Assumes nothing.
use Rattle.std.specs.Prelude.{ℕ, Bool, cond, List, Result, Ok, Err}
use Rattle.refusal.specs.declared.Refusal.{Refusal}
use Rattle.refusal.specs.Told.{Told, refusal}
use Rattle.groups.specs.Numbers.{tab}
use Rattle.groups.specs.Read.{stored_at}
use Rattle.groups.specs.Write.{digits_to, room_told, room_leaves}
use Rattle.groups.specs.Layout.{Digits}
use Rattle.numeral.specs.Read.{Numeral, read_text}
use Rattle.printing.specs.Print.{text_of}
use Rattle.decimal.specs.Read.{decimal_of}
use Rattle.decimal.specs.Write.{is_well}
use Rattle.decimal.specs.declared.Decimal.{Decimal}

-- the decimal with these digits, i of them before the point and f after it; a text zero is positive
unfoldable pub of_digits : Bool → ℕ → ℕ → List ℕ → Decimal
of_digits neg i f ds = decimal_of i f neg (tab 9 (stored_at Digits i f ds))

abbrev pub of_numeral : Numeral → Decimal
of_numeral t = of_digits t.negative t.intg t.frac t.digits

-- the decimal of a numeral that was read, or its refusal
abbrev pub from_numeral : Result Numeral Refusal → Result Decimal Refusal
from_numeral (Ok t) = Ok (of_numeral t)
from_numeral (Err r) = Err r

-- Text, then Digits, else the decimal
unfoldable pub parse_text : List ℕ → Result Decimal Refusal
parse_text bs = from_numeral (read_text bs)

-- the digits of a decimal, in its groups' order
abbrev pub digits_of : Decimal → List ℕ
digits_of d = digits_to Digits d.intg d.frac d.groups 9

unfoldable pub printed : Decimal → List ℕ
printed d = text_of d.sign d.intg d.frac (digits_of d)

-- the answer, and the output afterwards: 26 before 25
unfoldable pub print_told : Decimal → List ℕ → Told
print_told d out = cond (is_well d) (room_told (printed d) out) (refusal 26)

unfoldable pub print_leaves : Decimal → List ℕ → List ℕ
print_leaves d out = cond (is_well d) (room_leaves (printed d) out) out
