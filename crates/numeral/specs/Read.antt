-- Decimal text, read (document 01, 'Decimal rules'). Characters are bytes: '0' is 48 and '9' 57, '+' is 43, '-' 45 and '.' 46.
-- Assumes nothing.
use Rattle.std.specs.Prelude.{ℕ, suc, ◌+◌, ◌-◌, Bool, true, false, cond, List, [], ◌∷◌, ◌++◌, map, leb, eqb, length, take, drop, Result, Ok, Err}
use Rattle.refusal.specs.declared.Refusal.{Refusal}
use Rattle.refusal.specs.declared.Refusal.TheVariants as refusal
use Rattle.groups.specs.Numbers.{tab, both}
use Rattle.groups.specs.Layout.{Digits}
use Rattle.groups.specs.Read.{stored_at}
use Rattle.groups.specs.declared.Parts.{Parts}

-- A sign, as many digits before the point and after it, and these digits, each a number from 0 to 9.
pub record Numeral : Type 0 where
  pub negative : Bool
  pub intg : ℕ
  pub frac : ℕ
  pub digits : List ℕ

-- while it begins "00" one zero is removed,
unfoldable pub strip : List ℕ → List ℕ
strip [] = []
strip (x ∷ []) = x ∷ []
strip (x ∷ y ∷ xs) = cond (both (eqb x 48) (eqb y 48)) (strip (y ∷ xs)) (x ∷ y ∷ xs)

-- then an optional sign,
unfoldable pub minus : List ℕ → Bool
minus [] = false
minus (x ∷ xs) = eqb x 45

unfoldable pub unsigned : List ℕ → List ℕ
unsigned [] = []
unsigned (x ∷ xs) = cond (eqb x 45) xs (cond (eqb x 43) xs (x ∷ xs))

abbrev pub is_digit : ℕ → Bool
is_digit c = both (leb 48 c) (leb c 57)

-- then digits with at most one point and at least one digit: as many digits as it begins with,
unfoldable pub run : List ℕ → ℕ
run [] = 0
run (x ∷ xs) = cond (is_digit x) (suc (run xs)) 0

-- and after them nothing, or a point and digits to the end
unfoldable pub pointed : List ℕ → Bool
pointed [] = true
pointed (x ∷ xs) = both (eqb x 46) (eqb (run xs) (length xs))

abbrev pub whole_part : List ℕ → List ℕ
whole_part xs = take (run xs) xs

abbrev pub fraction_part : List ℕ → List ℕ
fraction_part xs = drop 1 (drop (run xs) xs)

unfoldable pub is_text : List ℕ → Bool
is_text xs = both (pointed (drop (run xs) xs)) (leb 1 (length (whole_part xs) + length (fraction_part xs)))

-- 65 digits at most, and 30 after the point
unfoldable pub few_digits : ℕ → ℕ → Bool
few_digits i f = both (leb (i + f) 65) (leb f 30)

-- the number that a digit's character stands for
abbrev pub digit_of : ℕ → ℕ
digit_of c = c - 48

-- the digits of an unsigned text, before and after the point
unfoldable pub digits_in : List ℕ → List ℕ
digits_in xs = map digit_of (whole_part xs ++ fraction_part xs)

abbrev pub numeral_of : Bool → List ℕ → Numeral
numeral_of neg xs =
    record { negative = neg; intg = length (whole_part xs); frac = length (fraction_part xs); digits = digits_in xs }

-- Text before Digits
unfoldable pub read_unsigned : Bool → List ℕ → Result Numeral Refusal
read_unsigned neg xs =
    cond (is_text xs) (cond (few_digits (length (whole_part xs)) (length (fraction_part xs))) (Ok (numeral_of neg xs)) (Err refusal.Digits)) (Err refusal.Text)

unfoldable pub read_text : List ℕ → Result Numeral Refusal
read_text bs = read_unsigned (minus (strip bs)) (unsigned (strip bs))

-- the numeral with its digits in groups of nine
abbrev pub parts_of : Numeral → Parts
parts_of t =
    record {
      negative = t.negative;
      intg = t.intg;
      frac = t.frac;
      groups = tab 9 (stored_at Digits t.intg t.frac t.digits);
    }

abbrev pub parsed : Result Numeral Refusal → Result Parts Refusal
parsed (Ok t) = Ok (parts_of t)
parsed (Err r) = Err r
