-- How a decimal's digits go in groups (decimal.c of MySQL; document 01, 'Decimal rules'). Digits go in groups of nine from the point
-- outwards, so of a side of n digits the j-th group from the point has min 9 (n - 9 * j) of them. A decimal has nine places for groups:
-- first those of the integral side, the one at the point last, then those of the fraction. A place past the last group has no digits, takes
-- no bytes and reads as 0, so that every decimal has nine. The bytes of 1234567890.1234 hold the groups 1, 234567890 and 1234; its
-- record holds 123400000 for the last.
-- Assumes nothing.
use Rattle.std.specs.Prelude.{ℕ, zero, suc, ◌+◌, ◌-◌, ◌*◌, ◌/◌, ◌^◌, min, Bool, true, false, cond, leb, ltb}

-- How the digits of all groups stand in bytes: packed, where the value is not negative or is; or a decimal digit to a byte, as a number. Digits is
-- for the definitions of text; no function reads or writes it.
pub data Form : Type 0 where
  Plain : Form
  Inverted : Form
  Digits : Form

-- the bytes of a group of d digits: half as many as digits, rounded up, and never above four, so of 0 to 9 digits 0, 1, 1, 2, 2, 3, 3, 4, 4, 4.
-- Why these are enough: proofs/Widths.antt.
unfoldable pub width : ℕ → ℕ
width d = min 4 ((d + 1) / 2)

-- 10 to the d for d up to nine, the digits that a group can have, and 0 above
unfoldable pub power_of : ℕ → ℕ
power_of d = cond (leb d 9) (10 ^ d) 0

-- the groups of a side of n digits
unfoldable pub groups_of : ℕ → ℕ
groups_of n = (n + 8) / 9

-- the digits of the j-th group from the point, of a side of n digits
unfoldable pub side : ℕ → ℕ → ℕ
side n j = min 9 (n - 9 * j)

-- the digits of the group at place k, of i integral and f fractional digits
unfoldable pub digits_at : ℕ → ℕ → ℕ → ℕ
digits_at i f k = cond (ltb k (groups_of i)) (side i (groups_of i - 1 - k)) (side f (k - groups_of i))

-- a negative value is inverted
abbrev pub form_of : Bool → Form
form_of true = Inverted
form_of false = Plain

-- In the packed forms a group is written in bytes, base 256; as digits it is written a decimal digit to a byte.
abbrev pub base_of : Form → ℕ
base_of Plain = 256
base_of Inverted = 256
base_of Digits = 10

-- the bytes of a group of d digits in a form
abbrev pub wide_of : Form → ℕ → ℕ
wide_of Plain d = width d
wide_of Inverted d = width d
wide_of Digits d = d

-- the bytes before the group at place k
unfoldable pub offset : Form → ℕ → ℕ → ℕ → ℕ
offset F i f zero = 0
offset F i f (suc k) = offset F i f k + wide_of F (digits_at i f k)

-- the bytes of all groups
abbrev pub size_in : Form → ℕ → ℕ → ℕ
size_in F i f = offset F i f 9

-- a decimal's size is the sum over its groups
abbrev pub size : ℕ → ℕ → ℕ
size i f = size_in Plain i f
