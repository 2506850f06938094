-- How the digits of all groups stand in bytes (document 01: a negative value has all bytes inverted; then the first bit, that of 128, is flipped).
-- In the packed forms the digits are those in base 256: the groups 1, 234567890 and 1234 are 01, 0D FB 38 D2 and 04 D2, so the bytes are
-- 81 0D FB 38 D2 04 D2, and of the negative value 7E F2 04 C7 2D FB 2D.
-- `bytes_of` writes digits, `digits_in` reads them back; with the form Digits the bytes are the digits.
-- Assumes nothing.
use Rattle.std.specs.Prelude.{ℕ, ◌+◌, ◌-◌, cond, List, [], ◌∷◌, map, ltb}
use Rattle.groups.specs.Layout.{Form, Plain, Inverted, Digits}

-- a byte with its first bit flipped
unfoldable pub flip : ℕ → ℕ
flip b = cond (ltb b 128) (b + 128) (b - 128)

-- the first byte's first bit flipped
unfoldable pub flip_first : List ℕ → List ℕ
flip_first [] = []
flip_first (b ∷ bs) = flip b ∷ bs

-- a byte with all its bits inverted
abbrev pub invert : ℕ → ℕ
invert b = 255 - b

-- the bytes that show the digits ds
unfoldable pub bytes_of : Form → List ℕ → List ℕ
bytes_of Plain ds = flip_first ds
bytes_of Inverted ds = flip_first (map invert ds)
bytes_of Digits ds = ds

-- the digits that the bytes bs show
unfoldable pub digits_in : Form → List ℕ → List ℕ
digits_in Plain bs = flip_first bs
digits_in Inverted bs = map invert (flip_first bs)
digits_in Digits bs = bs
