-- ASCII: the bytes 00 to 7F (RFC 3629, section 3), and how far a text is made of them.
-- Assumes nothing.
use Rattle.std.specs.Prelude.{ℕ, suc, ◌+◌, cond, List, [], ◌∷◌, ltb, length, drop}

-- how many bytes at the front are ASCII
unfoldable pub low : List ℕ → ℕ
low [] = 0
low (b ∷ bs) = cond (ltb b 128) (suc (low bs)) 0

-- the place of the first byte from a place on that is not ASCII, or the end; a place past the end stays
abbrev pub ascii_end : List ℕ → ℕ → ℕ
ascii_end s at = at + low (drop at s)

-- the same from the front, of a text of fewer than n bytes; 0 of a longer one
unfoldable pub front : ℕ → List ℕ → ℕ
front n s = cond (ltb (length s) n) (low s) 0
