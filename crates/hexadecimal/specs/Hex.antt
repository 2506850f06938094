-- The bytes that hexadecimal digits write, two to a byte, the higher first; '-' is 45 and stands for no bytes.
-- Assumes nothing.
use Rattle.std.specs.Prelude.{ℕ, ◌+◌, ◌-◌, ◌*◌, Bool, true, false, cond, List, [], ◌∷◌, ◌++◌, leb, ltb, eqb, length, drop, Option, Some, None}
use Rattle.request.specs.Test.{both, is_in}

-- the value of a digit, 16 for what is none: '0' is 48, 'A' 65 and 'a' 97
unfoldable pub digit : ℕ → ℕ
digit c = cond (is_in c 48 57) (c - 48) (cond (is_in c 65 70) (c - 55) (cond (is_in c 97 102) (c - 87) 16))

-- digits, two by two
unfoldable pub are_pairs : List ℕ → Bool
are_pairs [] = true
are_pairs (a ∷ []) = false
are_pairs (a ∷ b ∷ cs) = both (ltb (digit a) 16) (both (ltb (digit b) 16) (are_pairs cs))

-- a byte for each pair
unfoldable pub pairs : List ℕ → List ℕ
pairs [] = []
pairs (a ∷ []) = []
pairs (a ∷ b ∷ cs) = (16 * digit a + digit b) ∷ pairs cs

-- one pair or more, or the character for no bytes
unfoldable pub is_hex : List ℕ → Bool
is_hex [] = false
is_hex (a ∷ []) = eqb a 45
is_hex (a ∷ b ∷ cs) = are_pairs (a ∷ b ∷ cs)

-- they are there and have room
unfoldable pub is_taken : List ℕ → List ℕ → Bool
is_taken text out = both (is_hex text) (leb (length (pairs text)) (length out))

-- the answer, and the output afterwards
unfoldable pub bytes_of : List ℕ → List ℕ → Option ℕ
bytes_of text out = cond (is_taken text out) (Some (length (pairs text))) None

unfoldable pub bytes_leave : List ℕ → List ℕ → List ℕ
bytes_leave text out = cond (is_taken text out) (pairs text ++ drop (length (pairs text)) out) out
