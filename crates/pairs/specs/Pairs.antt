-- Which byte may stand behind which in a text of characters of one and two bytes (RFC 3629, section 4: UTF8-1 and UTF8-2).
-- Assumes nothing.
use Rattle.std.specs.Prelude.{ℕ, ◌+◌, ◌≤◌, ◌<◌, ◌≡◌, Bool, true, false, not, cond, List, leb, length, get_or}

-- the first byte of a character of two bytes, C2 to DF
unfoldable pub lead : ℕ → Bool
lead b = cond (leb 0xC2 b) (leb b 0xDF) false

-- the second, 80 to BF
unfoldable pub tail : ℕ → Bool
tail b = cond (leb 0x80 b) (leb b 0xBF) false

-- behind a first byte a second one stands; behind any other, which is below C0, none
unfoldable pub right : ℕ → ℕ → Bool
right a b = cond (lead a) (tail b) (cond (leb 0xC0 a) false (not (tail b)))

-- from a place on to another, each byte is right before the one behind it
pub record Rights (s : List ℕ) (at r : ℕ) : Type 0 where
  pub on : at ≤ r
  pub each : (k : ℕ) → at ≤ k → k < r → (k + 1 < length s) × (right (get_or s k 0) (get_or s (k + 1) 0) ≡ true)
