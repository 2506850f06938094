-- What private functions do on the way; no public promise rests on it.
-- Assumes nothing.
use Rattle.std.specs.Prelude.{ℕ, ◌≡◌, ◌+◌, ◌-◌, ◌*◌, ◌≤◌, ◌<◌, List, map, length, get_or, take, drop}
use Rattle.groups.specs.Numbers.{number}
use Rattle.numeral.specs.Read.{digit_of}

-- all characters are digits
abbrev pub AllDigits : List ℕ → Type 0
AllDigits t = (k : ℕ) → k < length t → (48 ≤ get_or t k 0) × (get_or t k 0 ≤ 57)

-- the number that the k-th nine digits write
unfoldable pub nines_of : List ℕ → ℕ → ℕ
nines_of t k = number 10 (map digit_of (take 9 (drop (9 * k) t)))

-- The groups gs, from one place to another, are those that digits of the text write, nine to a group; the others are those of gs₀.
pub record Nines (t : List ℕ) (from to : ℕ) (gs₀ gs : List ℕ) : Type 0 where
  pub size : length gs ≡ length gs₀
  pub taken : (n : ℕ) → n < to - from → get_or gs (from + n) 0 ≡ nines_of t n
  pub before : (k : ℕ) → k < from → get_or gs k 0 ≡ get_or gs₀ k 0
  pub after : (k : ℕ) → to ≤ k → get_or gs k 0 ≡ get_or gs₀ k 0
