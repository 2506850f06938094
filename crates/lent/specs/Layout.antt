-- How an answer reaches a program in C: the function returns the refusal's number, or 0, and stores the answer's numbers at the front of a lent list; what
-- stands behind them stays. A list shorter than the answer takes is 25, before anything else is looked at, and then no lent number changes.
-- Assumes nothing.
use Rattle.std.specs.Prelude.{ℕ, ◌%◌, ◌≡◌, Bool, cond, not, List, ◌++◌, ltb, eqb, length, drop}
use Rattle.refusal.specs.Told.{Told}

-- a list with these numbers at its front, and the rest as it was
unfoldable pub laid : List ℕ → List ℕ → List ℕ
laid vs out = vs ++ drop (length vs) out

-- the number that is returned for an answer that takes w numbers, and what is left of the lent list
unfoldable pub returned : ℕ → Told → List ℕ → ℕ
returned w t out = cond (ltb (length out) w) 25 t.number

unfoldable pub remains : ℕ → Told → List ℕ → List ℕ
remains w t out = cond (ltb (length out) w) out (laid t.values out)

-- the promise of a function for C
pub record Relays (w : ℕ) (t : Told) (out : List ℕ) (r : ℕ) (left : List ℕ) : Type 0 where
  pub number : r ≡ returned w t out
  pub leaves : left ≡ remains w t out

-- a second lent list, which is touched only where the first is long enough
unfoldable pub beside : {A : Type 0} → ℕ → List ℕ → A → A → A
beside w out before after = cond (ltb (length out) w) before after

-- a flag or a sign: 0 is no, any other number yes
abbrev pub flag : ℕ → Bool
flag n = not (eqb n 0)

-- a number by its low 32 bits
abbrev pub low : ℕ → ℕ
low n = n % 4294967296
