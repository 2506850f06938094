-- The one of a list that has a number.
-- Assumes nothing.
use Rattle.std.specs.Prelude.{ℕ, cond, List, [], ◌∷◌, eqb}

-- with the numbers `code`, an answer for the one that is found, and one for none
unfoldable pub search : {A B : Type 0} → (A → ℕ) → (A → B) → B → List A → ℕ → B
search code found none [] n = none
search code found none (t ∷ ts) n = cond (eqb n (code t)) (found t) (search code found none ts n)
