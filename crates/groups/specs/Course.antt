-- What private functions of `formed` and `writing` do on the way, and what laws name; no public promise rests on it.
-- Assumes nothing.
use Rattle.std.specs.Prelude.{ℕ, zero, suc, ◌+◌, Bool, cond, List, [], ◌++◌, ltb, eqb}
use Rattle.groups.specs.Numbers.{digits}

-- the first t groups have at most nine digits, and the others are 0
unfoldable pub capped_at : ℕ → ℕ → ℕ → Bool
capped_at t k g = cond (ltb k t) (ltb g 1000000000) (eqb g 0)

-- the w lowest digits in base b of g k, g (k + 1), .. g (k + n - 1)
unfoldable pub run : ℕ → ℕ → (ℕ → ℕ) → ℕ → ℕ → List ℕ
run b w g k zero = []
run b w g k (suc n) = run b w g k n ++ digits b w (g (k + n))
