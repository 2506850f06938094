-- What private functions do on the way; no public promise rests on it.
-- Assumes nothing.
use Rattle.std.specs.Prelude.{ℕ, ◌-◌, cond, List, ◌++◌, ltb, replicate}
use Rattle.std.specs.declared.cmp.Ordering.{Ordering}
use Rattle.std.specs.declared.cmp.Ordering.TheVariants.{Less, Equal, Greater}

-- nine groups, n of them before the point, among seventeen places, eight of them before the point
unfoldable pub placed : ℕ → List ℕ → List ℕ
placed n gs = replicate (8 - n) 0 ++ (gs ++ replicate n 0)

-- the order of two magnitudes
unfoldable pub order_n : ℕ → ℕ → Ordering
order_n x y = cond (ltb x y) Less (cond (ltb y x) Greater Equal)
