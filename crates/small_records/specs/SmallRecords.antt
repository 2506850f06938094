-- A count of bytes or characters as one number, by its low 32 bits. The order of two decimals is told by `told` of the crate order.
-- Assumes nothing.
use Rattle.std.specs.Prelude.{ℕ, [], ◌∷◌, Result}
use Rattle.refusal.specs.declared.Refusal.{Refusal}
use Rattle.refusal.specs.Told.{Told, told_by}
use Rattle.lent.specs.Layout.{low}

-- a count of bytes or characters, or its refusal
abbrev pub counted_told : Result ℕ Refusal → Told
counted_told c = told_by (λ n. low n ∷ []) c
