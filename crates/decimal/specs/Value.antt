-- The value of a decimal is that of its sign, its integral digits and its groups, as the crate order has it: a number. Comparison is by
-- value, so 1 equals 1.0.
-- Assumes nothing.
use Rattle.std.specs.Prelude.{cond, ℤ, Ok}
use Rattle.refusal.specs.Told.{Told, refusal}
use Rattle.groups.specs.Numbers.{both}
use Rattle.order.specs.Value.{value_of, told, order_z}
use Rattle.decimal.specs.Write.{is_well}
use Rattle.decimal.specs.declared.Decimal.{Decimal}

-- the value times 10 ^ 81
unfoldable pub value : Decimal → ℤ
value d = value_of d.sign d.intg d.groups

-- less, equal or greater by value, or 26
unfoldable pub compare_told : Decimal → Decimal → Told
compare_told a b = cond (both (is_well a) (is_well b)) (told (Ok (order_z (value a) (value b)))) (refusal 26)
