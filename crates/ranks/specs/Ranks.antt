-- Three decimals in order: of each two of them the one that stands first is less or equal.
-- Assumes nothing.
use Rattle.std.specs.Prelude.{Bool}
use Rattle.groups.specs.Numbers.{both}
use Rattle.decimal.specs.declared.Decimal.{Decimal}
use Rattle.order_laws.specs.Order.{compared, is_le}

unfoldable pub in_order : Decimal → Decimal → Decimal → Bool
in_order low middle high = both (is_le (compared low middle)) (both (is_le (compared middle high)) (is_le (compared low high)))
