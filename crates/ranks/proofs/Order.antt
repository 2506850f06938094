-- Two answers of the comparison tell of three pairs: the third is the law `carries` of order_laws, so it need not be asked.
-- Assumes nothing.
use mathlib.Core.Path.{◌≡◌, refl}
use mathlib.Core.Bool.{Bool, true, false}
use Rattle.groups.specs.Numbers.{both}
use Rattle.std.specs.Prelude.{Result}
use Rattle.std.specs.declared.cmp.Ordering.{Ordering}
use Rattle.refusal.specs.declared.Refusal.{Refusal}
use Rattle.decimal.specs.declared.Decimal.{Decimal}
use Rattle.order_laws.specs.Order.{Compares, compared, is_le}
use Rattle.order_laws.proofs.Compared.{compares, the-answer}
use Rattle.order_laws.proofs.Order.{carries}
use Rattle.ranks.specs.Ranks.{in_order}

module _ (low middle high : Decimal) (r : Result Ordering Refusal) (h : Compares low middle r) where
  pub out_of_order : is_le r ≡ false → in_order low middle high ≡ false
  unfolding in_order
  out_of_order e = rw (← the-answer low middle r h, e)

  third-pair : (s : Result Ordering Refusal) → Compares middle high s → is_le r ≡ true → is_le s ≡ true → is_le (compared low high) ≡ true
  third-pair s k p q = carries low middle high r s (compared low high) h k (compares low high) p q

  pub in_order_lem : (s : Result Ordering Refusal) → Compares middle high s → is_le r ≡ true → in_order low middle high ≡ is_le s
  unfolding in_order
  in_order_lem s k p = rw (← the-answer low middle r h, ← the-answer middle high s k, p) (go (is_le s) (third-pair s k p))
    where
      go : (t : Bool) → (t ≡ true → is_le (compared low high) ≡ true) → both t (is_le (compared low high)) ≡ t
      go true f = f refl
      go false f = refl
