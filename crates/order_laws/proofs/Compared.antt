-- What the comparison answers is a function of the two records: no two answers are told alike.
-- Assumes nothing.
use Rattle.std.proofs.Common.{◌≡◌, refl, Bool, true, false, cond}
use Rattle.std.specs.Prelude.{Result, Ok, Err}
use Rattle.std.specs.declared.cmp.Ordering.{Ordering}
use Rattle.refusal.specs.declared.Refusal.{Refusal}
use Rattle.refusal.specs.declared.Refusal.TheVariants as refusals
use Rattle.refusal.specs.Told.{refusal}
use Rattle.groups.specs.Numbers.{both}
use Rattle.order.specs.Value.{told, order_z}
use Rattle.decimal.specs.Write.{is_well}
use Rattle.decimal.specs.Value.{value, compare_told}
use Rattle.decimal.specs.declared.Decimal.{Decimal}
use Rattle.decimal_laws.proofs.Answers.{order-answer}
use Rattle.order_laws.specs.Order.{Compares, compared}

told_of : (t : Bool) (r : Result Ordering Refusal) → told (cond t r (Err refusals.Record)) ≡ cond t (told r) (refusal 26)
told_of true r = refl
told_of false r = refl

-- The contract allows this answer,
pub compares : (a b : Decimal) → Compares a b (compared a b)
unfolding compared compare_told
compares a b = told_of (both (is_well a) (is_well b)) (Ok (order_z (value a) (value b)))

-- and no other.
pub the-answer : (a b : Decimal) (r : Result Ordering Refusal) → Compares a b r → r ≡ compared a b
the-answer a b r h = order-answer (compare_told a b) r (compared a b) h (compares a b)
