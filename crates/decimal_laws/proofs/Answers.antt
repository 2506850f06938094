-- What is told of a count, and of an order, gives it back, so two answers that a contract allows are equal.
-- Assumes nothing.
use Rattle.std.proofs.Common.{◌≡◌, refl, ℕ, zero, suc, List, get_or}
use Rattle.std.specs.Prelude.{Result}
use Rattle.std.specs.declared.cmp.Ordering.{Ordering}
use Rattle.std.specs.declared.cmp.Ordering.TheVariants.{Less, Equal, Greater}
use Rattle.refusal.specs.declared.Refusal.{Refusal}
use Rattle.refusal.specs.Told.{Told}
use Rattle.refusal.proofs.Answers.{told-answer}
use Rattle.groups.specs.Write.{told as count_told}
use Rattle.order.specs.Value.{number_of, told as order_told}

pub count-answer : (d : Told) (r s : Result ℕ Refusal) → count_told r ≡ d → count_told s ≡ d → r ≡ s
count-answer d r s p q = told-answer _ (λ (vs : List ℕ). get_or vs 0 0) (λ n. refl) d r s p q

order-by : ℕ → Ordering
order-by zero = Less
order-by (suc zero) = Equal
order-by (suc (suc n)) = Greater

order-again : (o : Ordering) → order-by (number_of o) ≡ o
unfolding order-by
order-again Less = refl
order-again Equal = refl
order-again Greater = refl

pub order-answer : (d : Told) (r s : Result Ordering Refusal) → order_told r ≡ d → order_told s ≡ d → r ≡ s
order-answer d r s p q = told-answer _ (λ (vs : List ℕ). order-by (get_or vs 0 0)) order-again d r s p q
