-- The order of integers is the library's, so it is total; and negating both turns it round.
-- Assumes nothing.
use Rattle.std.proofs.Common.{◌≡◌, true, not, refl, sym, ap, ◌∙◌, arith}
use Rattle.std.specs.Prelude.{ℤ, neg_ℤ}
use Rattle.std.specs.declared.cmp.Ordering.{Ordering}
use Rattle.std.specs.declared.cmp.Ordering.TheVariants.{Less, Equal, Greater}
use Rattle.std.specs.Ordering.{ordering_reverse, is_le, is_gt, is_eq}
use Rattle.std.specs.Cmp.{IsTotalOrder, upto, tied_itself, int_cmp_total, signed_Decides}
use Rattle.std.specs.Int.Signed.{lt_z}
use Rattle.std.proofs.lemmas.Int.{ints}
use borrow.Author.Tests.{not-true}
use Rattle.order.specs.Value.{order_z}

total : IsTotalOrder order_z
unfolding order_z
total = int_cmp_total

pub swapped : (x y : ℤ) → order_z y x ≡ ordering_reverse (order_z x y)
swapped x y = total.antisymm y x

le_is : (o : Ordering) → is_le o ≡ not (is_gt o)
le_is Less = refl
le_is Equal = refl
le_is Greater = refl

pub carried : (x y z : ℤ) → is_le (order_z x y) ≡ true → is_le (order_z y z) ≡ true → is_le (order_z x z) ≡ true
carried x y z h k =
    le_is _ ∙ ap not (upto total x y z (not-true _ (sym (le_is (order_z x y)) ∙ h)) (not-true _ (sym (le_is (order_z y z)) ∙ k)))

pub equal-same : (x y : ℤ) → order_z x y ≡ Equal → x ≡ y
unfolding order_z
equal-same x y e = (signed_Decides x y).0 (ap is_eq e)

pub same-equal : (x : ℤ) → order_z x x ≡ Equal
same-equal x = tied_itself total x

negated-lt : (x y : ℤ) → lt_z (neg_ℤ x) (neg_ℤ y) ≡ lt_z y x
negated-lt x y = grind (arith, ints)

pub signs-changed : (x y : ℤ) → order_z (neg_ℤ x) (neg_ℤ y) ≡ ordering_reverse (order_z x y)
unfolding order_z
signs-changed x y = rw (negated-lt x y, negated-lt y x) (swapped x y)
