-- A decimal with its sign changed is a decimal, and its value is negated: a zero keeps its sign and its value, and no other has a sign on zero.
-- Assumes nothing.
use mathlib.Core.Path.{◌≡◌, refl, sym, ap, ◌∙◌}
use mathlib.Core.Bool.{Bool, true, false, cond, not}
use mathlib.Core.List.{List}
use Prim.Native.Nat.{ℕ}
use lib.IntN.{pos, neg_ℤ, neg_ℤ-neg_ℤ}
use lib.ListN.{length}
use borrow.Author.Tests.{eqb-true}
use Rattle.groups.specs.Layout.{groups_of}
use Rattle.groups.specs.Sign.{is_nought, signed_nought}
use Rattle.groups.proofs.Sign.{sign-right}
use Rattle.order.specs.Value.{magnitude, signed}
use Rattle.order.proofs.Values.{nought-number}
use Rattle.decimal.specs.Write.{is_well}
use Rattle.decimal.specs.Value.{value}
use Rattle.decimal.specs.declared.Decimal.{Decimal}
use Rattle.decimal_laws.proofs.Kept.{zero-value}
use Rattle.order_laws.specs.Order.{sign_changed, negated}

no-sign-on : (neg : Bool) (gs : List ℕ) → is_nought gs ≡ false → signed_nought neg gs ≡ false
unfolding signed_nought
no-sign-on true gs z = z
no-sign-on false gs z = refl

-- What is a decimal, and nothing else, is one with its sign changed.
pub negated-well : (d : Decimal) → is_well (negated d) ≡ is_well d
unfolding negated
negated-well d = go (is_nought d.groups) refl
  where
    go : (t : Bool) → is_nought d.groups ≡ t → is_well (cond t d (sign_changed d)) ≡ is_well d
    go true z = refl
    go false z =
        sign-right (not d.sign) d.intg d.frac d.groups (no-sign-on (not d.sign) d.groups z)
        ∙ sym (sign-right d.sign d.intg d.frac d.groups (no-sign-on d.sign d.groups z))

signed-changed : (neg : Bool) (m : ℕ) → signed (not neg) m ≡ neg_ℤ (signed neg m)
signed-changed true m = sym (neg_ℤ-neg_ℤ (pos m))
signed-changed false m = refl

-- Its value is negated.
pub negated-value : (d : Decimal) → length d.groups ≡ 9 → value (negated d) ≡ neg_ℤ (value d)
unfolding negated value
negated-value d n = go (is_nought d.groups) refl
  where
    go : (t : Bool) → is_nought d.groups ≡ t → value (cond t d (sign_changed d)) ≡ neg_ℤ (value d)
    go true z =
        let e = eqb-true _ _ (sym (nought-number d.groups n) ∙ z) in
        let v : value d ≡ pos 0 = zero-value d.sign (groups_of d.intg) d.groups e in
        v ∙ ap neg_ℤ (sym v)
    go false z = signed-changed d.sign (magnitude (groups_of d.intg) d.groups)
