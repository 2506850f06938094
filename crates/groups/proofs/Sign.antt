-- A well formed record has well formed groups, and is negative only where its value is below zero: taken apart and put together here, once.
-- Assumes nothing.
use mathlib.Core.Path.{◌≡◌, refl, sym, subst}
use mathlib.Core.Bool.{Bool, true, false, not}
use mathlib.Core.List.{List}
use Prim.Native.Nat.{ℕ, ◌<◌}
use lib.Dec.{T, eqb}
use lib.ListN.{get_or}
use borrow.Author.Tests.{eq-eqb, eqb-true}
use Rattle.groups.specs.Numbers.{both}
use Rattle.groups.specs.Sign.{is_nought, below_zero, signed_nought}
use Rattle.groups.specs.Write.{well_groups, well_formed}
use Rattle.groups.proofs.Accept.{both_true, both-unit}
use Rattle.groups.proofs.Tab.{all_true, all-each}

-- ---- zero groups
pub nought-of : (gs : List ℕ) → ((k : ℕ) → k < 9 → get_or gs k 0 ≡ 0) → is_nought gs ≡ true
unfolding is_nought
nought-of gs h = all_true (λ k. eqb (get_or gs k 0) 0) 9 (λ k l. eq-eqb (get_or gs k 0) 0 (h k l))

pub nought-each : (gs : List ℕ) → is_nought gs ≡ true → (k : ℕ) → k < 9 → get_or gs k 0 ≡ 0
unfolding is_nought
nought-each gs e k l = eqb-true (get_or gs k 0) 0 (all-each (λ k. eqb (get_or gs k 0) 0) 9 e k l)

-- ---- the sign
no-sign-on : (neg t : Bool) → not (both neg t) ≡ true → both neg (not t) ≡ neg
no-sign-on true true e = absurd (subst T (sym e) tt)
no-sign-on true false e = refl
no-sign-on false t e = refl

zero-unsigned : (neg t : Bool) → t ≡ true → not (both neg t) ≡ true → neg ≡ false
zero-unsigned true true z e = absurd (subst T (sym e) tt)
zero-unsigned true false z e = absurd (subst T (sym z) tt)
zero-unsigned false t z e = refl

below-unsigned : (neg t : Bool) → not (both (both neg (not t)) t) ≡ true
below-unsigned true true = refl
below-unsigned true false = refl
below-unsigned false t = refl

both-no : (t : Bool) → both t false ≡ false
both-no true = refl
both-no false = refl

-- ---- a well formed record
module _ (neg : Bool) (i f : ℕ) (gs : List ℕ) where
  pub formed-groups : well_formed neg i f gs ≡ true → well_groups i f gs ≡ true
  unfolding well_formed
  formed-groups w = (both_true (well_groups i f gs) (not (signed_nought neg gs)) w).0

  -- its sign is that of its value,
  pub formed-sign : well_formed neg i f gs ≡ true → below_zero neg gs ≡ neg
  unfolding well_formed below_zero signed_nought
  formed-sign w = no-sign-on neg (is_nought gs) (both_true (well_groups i f gs) (not (signed_nought neg gs)) w).1

  -- so a zero is positive
  pub formed-zero : well_formed neg i f gs ≡ true → is_nought gs ≡ true → neg ≡ false
  unfolding well_formed signed_nought
  formed-zero w z = zero-unsigned neg (is_nought gs) z (both_true (well_groups i f gs) (not (signed_nought neg gs)) w).1

  -- and well formed groups with such a sign are a well formed record
  pub formed-of : well_groups i f gs ≡ true → well_formed (below_zero neg gs) i f gs ≡ true
  unfolding well_formed below_zero signed_nought
  formed-of w = simp w (below-unsigned neg (is_nought gs))

  -- the test of a record: first its sign, then its groups
  pub sign-wrong : signed_nought neg gs ≡ true → well_formed neg i f gs ≡ false
  unfolding well_formed
  sign-wrong e = simp e (both-no (well_groups i f gs))

  pub sign-right : signed_nought neg gs ≡ false → well_formed neg i f gs ≡ well_groups i f gs
  unfolding well_formed
  sign-right e = simp e (both-unit (well_groups i f gs))
