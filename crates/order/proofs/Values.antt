-- The order of values by signs and magnitudes: no sign stands on a zero, so signs that differ decide.
-- Assumes nothing.
use mathlib.Core.Path.{◌≡◌, refl, sym, ◌∙◌, subst}
use mathlib.Core.Bool.{Bool, true, false, not}
use mathlib.Core.List.{List}
use Prim.Native.Nat.{ℕ, zero, suc, ◌<◌}
use native.Mathlib.Nat.{mul-pos, pos_of_ne-zero}
use native.Mathlib.Omega.{arith}
use lib.Dec.{T, eqb, lit<, leb-suc-suc}
use lib.ListN.{length}
use borrow.Author.Tests.{eq-eqb, eqb-true, lt-ltb, le-ltb}
use Rattle.groups.specs.Numbers.{number}
use Rattle.groups.specs.Sign.{is_nought, below_zero}
use Rattle.groups.proofs.Caps.{same_test}
use Rattle.groups.proofs.Sign.{nought-of, nought-each}
use Rattle.order.specs.Value.{magnitude, signed, order_z}
use Rattle.order.specs.Course.{order_n}
use Rattle.std.specs.declared.cmp.Ordering.TheVariants.{Less, Greater}
use Rattle.order.proofs.Lex.{pow-pos-of, all-zero, zero-each}

-- ---- signs
pub both-neg : (x y : ℕ) → order_z (signed true x) (signed true y) ≡ order_n y x
unfolding order_z order_n
both-neg zero zero = refl
both-neg zero (suc y) = sym (simp (le-ltb (suc y) 0 (omega arith), lt-ltb 0 (suc y) (omega arith)))
both-neg (suc x) zero = sym (simp (lt-ltb 0 (suc x) (omega arith)))
both-neg (suc x) (suc y) = simp (leb-suc-suc (suc y) x, leb-suc-suc (suc x) y)

pub both-pos : (x y : ℕ) → order_z (signed false x) (signed false y) ≡ order_n x y
unfolding order_z order_n
both-pos x y = refl

pub neg-pos : (x y : ℕ) → 0 < x → order_z (signed true x) (signed false y) ≡ Less
unfolding order_z
neg-pos zero y h = absurd (omega arith)
neg-pos (suc x) y h = refl

pub pos-neg : (x y : ℕ) → 0 < y → order_z (signed false x) (signed true y) ≡ Greater
unfolding order_z
pos-neg x zero h = absurd (omega arith)
pos-neg x (suc y) h = refl

-- ---- zero groups
pub nought-number : (gs : List ℕ) → length gs ≡ 9 → is_nought gs ≡ eqb (number 1000000000 gs) 0
nought-number gs e =
    same_test (is_nought gs) (eqb (number 1000000000 gs) 0)
    (λ h. eq-eqb (number 1000000000 gs) 0 (all-zero 1000000000 gs (λ k l. nought-each gs h k (rw e at l))))
    (λ h. nought-of gs (λ k l. zero-each 1000000000 gs (lit< tt) (eqb-true (number 1000000000 gs) 0 h) k))

-- a value below zero has a magnitude
pub below-magnitude : (n : ℕ) (gs : List ℕ) → length gs ≡ 9 → below_zero true gs ≡ true → 0 < magnitude n gs
unfolding below_zero magnitude
below-magnitude n gs e h =
    mul-pos (pos_of_ne-zero (λ (z : number 1000000000 gs ≡ 0). not-both (is_nought gs) h (nought-number gs e ∙ eq-eqb (number 1000000000 gs) 0 z)))
    (pow-pos-of 1000000000 n (lit< tt))
  where
    not-both : (t : Bool) → not t ≡ true → t ≡ true → ⊥
    not-both true p q = subst T (sym p) tt
    not-both false p q = subst T (sym q) tt
