-- The laws of the nine groups: where each stands, and that what is stored fits.
-- Assumes nothing.
use mathlib.Core.Path.{◌≡◌, refl, sym, ap, ◌∙◌, subst}
use mathlib.Core.Bool.{Bool, true, false, cond}
use mathlib.Core.Logic.{⊎_elim}
use Prim.Native.Nat.{ℕ, zero, suc, ◌+◌, ◌-◌, ◌*◌, ◌^◌, ◌≤◌, ◌<◌}
use native.Mathlib.Nat.{le_of_suc-le-suc, eq-or-lt_of_le, le_refl, le_trans, mul-one, mul-lt-mul_of_pos_right, lt_of_lt_of_le, pow-le-pow_right, min-le_left}
use native.Mathlib.Numerals.{add-one}
use native.Mathlib.Omega.{arith}
use lib.Pow.{pow-add}
use lib.Dec.{ltb, lit<}
use borrow.Author.Tests.{le-leb}
use Rattle.std.specs.Int.{div_ceil}
use Rattle.groups.specs.Layout.{wide_of, groups_of, side, digits_at, offset, Form, power_of}
use Rattle.groups.specs.Read.{unit_of}

module _ (F : Form) (i f : ℕ) where
  pub offset-mono : (m k : ℕ) → k ≤ m → offset F i f k ≤ offset F i f m
  unfolding offset
  offset-mono zero k h = let e : k ≡ 0 = omega arith in rw e (le_refl 0)
  offset-mono (suc m) k h =
      ⊎_elim (λ e. rw e (le_refl (offset F i f (suc m)))) (λ l. let r = offset-mono m k (le_of_suc-le-suc l) in omega arith) (eq-or-lt_of_le h)

  pub offset-more : (k : ℕ) → offset F i f (k + 1) ≡ offset F i f k + wide_of F (digits_at i f k)
  unfolding offset
  offset-more k = rw add-one refl

  -- the k-th group lies within the whole
  pub within : (k : ℕ) → k < 9 → offset F i f k + wide_of F (digits_at i f k) ≤ offset F i f 9
  within k h = rw (← offset-more k) (offset-mono 9 (k + 1) (omega arith))

-- a group has at most nine digits
pub digits_le : (i f k : ℕ) → digits_at i f k ≤ 9
unfolding digits_at side
digits_le i f k = go (ltb k (groups_of i))
  where
    go : (t : Bool) → cond t (side i (groups_of i - 1 - k)) (side f (k - groups_of i)) ≤ 9
    go true = min-le_left 9 _
    go false = min-le_left 9 _

-- what is stored has at most nine digits
pub pow-pos10 : (n : ℕ) → 0 < 10 ^ n
pow-pos10 n = le_trans (le_refl 1) (pow-le-pow_right (lit< tt) {i = 0} {j = n} (omega arith))

pub ten-most : (d : ℕ) → d ≤ 9 → 10 ^ d ≤ 1000000000
ten-most d h = pow-le-pow_right (lit< tt) {j = 9} h

-- the table's power of so many digits as a group can have
pub power-is : (d : ℕ) → d ≤ 9 → power_of d ≡ 10 ^ d
unfolding power_of
power-is d h = simp (le-leb d 9 h)

pub nine : (d : ℕ) → d ≤ 9 → 10 ^ d * 10 ^ (9 - d) ≡ 1000000000
nine d h = sym (pow-add 10 d (9 - d)) ∙ ap (λ (n : ℕ). 10 ^ n) (let e : d + (9 - d) ≡ 9 = omega arith in e)

pub unit-pos : (i k d : ℕ) → 0 < unit_of i k d
unfolding unit_of
unit-pos i k d = go (ltb k (groups_of i))
  where
    go : (t : Bool) → 0 < cond t 1 (10 ^ (9 - d))
    go true = lit< tt
    go false = pow-pos10 (9 - d)

pub stored-lt : (i k d x : ℕ) → d ≤ 9 → x < 10 ^ d → x * unit_of i k d < 1000000000
unfolding unit_of
stored-lt i k d x h l = go (ltb k (groups_of i))
  where
    go : (t : Bool) → x * cond t 1 (10 ^ (9 - d)) < 1000000000
    go true = rw mul-one (lt_of_lt_of_le l (pow-le-pow_right (lit< tt) {j = 9} h))
    go false = subst (λ (n : ℕ). x * 10 ^ (9 - d) < n) (nine d h) (mul-lt-mul_of_pos_right l (pow-pos10 (9 - d)))

-- as many groups as digits by nine, rounded up
pub ceil-nine : (n : ℕ) → div_ceil n 9 ≡ groups_of n
unfolding groups_of
ceil-nine n = omega arith
