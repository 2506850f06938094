-- The value of digits in groups is that of the digits in a row: the groups of the first k places count what their digits do, for each k.
-- Assumes nothing.
use mathlib.Core.Path.{◌≡◌, refl, sym, ap, ◌∙◌}
use mathlib.Core.Bool.{Bool, true, false, cond}
use mathlib.Core.List.{List, [], ◌∷◌, ◌++◌}
use Prim.Native.Nat.{ℕ, zero, suc, ◌+◌, ◌-◌, ◌*◌, ◌^◌, ◌≤◌, ◌<◌, min}
use native.Mathlib.Nat.{le_refl, le_of_eq, pow-zero, pow-suc, zero-add, zero-mul, mul_assoc}
use native.Mathlib.Omega.{arith}
use lib.Dec.{ltb}
use lib.Pow.{pow-add}
use lib.ListN.{length, take, drop, length-append, length-drop}
use lib.Seq.{take-add, take_all, length-take-le}
use borrow.Author.Tests.{lt-ltb, le-ltb, ltb-true, ltb-false}
use Rattle.groups.specs.Numbers.{number, tab}
use Rattle.groups.specs.Layout.{groups_of, side, digits_at, offset, Digits}
use Rattle.groups.specs.Read.{group_at, stored_at, unit_of}
use Rattle.groups.proofs.Radix.{number-snoc}
use Rattle.groups.proofs.Sizes.{digits-size}
use Rattle.groups.proofs.Places.{within}
use Rattle.order.specs.Value.{magnitude}

-- ---- lists
tab-none : (f : ℕ → ℕ) → tab 0 f ≡ []
unfolding tab
tab-none f = refl

-- one place more
tab-snoc : (n : ℕ) (f : ℕ → ℕ) → tab (suc n) f ≡ tab n f ++ (f n ∷ [])
unfolding tab
tab-snoc zero f = refl
tab-snoc (suc n) f = ap (λ (xs : List ℕ). f 0 ∷ xs) (tab-snoc n (λ k. f (suc k)))

-- digits after digits
number_append : (b : ℕ) (xs ys : List ℕ) → number b (xs ++ ys) ≡ number b xs * b ^ length ys + number b ys
unfolding number
number_append b [] ys = rw zero-mul (omega arith)
number_append b (x ∷ xs) ys = rw (length-append xs ys, pow-add, number_append b xs ys) (omega arith)

billion : (n : ℕ) → 1000000000 ^ n ≡ 10 ^ (9 * n)
billion zero = rw pow-zero
billion (suc n) =
    let e : 9 * suc n ≡ 9 * n + 9 = omega arith in
    rw (pow-suc, billion n, e, pow-add)

-- ---- the digits before each place: i less whole groups of nine up to the point, and from there on i and whole groups, as long as there are digits
pub rounded : (i : ℕ) → (i ≤ 9 * groups_of i) × (9 * groups_of i ≤ i + 8)
unfolding groups_of
rounded i = omega arith

nine-more : (i m : ℕ) → i - 9 * suc m + min 9 (i - 9 * m) ≡ i - 9 * m
nine-more i m = omega arith

before : (i f k : ℕ) → k ≤ groups_of i → offset Digits i f k ≡ i - 9 * (groups_of i - k)
unfolding offset digits_at side
before i f zero h = let r = rounded i in omega arith
before i f (suc k) h =
    let n = groups_of i in
    let m = n - suc k in
    let p : n - k ≡ suc m = omega arith in
    let q : n - 1 - k ≡ m = omega arith in
    rw (before i f k (omega arith)) (simp (lt-ltb k n h) (rw (p, q) (nine-more i m)))

behind : (i f m : ℕ) → offset Digits i f (groups_of i + m) ≡ i + min f (9 * m)
unfolding offset digits_at side
behind i f zero =
    let e : groups_of i + 0 ≡ groups_of i = omega arith in
    rw (e, before i f (groups_of i) (le_refl _)) (omega arith)
behind i f (suc m) =
    let e : groups_of i + suc m ≡ suc (groups_of i + m) = omega arith in
    rw (e, behind i f m) (simp (le-ltb (groups_of i + m) (groups_of i) (omega arith)) (omega arith))

-- ---- the weight of a place that has digits
-- the tens behind the first k places, counted in groups and counted in digits; both at the scale of 81 digits after the point
abbrev group_tens : ℕ → ℕ → ℕ
group_tens i k = 9 * (9 - k) + 9 * groups_of i

abbrev digit_tens : ℕ → ℕ → ℕ → ℕ
digit_tens i f k = i + 81 - offset Digits i f k

behind-nine : (i m x n j : ℕ) → 0 < x → j + n + m ≡ 8 → 9 - min 9 x + (9 * j + 9 * n) ≡ i + 81 - (i + min (9 * m + x) (9 * suc m))
behind-nine i m x n j h e = omega arith

module _ (i f k : ℕ) (l : k < 9) where
  whole-weight : k < groups_of i → group_tens i (suc k) ≡ digit_tens i f (suc k)
  whole-weight h =
      let n = groups_of i in
      let r = rounded i in
      let m = n - suc k in
      let p : n ≡ m + suc k = omega arith in
      let q : 9 * m ≤ i = omega arith in
      rw (before i f (suc k) h) (omega arith)

  fraction-weight : groups_of i ≤ k → 0 < side f (k - groups_of i) → 9 - side f (k - groups_of i) + group_tens i (suc k) ≡ digit_tens i f (suc k)
  unfolding side
  fraction-weight h d =
      let n = groups_of i in
      let m = k - n in
      let p : suc k ≡ n + suc m = omega arith in
      let q : 9 * m + (f - 9 * m) ≡ f = omega arith in
      rw (p, behind i f (suc m)) (rw (q, p) at (behind-nine i m (f - 9 * m) n (9 - suc k) (omega arith) (omega arith)))

  weight : 0 < digits_at i f k → unit_of i k (digits_at i f k) * 10 ^ group_tens i (suc k) ≡ 10 ^ digit_tens i f (suc k)
  unfolding unit_of digits_at
  weight d = go (ltb k (groups_of i)) refl d
    where
      go : (t : Bool) → ltb k (groups_of i) ≡ t → let n = cond t (side i (groups_of i - 1 - k)) (side f (k - groups_of i)) in
          0 < n → cond t 1 (10 ^ (9 - n)) * 10 ^ group_tens i (suc k) ≡ 10 ^ digit_tens i f (suc k)
      go true e d = rw (← whole-weight (ltb-true _ _ e)) (omega arith)
      go false e d = sym (pow-add 10 _ _) ∙ ap (λ (n : ℕ). 10 ^ n) (fraction-weight (ltb-false _ _ e) d)

-- ---- the digits in a row
one_more : (G N s g X Y D : ℕ) → G * (1000000000 * X) ≡ N * (D * Y) → s * X ≡ g * Y → (G * 1000000000 + s) * X ≡ (N * D + g) * Y
one_more G N s g X Y D h k = omega arith

module _ (i f : ℕ) (ds : List ℕ) (hf : f ≤ 30) (h : i + f ≤ 65) (e : length ds ≡ i + f) where
  no-digits : (k : ℕ) → digits_at i f k ≡ 0 → group_at Digits i f ds k ≡ 0
  unfolding group_at number
  no-digits k q = rw q

  -- a place counts what its digits do
  place-counts : (k : ℕ) → k < 9 → stored_at Digits i f ds k * 10 ^ group_tens i (suc k) ≡ group_at Digits i f ds k * 10 ^ digit_tens i f (suc k)
  unfolding stored_at
  place-counts k l = rw mul_assoc (go (digits_at i f k) refl)
    where
      go : (d : ℕ) → digits_at i f k ≡ d
          → group_at Digits i f ds k * (unit_of i k (digits_at i f k) * 10 ^ group_tens i (suc k)) ≡ group_at Digits i f ds k * 10 ^ digit_tens i f (suc k)
      go zero q = rw (no-digits k q, zero-mul, zero-mul)
      go (suc d) q = rw (weight i f k l (omega arith))

  -- the digits up to a place, and its own
  digits_more : (k : ℕ) → k < 9
      → number 10 (take (offset Digits i f (suc k)) ds) ≡ number 10 (take (offset Digits i f k) ds) * 10 ^ digits_at i f k + group_at Digits i f ds k
  unfolding offset group_at
  digits_more k l =
      let o = offset Digits i f k in
      let d = digits_at i f k in
      let w = within Digits i f k l in
      let s = digits-size i f hf h in
      let n : length (take d (drop o ds)) ≡ d = length-take-le d (drop o ds) (simp length-drop (omega arith)) in
      rw (take-add o d ds, number_append 10 (take o ds) (take d (drop o ds)), n)

  -- the first k places count what their digits do
  counts : (k : ℕ) → k ≤ 9
      → number 1000000000 (tab k (stored_at Digits i f ds)) * 10 ^ group_tens i k ≡ number 10 (take (offset Digits i f k) ds) * 10 ^ digit_tens i f k
  unfolding number offset
  counts zero l = rw (tab-none, zero-mul, zero-mul)
  counts (suc k) l =
      let A = group_tens i (suc k) in
      let B = digit_tens i f (suc k) in
      let d = digits_at i f k in
      let w = within Digits i f k l in
      let s = digits-size i f hf h in
      let p : group_tens i k ≡ 9 + A = omega arith in
      let q : digit_tens i f k ≡ d + B = omega arith in
      let t = rw (p, q, pow-add 10 9 A, pow-add 10 d B) at (counts k (omega arith)) in
      rw (tab-snoc k, number-snoc, digits_more k l) (one_more _ _ _ _ _ _ _ t (place-counts k l))

  -- the groups have the value of the digits in a row
  pub row-magnitude : magnitude (groups_of i) (tab 9 (stored_at Digits i f ds)) ≡ number 10 ds * 10 ^ (81 - f)
  unfolding magnitude
  row-magnitude =
      let s = digits-size i f hf h in
      let q : i + 81 - (i + f) ≡ 81 - f = omega arith in
      rw (billion (groups_of i)) (rw (zero-add, s, q, take_all (i + f) ds (le_of_eq e)) at (counts 9 (le_refl 9)))
