-- Numbers of as many digits are in the order of the first place where they differ; and nine groups among seventeen places.
-- Assumes nothing.
use mathlib.Core.Path.{◌≡◌, refl, sym, ap, ◌∙◌}
use mathlib.Core.Bool.{Bool, true, false}
use mathlib.Core.List.{List, [], ◌∷◌, ◌++◌}
use mathlib.Core.Logic.{⊎_elim}
use Prim.Native.Nat.{ℕ, zero, suc, ◌+◌, ◌-◌, ◌*◌, ◌^◌, ◌≤◌, ◌<◌}
use native.Mathlib.Nat.{eq-or-lt_of_le, pow-zero, pow-succ', zero-mul, zero-add, mul-le-mul_right, mul-lt-mul_of_pos_right, le_refl, le_of_lt, mul-pos, eq-zero-or-pos}
use native.Mathlib.Omega.{arith}
use lib.Dec.{ltb, lit<}
use lib.Pow.{pow-add}
use lib.ListN.{length, get_or, replicate, length-append, length-replicate}
use borrow.Author.Tests.{eq-eqb, ne_eqb, lt-ltb, le-ltb, ltb-true, ltb-false}
use borrow.Rule.Slice.PartMut.{put_mid}
use Rattle.std.proofs.lemmas.List.{take-replicate, drop-replicate}
use Rattle.groups.specs.Numbers.{number, Below}
use Rattle.groups.proofs.Caps.{same_test, below_or_not}
use Rattle.groups.proofs.Opened.{number_lt}
use Rattle.groups.proofs.Radix.{below-append}
use Rattle.order.specs.Value.{magnitude}
use Rattle.order.specs.Course.{placed, order_n}
use Rattle.std.specs.declared.cmp.Ordering.TheVariants.{Less, Equal, Greater}
use Rattle.std.specs.Ordering.{nat_cmp}
use Rattle.std.specs.Cmp.Lexicographic.{slice_cmp}

pub pow-pos-of : (b n : ℕ) → 0 < b → 0 < b ^ n
pow-pos-of b zero h = rw pow-zero (lit< tt)
pow-pos-of b (suc n) h = rw pow-succ' (mul-pos h (pow-pos-of b n h))

module _ (b : ℕ) where
  pub zeros-before : (n : ℕ) (xs : List ℕ) → number b (replicate n 0 ++ xs) ≡ number b xs
  unfolding number
  zeros-before zero xs = refl
  zeros-before (suc n) xs = rw (zero-mul, zero-add) (zeros-before n xs)

  zeros-only : (n : ℕ) → number b (replicate n 0) ≡ 0
  unfolding number
  zeros-only zero = refl
  zeros-only (suc n) = rw (zero-mul, zero-add) (zeros-only n)

  pub zeros-after : (xs : List ℕ) (n : ℕ) → number b (xs ++ replicate n 0) ≡ number b xs * b ^ n
  unfolding number
  zeros-after [] n = rw zero-mul (zeros-only n)
  zeros-after (x ∷ xs) n =
      let e : length (xs ++ replicate n 0) ≡ length xs + n = length-append xs (replicate n 0) ∙ ap (λ (m : ℕ). length xs + m) (length-replicate n 0) in
      rw (e, pow-add, zeros-after xs n) (omega arith)

pub placed-number : (n : ℕ) (gs : List ℕ) → number 1000000000 (placed n gs) ≡ magnitude n gs
unfolding placed magnitude
placed-number n gs = zeros-before 1000000000 (8 - n) (gs ++ replicate n 0) ∙ zeros-after 1000000000 gs n

zero-at : (n j : ℕ) → get_or {A = ℕ} (replicate n 0) j 0 ≡ 0
zero-at zero j = refl
zero-at (suc n) zero = refl
zero-at (suc n) (suc j) = zero-at n j

pub at_after : (gs : List ℕ) (n j : ℕ) → get_or (gs ++ replicate n 0) j 0 ≡ get_or gs j 0
at_after [] n j = zero-at n j
at_after (g ∷ gs) n zero = refl
at_after (g ∷ gs) n (suc j) = at_after gs n j

zeros-below : (n : ℕ) → Below 1000000000 (replicate n 0)
zeros-below n k = rw (zero-at n k) (lit< tt)

pub placed_below : (n : ℕ) (gs : List ℕ) → Below 1000000000 gs → Below 1000000000 (placed n gs)
unfolding placed
placed_below n gs h =
    below-append 1000000000 (replicate (8 - n) 0) (gs ++ replicate n 0) (zeros-below (8 - n)) (below-append 1000000000 gs (replicate n 0) h (zeros-below n))

pub placed-length : (n : ℕ) (gs : List ℕ) → n ≤ 8 → length gs ≡ 9 → length (placed n gs) ≡ 17
unfolding placed
placed-length n gs l e =
    length-append (replicate (8 - n) 0) (gs ++ replicate n 0)
    ∙ rw (length-replicate {A = ℕ} (8 - n) 0, length-append gs (replicate n 0), length-replicate {A = ℕ} n 0, e) (omega arith)

pub equal : (x : ℕ) → order_n x x ≡ Equal
unfolding order_n
equal x = simp (le-ltb x x (le_refl x))

pub less : (x y : ℕ) → x < y → order_n x y ≡ Less
unfolding order_n
less x y h = simp (lt-ltb x y h)

pub greater : (x y : ℕ) → y < x → order_n x y ≡ Greater
unfolding order_n
greater x y h = simp (le-ltb x y (le_of_lt h), lt-ltb y x h)

shifted : (c x y : ℕ) → order_n (c + x) (c + y) ≡ order_n x y
unfolding order_n
shifted c x y = rw (moved c x y, moved c y x) refl
  where
    moved : (c x y : ℕ) → ltb (c + x) (c + y) ≡ ltb x y
    moved c x y = same_test (ltb (c + x) (c + y)) (ltb x y) (λ e. let l = ltb-true (c + x) (c + y) e in lt-ltb x y (omega arith)) (λ e. let l = ltb-true x y e in lt-ltb (c + x) (c + y) (omega arith))

-- ---- the first place where two lists differ decides, as it does where the library compares them
module _ (b : ℕ) where
  leads : (x y u v p : ℕ) → x < y → u < p → x * p + u < y * p + v
  leads x y u v p h l = let m = mul-le-mul_right p h in omega arith

  pub cmp-is : (xs ys : List ℕ) → length xs ≡ length ys → Below b xs → Below b ys → slice_cmp nat_cmp xs ys ≡ order_n (number b xs) (number b ys)
  unfolding number
  cmp-is [] [] e hx hy = sym (equal 0)
  cmp-is [] (y ∷ ys) e hx hy = absurd (omega arith)
  cmp-is (x ∷ xs) [] e hx hy = absurd (omega arith)
  cmp-is (x ∷ xs) (y ∷ ys) e hx hy =
      ⊎_elim
      (λ (l : x < y). simp (lt-ltb x y l) (sym (less _ _ (rw (← n) (leads x y _ _ _ l p)))))
      (λ (g : y ≤ x). ⊎_elim
      (λ (e : y ≡ x). rw e (simp (le-ltb x x (le_refl x), eq-eqb x x refl) (rw (n, shifted (x * b ^ length ys) (number b xs) (number b ys)) (cmp-is xs ys n (λ k. hx (suc k)) (λ k. hy (suc k))))))
      (λ (l : y < x). simp (le-ltb x y g, ne_eqb x y (λ (e : x ≡ y). omega arith)) (sym (greater _ _ (rw (← n) (leads y x _ _ _ l q)))))
      (eq-or-lt_of_le g))
      (below_or_not x y)
    where
      n : length xs ≡ length ys
      n = omega arith

      p : number b xs < b ^ length xs
      p = number_lt b xs (λ k. hx (suc k))

      q : number b ys < b ^ length xs
      q = rw n (number_lt b ys (λ k. hy (suc k)))

-- ---- points that meet: the same factor on both sides does not change the order
scaled : (x y c : ℕ) → 0 < c → ltb (x * c) (y * c) ≡ ltb x y
scaled x y c h = go (ltb x y) refl
  where
    go : (t : Bool) → ltb x y ≡ t → ltb (x * c) (y * c) ≡ t
    go true e = lt-ltb (x * c) (y * c) (mul-lt-mul_of_pos_right (ltb-true x y e) h)
    go false e = le-ltb (x * c) (y * c) (mul-le-mul_right c (ltb-false x y e))

pub order-scaled : (m n : ℕ) (xs ys : List ℕ) → m ≡ n → order_n (number 1000000000 xs) (number 1000000000 ys) ≡ order_n (magnitude m xs) (magnitude n ys)
unfolding order_n magnitude
order-scaled m n xs ys e =
    let p = pow-pos-of 1000000000 n (lit< tt) in
    rw e (simp (scaled (number 1000000000 xs) (number 1000000000 ys) (1000000000 ^ n) p, scaled (number 1000000000 ys) (number 1000000000 xs) (1000000000 ^ n) p))

-- ---- zero
pub zero-each : (b : ℕ) (xs : List ℕ) → 0 < b → number b xs ≡ 0 → (k : ℕ) → get_or xs k 0 ≡ 0
unfolding number
zero-each b [] p e k = refl
zero-each b (x ∷ xs) p e zero =
    ⊎_elim (λ z. z) (λ q. let r = mul-pos q (pow-pos-of b (length xs) p) in absurd (omega arith)) (eq-zero-or-pos x)
zero-each b (x ∷ xs) p e (suc k) = zero-each b xs p (omega arith) k

pub all-zero : (b : ℕ) (xs : List ℕ) → ((k : ℕ) → k < length xs → get_or xs k 0 ≡ 0) → number b xs ≡ 0
unfolding number
all-zero b [] h = refl
all-zero b (x ∷ xs) h = rw (h 0 (omega arith), zero-mul, zero-add) (all-zero b xs (λ k l. h (suc k) (omega arith)))

-- ---- zeros, and the groups written over them from the first place on
pub placed-written : (n : ℕ) (gs : List ℕ) → n ≤ 8 → put_mid (8 - n) (8 - n + 9 - (8 - n)) (replicate 17 0) gs ≡ placed n gs
unfolding placed
placed-written n gs h =
    let q : 17 - (8 - n) - (8 - n + 9 - (8 - n)) ≡ n = omega arith in
    let t = take-replicate {X = ℕ} (8 - n) 17 0 (omega arith) in
    rw (t, drop-replicate, drop-replicate, q) refl
