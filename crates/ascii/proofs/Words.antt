-- The top bits of a word, and the zeros at its end. A word's top bits are clear up to its first byte that is not ASCII, so as many bytes are ASCII as lie
-- wholly below its first top bit that is set.
-- Assumes nothing.
use Prim.Native.Nat.{ℕ, zero, suc, ◌+◌, ◌*◌, ◌/◌, ◌%◌, ◌^◌, ◌≤◌, ◌<◌, min}
use mathlib.Core.Path.{◌≡◌, refl, sym, ap, ◌∙◌, subst}
use mathlib.Core.List.{List, [], ◌∷◌}
use native.Mathlib.Nat.{mul_assoc, pow-suc}
use native.Mathlib.Omega.{arith}
use lib.Bits.{bit_and, bit_or, and_block, and_high, and_zero_l, or_zero_l}
use lib.Count.{under, count_trailing_zeros, trailing_of_zero}
use lib.Dec.{ltb, leb, eqb}
use lib.ListN.{length, take, drop, replicate, length-drop}
use lib.Seq.{length-take-le}
use borrow.Author.Tests.{ltb-true, ltb-false, le-leb, leb-true, eqb-true, eq-eqb}
use Rattle.std.proofs.lemmas.Nat.{le_or_l, le_or_r}
use Rattle.raw.specs.Numbers.{value}
use Rattle.raw.proofs.Values.{Bytes, bytes_take, bytes_drop}
use Rattle.ascii.specs.Ascii.{low, ascii_end}
use Rattle.ascii.proofs.Low.{by, same, low-yes, low-no, low_take}

-- ---- the top bits
abbrev pub mask : ℕ → ℕ
mask n = value (replicate n 128)

abbrev tops : List ℕ → ℕ
tops xs = bit_and (value xs) (mask (length xs))

top_bit : (x : ℕ) → bit_and x 128 ≡ x / 128 % 2 * 128
top_bit x = and_high x 1 7

top-clear : (x : ℕ) → x < 128 → bit_and x 128 ≡ 0
top-clear x h =
    let w : x / 128 ≡ 0 = omega arith in
    top_bit x ∙ ap (λ (y : ℕ). y % 2 * 128) w

top_set : (x : ℕ) → x < 256 → 128 ≤ x → bit_and x 128 ≡ 128
top_set x h g =
    let w : x / 128 ≡ 1 = omega arith in
    top_bit x ∙ ap (λ (y : ℕ). y % 2 * 128) w

-- the lowest byte's top bit apart
top-step : (x v m : ℕ) → x < 256 → bit_and (x + 256 * v) (128 + 256 * m) ≡ 256 * bit_and v m + bit_and x 128
top-step x v m h =
    let e : x + 256 * v ≡ v * 2 ^ 8 + x = omega arith in
    let f : 128 + 256 * m ≡ m * 2 ^ 8 + 128 = omega arith in
    let b : bit_and (x + 256 * v) (128 + 256 * m) ≡ bit_and v m * 2 ^ 8 + bit_and x 128 =
    rw (e, f) (and_block 8 v m x 128 h (omega arith)) in
    omega arith

top-first : (x : ℕ) (xs : List ℕ) → x < 256 → tops (x ∷ xs) ≡ 256 * tops xs + bit_and x 128
unfolding value
top-first x xs h = top-step x (value xs) (mask (length xs)) h

-- all clear, where all bytes are ASCII
all-clear : (xs : List ℕ) → Bytes xs → low xs ≡ length xs → tops xs ≡ 0
unfolding value low
all-clear [] p e = refl
all-clear (x ∷ xs) p e =
    by (ltb x 128)
    (λ t.
    let l = low-yes x xs (ltb-true x 128 t) in
    let f = top-first x xs (p 0) in
    let c = top-clear x (ltb-true x 128 t) in
    omega (arith, all-clear xs (λ k. p (suc k)) (omega arith)))
    (λ t. let l = low-no x xs (ltb-false x 128 t) in absurd (omega arith))

-- ---- the zeros at the end
even : (k n : ℕ) → count_trailing_zeros (suc k) (n * 2) ≡ suc (count_trailing_zeros k n)
unfolding count_trailing_zeros
even k n =
    let r : n * 2 % 2 ≡ 0 = omega arith in
    let h : n * 2 / 2 ≡ n = omega arith in
    ap (λ (d : ℕ). under d (count_trailing_zeros k (n * 2 / 2))) r ∙ ap (λ (m : ℕ). suc (count_trailing_zeros k m)) h

odd : (k n : ℕ) → count_trailing_zeros (suc k) (n * 2 + 1) ≡ 0
unfolding count_trailing_zeros
odd k n =
    let r : (n * 2 + 1) % 2 ≡ 1 = omega arith in
    ap (λ (d : ℕ). under d (count_trailing_zeros k ((n * 2 + 1) / 2))) r

zeros : (j k n : ℕ) → count_trailing_zeros (j + k) (n * 2 ^ j) ≡ j + count_trailing_zeros k n
zeros zero k n =
    let a : 0 + k ≡ k = omega arith in
    let e : n * 1 ≡ n = omega arith in
    let z : count_trailing_zeros (0 + k) (n * 1) ≡ count_trailing_zeros k n = ap (λ (m : ℕ). count_trailing_zeros m (n * 1)) a ∙ ap (count_trailing_zeros k) e in
    omega arith
zeros (suc j) k n =
    let a : suc j + k ≡ suc (j + k) = omega arith in
    let e : n * 2 ^ suc j ≡ n * 2 ^ j * 2 = ap (λ (x : ℕ). n * x) (pow-suc 2 j) ∙ sym (mul_assoc n (2 ^ j) 2) in
    let z : count_trailing_zeros (suc j + k) (n * 2 ^ suc j) ≡ suc (count_trailing_zeros (j + k) (n * 2 ^ j)) =
    ap (λ (m : ℕ). count_trailing_zeros m (n * 2 ^ suc j)) a ∙ ap (count_trailing_zeros (suc (j + k))) e ∙ even (j + k) (n * 2 ^ j) in
    omega (arith, zeros j k n)

-- as many bytes lie wholly below the first top bit that is set as are ASCII
low_zeros : (xs : List ℕ) → Bytes xs → count_trailing_zeros (8 * length xs) (tops xs) / 8 ≡ low xs
unfolding value low
low_zeros [] p = ap (λ (n : ℕ). n / 8) (trailing_of_zero 0)
low_zeros (x ∷ xs) p =
    let n = length xs in
    let f = top-first x xs (p 0) in
    by (ltb x 128)
    (λ t.
    let l = low-yes x xs (ltb-true x 128 t) in
    let c = top-clear x (ltb-true x 128 t) in
    let a : 8 * suc n ≡ 8 + 8 * n = omega arith in
    let e : tops (x ∷ xs) ≡ tops xs * 256 = omega arith in
    let z = ap (λ (m : ℕ). count_trailing_zeros m (tops (x ∷ xs))) a ∙ ap (count_trailing_zeros (8 + 8 * n)) e ∙ zeros 8 (8 * n) (tops xs) in
    omega (arith, z, low_zeros xs (λ k. p (suc k))))
    (λ t.
    let l = low-no x xs (ltb-false x 128 t) in
    let c = top_set x (p 0) (ltb-false x 128 t) in
    let a : 8 * suc n ≡ 7 + suc (8 * n) = omega arith in
    let e : tops (x ∷ xs) ≡ (tops xs * 2 + 1) * 128 = omega arith in
    let z =
    ap (λ (m : ℕ). count_trailing_zeros m (tops (x ∷ xs))) a
    ∙ ap (count_trailing_zeros (7 + suc (8 * n))) e
    ∙ zeros 7 (suc (8 * n)) (tops xs * 2 + 1) in
    omega (arith, z, odd (8 * n) (tops xs)))

-- more top bits than there are bytes
wider : (n : ℕ) (xs : List ℕ) → Bytes xs → length xs ≤ n → bit_and (value xs) (mask n) ≡ tops xs
unfolding value
wider n [] p h = and_zero_l (mask n)
wider zero (x ∷ xs) p h = absurd (omega arith)
wider (suc n) (x ∷ xs) p h =
    top-step x (value xs) (mask n) (p 0)
    ∙ ap (λ (t : ℕ). 256 * t + bit_and x 128) (wider n xs (λ k. p (suc k)) (omega arith))
    ∙ sym (top-step x (value xs) (mask (length xs)) (p 0))

-- ---- the next n bytes at a place
module _ (n : ℕ) (s : List ℕ) (at : ℕ) (p : Bytes s) (h : at + n ≤ length s) where
  abbrev next : List ℕ
  next = take n (drop at s)

  next-length : length next ≡ n
  next-length = length-take-le n (drop at s) (simp length-drop (omega arith))

  next-bytes : Bytes next
  next-bytes = bytes_take n (drop at s) (bytes_drop at s p)

  next-zeros : count_trailing_zeros (8 * n) (bit_and (value next) (mask n)) / 8 ≡ low next
  next-zeros = subst (λ (m : ℕ). count_trailing_zeros (8 * m) (bit_and (value next) (mask m)) / 8 ≡ low next) next-length (low_zeros next next-bytes)

  pub tops-clear : n ≤ 8 → eqb (bit_and (value next) 9259542123273814144) 0 ≡ leb (at + n) (ascii_end s at)
  unfolding value
  tops-clear g =
      let l = next-length in
      let w : bit_and (value next) 9259542123273814144 ≡ tops next = wider 8 next next-bytes (omega arith) in
      let z = low_zeros next next-bytes in
      let t = low_take n (drop at s) in
      same (eqb (bit_and (value next) 9259542123273814144) 0) (leb (at + n) (ascii_end s at))
      (λ e.
      let c = ap (count_trailing_zeros (8 * length next)) (sym w ∙ eqb-true (bit_and (value next) 9259542123273814144) 0 e) ∙ trailing_of_zero (8 * length next) in
      le-leb (at + n) (ascii_end s at) (omega arith))
      (λ e.
      let b = leb-true (at + n) (ascii_end s at) e in
      eq-eqb (bit_and (value next) 9259542123273814144) 0 (w ∙ all-clear next next-bytes (omega arith)))

pub tops-first : (s : List ℕ) (at : ℕ) → Bytes s → at + 8 ≤ length s → at + count_trailing_zeros 64 (bit_and (value (take 8 (drop at s))) 9259542123273814144) / 8 ≡ min (at + 8) (ascii_end s at)
unfolding value
tops-first s at p h = omega (arith, next-zeros 8 s at p h, low_take 8 (drop at s))

-- words that are put together are clear where each is
pub both_clear : (a t i e e' : ℕ) → eqb a 0 ≡ leb i e → eqb t 0 ≡ leb (i + 8) e' → (i ≤ e → e ≡ e') → eqb (bit_or a t) 0 ≡ leb (i + 8) e
both_clear a t i e e' p q same_end =
    let l = le_or_l a t in
    let r = le_or_r a t in
    same (eqb (bit_or a t) 0) (leb (i + 8) e)
    (λ z.
    let o = eqb-true (bit_or a t) 0 z in
    let x = leb-true i e (sym p ∙ eq-eqb a 0 (omega arith)) in
    let y = leb-true (i + 8) e' (sym q ∙ eq-eqb t 0 (omega arith)) in
    le-leb (i + 8) e (omega (arith, same_end x)))
    (λ z.
    let w = leb-true (i + 8) e z in
    let x : i ≤ e = omega arith in
    let y = eqb-true a 0 (p ∙ le-leb i e x) in
    let v = eqb-true t 0 (q ∙ le-leb (i + 8) e' (omega (arith, same_end x))) in
    eq-eqb (bit_or a t) 0 (ap (λ (n : ℕ). bit_or n t) y ∙ or_zero_l t ∙ v))
