-- The laws of `value`, for every width and every list, also one that ends early.
-- Assumes nothing.
use mathlib.Core.Path.{◌≡◌, refl, ap, ◌∙◌}
use mathlib.Core.List.{List, [], ◌∷◌}
use Prim.Native.Nat.{ℕ, zero, suc, ◌+◌, ◌*◌, ◌^◌, ◌≤◌, ◌<◌}
use native.Mathlib.Nat.{zero-add, suc-add, pow-succ', mul_assoc, pow-le-pow_right}
use native.Mathlib.Omega.{arith}
use lib.ListN.{length, get_or, take, drop, length-drop}
use lib.Seq.{take-nil, drop-nil, drop-drop}
use Rattle.raw.specs.Numbers.{value}

-- v + w bytes are v, and w above them
split-front : (v w : ℕ) (l : List ℕ) → value (take (v + w) l) ≡ value (take v l) + 256 ^ v * value (take w (drop v l))
unfolding value
split-front zero w l = rw zero-add (omega arith)
split-front (suc v) w [] = rw (take-nil, take-nil) (omega arith)
split-front (suc v) w (x ∷ l) =
    let y = value (take w (drop v l)) in
    let e : 256 ^ suc v * y ≡ 256 * (256 ^ v * y) = ap (λ (p : ℕ). p * y) (pow-succ' 256 v) ∙ mul_assoc 256 (256 ^ v) y in
    rw suc-add (omega (arith, e, split-front v w l))

pub value-split : (v w i : ℕ) (l : List ℕ) → value (take (v + w) (drop i l)) ≡ value (take v (drop i l)) + 256 ^ v * value (take w (drop (i + v) l))
value-split v w i l = rw (← drop-drop v i l) (split-front v w (drop i l))

pub value-one : (i : ℕ) (l : List ℕ) → value (take 1 (drop i l)) ≡ get_or l i 0
unfolding value
value-one i [] = rw drop-nil
value-one zero (x ∷ l) = omega arith
value-one (suc i) (x ∷ l) = value-one i l

-- one byte more in front
more-front : (j : ℕ) (l : List ℕ) → value (drop j l) ≡ get_or l j 0 + 256 * value (drop (suc j) l)
unfolding value
more-front j [] = rw drop-nil (omega arith)
more-front zero (x ∷ l) = omega arith
more-front (suc j) (x ∷ l) = more-front j l

pub value-next : (i j : ℕ) (l : List ℕ) → suc j ≡ i → value (drop j l) ≡ get_or l j 0 + 256 * value (drop i l)
value-next i j l e = rw (← e) (more-front j l)

pub value-end : (l : List ℕ) → value (drop (length l) l) ≡ 0
unfolding value
value-end [] = refl
value-end (x ∷ l) = value-end l

-- ---- bounds
abbrev pub Bytes : List ℕ → Type 0
Bytes l = (k : ℕ) → get_or l k 0 < 256

pub bytes_drop : (i : ℕ) (l : List ℕ) → Bytes l → Bytes (drop i l)
bytes_drop zero l p = p
bytes_drop (suc i) [] p = p
bytes_drop (suc i) (x ∷ l) p = bytes_drop i l (λ k. p (suc k))

pub bytes_take : (n : ℕ) (l : List ℕ) → Bytes l → Bytes (take n l)
bytes_take zero l p k = omega arith
bytes_take (suc n) [] p k = p k
bytes_take (suc n) (x ∷ l) p zero = p 0
bytes_take (suc n) (x ∷ l) p (suc k) = bytes_take n l (λ j. p (suc j)) k

below_length : (l : List ℕ) → Bytes l → value l < 256 ^ length l
unfolding value
below_length [] p = omega arith
below_length (x ∷ l) p = omega (arith, p 0, pow-succ' 256 (length l), below_length l (λ k. p (suc k)))

pub value-below : (w : ℕ) (l : List ℕ) → Bytes l → length l ≤ w → value l < 256 ^ w
value-below w l p h = omega (arith, below_length l p, pow-le-pow_right {n = 256} (omega arith) {i = length l} {j = w} h)

pub value_drop_below : (w i : ℕ) (l : List ℕ) → Bytes l → length l ≤ w → value (drop i l) < 256 ^ w
value_drop_below w i l p h = value-below w (drop i l) (bytes_drop i l p) (rw length-drop (omega arith))
