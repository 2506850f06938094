-- The laws of `number` and `digits`, for every base.
-- Assumes nothing.
use mathlib.Core.Path.{◌≡◌, refl, ap, ◌∙◌}
use mathlib.Core.List.{List, [], ◌∷◌, ◌++◌}
use Prim.Native.Nat.{ℕ, zero, suc, ◌+◌, ◌*◌, ◌/◌, ◌%◌, ◌^◌, ◌≤◌, ◌<◌}
use native.Mathlib.Nat.{le_trans, le-suc, pow-suc, pow-zero, mod-lt, div-add-mod', div-lt_iff_lt-mul}
use native.Mathlib.Omega.{arith}
use native.Mathlib.Numerals.{add-one}
use lib.ListN.{length, get_or, take, drop, length-append, length-drop}
use lib.Seq.{take-suc, get_or-drop}
use lib.Arith.{digits_div, digits_mod}
use Rattle.groups.specs.Numbers.{number, digits, Below}

-- one more digit
pub number-snoc : (b : ℕ) (xs : List ℕ) (y : ℕ) → number b (xs ++ (y ∷ [])) ≡ number b xs * b + y
unfolding number
number-snoc b [] y = simp (pow-zero) (omega arith)
number-snoc b (x ∷ xs) y =
    let e : length (xs ++ (y ∷ [])) ≡ suc (length xs) = length-append xs (y ∷ []) ∙ add-one (length xs) in
    rw (e, pow-suc, number-snoc b xs y) (omega arith)

-- the digits of a list's number are the list
pub digits_number : (b : ℕ) (xs : List ℕ) → Below b xs → (n : ℕ) → n ≤ length xs → digits b n (number b (take n xs)) ≡ take n xs
unfolding digits
digits_number b xs h zero l = refl
digits_number b xs h (suc n) l =
    let y = get_or xs n 0 in
    let m = number b (take n xs) in
    rw (take-suc xs n 0 l, number-snoc b (take n xs) y, digits_div m (h n), digits_mod m (h n), digits_number b xs h n (le_trans (le-suc n) l))

pub length_digits : (b n x : ℕ) → length (digits b n x) ≡ n
unfolding digits
length_digits b zero x = refl
length_digits b (suc n) x = length-append (digits b n (x / b)) (x % b ∷ []) ∙ ap (λ (m : ℕ). m + 1) (length_digits b n (x / b)) ∙ add-one n

-- the number of the digits of a number that n digits hold is that number
pub number_digits : (b n x : ℕ) → 0 < b → x < b ^ n → number b (digits b n x) ≡ x
unfolding digits number
number_digits b zero x p h = let l = rw pow-zero at h in omega arith
number_digits b (suc n) x p h =
    number-snoc b (digits b n (x / b)) (x % b)
    ∙ ap (λ (y : ℕ). y * b + x % b) (number_digits b n (x / b) p ((div-lt_iff_lt-mul p).1 (rw pow-suc at h)))
    ∙ div-add-mod' x b

-- one digit more of those from `at` on
pub more : (b : ℕ) (ps : List ℕ) (at i : ℕ) → at + i < length ps → number b (take (i + 1) (drop at ps)) ≡ number b (take i (drop at ps)) * b + get_or ps (at + i) 0
more b ps at i h =
    let l : i < length (drop at ps) = simp length-drop (omega arith) in
    rw (add-one, take-suc (drop at ps) i 0 l, number-snoc, get_or-drop)

-- ---- bounds of digits
pub one_below : (b x : ℕ) → x < b → Below b (x ∷ [])
one_below b x h zero = h
one_below b x h (suc k) = omega arith

pub below-append : (b : ℕ) (xs ys : List ℕ) → Below b xs → Below b ys → Below b (xs ++ ys)
below-append b [] ys h m k = m k
below-append b (x ∷ xs) ys h m zero = h 0
below-append b (x ∷ xs) ys h m (suc k) = below-append b xs ys (λ j. h (suc j)) m k

pub digits-below : (b n x : ℕ) → 0 < b → Below b (digits b n x)
unfolding digits
digits-below b zero x p k = p
digits-below b (suc n) x p k = below-append b (digits b n (x / b)) (x % b ∷ []) (digits-below b n (x / b) p) (one_below b (x % b) (mod-lt x p)) k
