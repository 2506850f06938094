-- The plain text of a printed number is that of its digits without the zeros that do not count, and can be taken apart again: no digit is a point or a minus.
-- Assumes nothing.
use mathlib.Core.Path.{◌≡◌, refl, sym, ap, ◌∙◌}
use mathlib.Core.Bool.{Bool, true, false}
use mathlib.Core.List.{List, [], ◌∷◌, ◌++◌, map, append-nil, append_cancel_left}
use Prim.Native.Nat.{ℕ}
use native.Mathlib.Omega.{arith}
use lib.Dec.{eqb, lit<}
use lib.ListN.{get_or, drop}
use Rattle.std.proofs.lemmas.Bool.Decides.{nat_tests}
use Rattle.printing.specs.Print.{show, sign_text}
use Rattle.numeral.specs.Read.{digit_of}
use Rattle.decimal_laws.proofs.Reparsed.{tail_of, show-zero, shown, after_tail, no_sign}
use Rattle.order_laws.specs.Plain.{without_front, without_end, without_last_point, is_empty, before_point, from_point, plain_number, plain}

-- ---- the parts
pub before-shown : (xs ys : List ℕ) → before_point (map show xs ++ tail_of ys) ≡ map show xs
unfolding before_point
before-shown [] [] = refl
before-shown [] (y ∷ ys) = refl
before-shown (x ∷ xs) ys = rw (no_sign x 46 (lit< tt), before-shown xs ys)

pub from-shown : (xs ys : List ℕ) → from_point (map show xs ++ tail_of ys) ≡ tail_of ys
unfolding from_point
from-shown [] [] = refl
from-shown [] (y ∷ ys) = refl
from-shown (x ∷ xs) ys = rw (no_sign x 46 (lit< tt), from-shown xs ys)

-- ---- without zeros
front-shown : (xs : List ℕ) → without_front 48 (map show xs) ≡ map show (without_front 0 xs)
unfolding without_front
front-shown [] = refl
front-shown (x ∷ xs) = rw (show-zero x, front-shown xs) (grind (arith, nat_tests))

empty-shown : (xs : List ℕ) → is_empty (map show xs) ≡ is_empty xs
empty-shown [] = refl
empty-shown (x ∷ xs) = refl

end-shown : (xs : List ℕ) → without_end 48 (map show xs) ≡ map show (without_end 0 xs)
unfolding without_end
end-shown [] = refl
end-shown (x ∷ xs) = rw (show-zero x, end-shown xs, empty-shown (without_end 0 xs)) (grind (arith, nat_tests))

-- ---- without a last point
last-shown : (xs rest : List ℕ) → without_last_point (map show xs ++ rest) ≡ map show xs ++ without_last_point rest
unfolding without_last_point
last-shown [] rest = refl
last-shown (x ∷ xs) rest = rw (no_sign x 46 (lit< tt), last-shown xs rest)

last_digits : (xs : List ℕ) → without_last_point (map show xs) ≡ map show xs
unfolding without_last_point
last_digits xs = ap without_last_point (sym (append-nil (map show xs))) ∙ last-shown xs [] ∙ append-nil (map show xs)

last_of : (ys : List ℕ) → without_last_point (46 ∷ map show ys) ≡ tail_of ys
unfolding without_last_point
last_of [] = refl
last_of (y ∷ ys) = ap (λ (bs : List ℕ). 46 ∷ bs) (last_digits (y ∷ ys))

-- the zeros of the fraction, and then its point
fraction-ends : (ys : List ℕ) → without_last_point (without_end 48 (tail_of ys)) ≡ tail_of (without_end 0 ys)
unfolding without_end without_last_point
fraction-ends [] = refl
fraction-ends (y ∷ ys) = ap (λ (bs : List ℕ). without_last_point (46 ∷ bs)) (end-shown (y ∷ ys)) ∙ last_of (without_end 0 (y ∷ ys))

-- ---- the text of a sign and digits
number-shown : (xs ys : List ℕ) → plain_number (map show xs ++ tail_of ys) ≡ map show (without_front 0 xs) ++ tail_of (without_end 0 ys)
unfolding plain_number
number-shown xs ys =
    rw (before-shown xs ys, from-shown xs ys, front-shown xs, last-shown (without_front 0 xs) (without_end 48 (tail_of ys)), fraction-ends ys)

no_minus : (xs ys : List ℕ) → plain (map show xs ++ tail_of ys) ≡ plain_number (map show xs ++ tail_of ys)
unfolding plain without_front without_end
no_minus [] [] = sym (number-shown [] [])
no_minus [] (y ∷ ys) = refl
no_minus (x ∷ xs) ys = rw (no_sign x 45 (lit< tt))

pub plain-shown : (neg : Bool) (xs ys : List ℕ)
    → plain (sign_text neg ++ (map show xs ++ tail_of ys)) ≡ sign_text neg ++ (map show (without_front 0 xs) ++ tail_of (without_end 0 ys))
unfolding plain
plain-shown true xs ys = ap (λ (bs : List ℕ). 45 ∷ bs) (number-shown xs ys)
plain-shown false xs ys = no_minus xs ys ∙ number-shown xs ys

-- ---- taken apart again
abbrev texted : Bool → List ℕ → List ℕ → List ℕ
texted neg ws fs = sign_text neg ++ (map show ws ++ tail_of fs)

sign-told : (neg : Bool) (ws fs : List ℕ) → eqb (get_or (texted neg ws fs) 0 0) 45 ≡ neg
sign-told true ws fs = refl
sign-told false [] [] = refl
sign-told false [] (f ∷ fs) = refl
sign-told false (w ∷ ws) fs = no_sign w 45 (lit< tt)

tail-told : (ys : List ℕ) → map digit_of (drop 1 (tail_of ys)) ≡ ys
tail-told ys = ap (map digit_of) (after_tail ys) ∙ shown ys

-- A plain text tells its sign, its integral digits and its fraction.
pub taken-apart : (m n : Bool) (ws xs fs ys : List ℕ) → texted m ws fs ≡ texted n xs ys → (m ≡ n) × (ws ≡ xs) × (fs ≡ ys)
taken-apart m n ws xs fs ys e =
    let q : m ≡ n = sym (sign-told m ws fs) ∙ ap (λ (bs : List ℕ). eqb (get_or bs 0 0) 45) e ∙ sign-told n xs ys in
    let d : map show ws ++ tail_of fs ≡ map show xs ++ tail_of ys = append_cancel_left (sign_text n) _ _ (rw q at e) in
    let i = sym (before-shown ws fs) ∙ ap before_point d ∙ before-shown xs ys in
    let f = sym (from-shown ws fs) ∙ ap from_point d ∙ from-shown xs ys in
    (q, sym (shown ws) ∙ ap (map digit_of) i ∙ shown xs, sym (tail-told fs) ∙ ap (λ (bs : List ℕ). map digit_of (drop 1 bs)) f ∙ tail-told ys)
