-- What a numeral that was read holds: digits below 10, as many as the limits allow. Its text consists of digits and a point, by the definition.
-- Assumes nothing.
use mathlib.Core.Path.{◌≡◌, refl, subst}
use mathlib.Core.Bool.{Bool, true, false, cond}
use mathlib.Core.List.{List, [], ◌∷◌, map, map-append}
use Prim.Native.Nat.{ℕ, zero, suc, ◌+◌, ◌≤◌, ◌<◌}
use native.Mathlib.Omega.{arith}
use lib.Dec.{leb, eqb, lit<}
use lib.ListN.{length, get_or, take, drop}
use lib.Seq.{take-length}
use borrow.Author.Tests.{leb-true, eqb-true}
use Rattle.std.specs.Prelude.{Ok, Err}
use Rattle.refusal.specs.declared.Refusal.TheVariants as refusal
use Rattle.groups.specs.Numbers.{Below}
use Rattle.groups.proofs.Accept.{both_true}
use Rattle.groups.proofs.Radix.{below-append}
use Rattle.numeral.specs.Read.{Numeral, is_digit, run, pointed, whole_part, fraction_part, is_text, few_digits, digit_of, digits_in, numeral_of, minus, strip, unsigned, read_unsigned, read_text}

-- ---- digits
digit_lt : (c : ℕ) → is_digit c ≡ true → digit_of c < 10
digit_lt c e = let b = both_true (leb 48 c) (leb c 57) e in let l = leb-true c 57 b.1 in omega arith

run-below : (xs : List ℕ) → Below 10 (map digit_of (take (run xs) xs))
unfolding run
run-below [] = λ k. lit< tt
run-below (x ∷ xs) = go (is_digit x) refl (run-below xs)
  where
    more : is_digit x ≡ true → Below 10 (map digit_of (take (run xs) xs)) → (k : ℕ) → get_or (digit_of x ∷ map digit_of (take (run xs) xs)) k 0 < 10
    more e h zero = digit_lt x e
    more e h (suc k) = h k

    go : (t : Bool) → is_digit x ≡ t → Below 10 (map digit_of (take (run xs) xs)) → Below 10 (map digit_of (take (cond t (suc (run xs)) 0) (x ∷ xs)))
    go true e h = more e h
    go false e h = λ k. lit< tt

all-below : (xs : List ℕ) → run xs ≡ length xs → Below 10 (map digit_of xs)
all-below xs e = rw (e, take-length xs) at (run-below xs)

after-point : (xs : List ℕ) → pointed xs ≡ true → Below 10 (map digit_of (drop 1 xs))
unfolding pointed
after-point [] e = λ k. lit< tt
after-point (x ∷ xs) e = all-below xs (eqb-true (run xs) (length xs) (both_true (eqb x 46) (eqb (run xs) (length xs)) e).1)

text-below : (xs : List ℕ) → is_text xs ≡ true → Below 10 (digits_in xs)
unfolding is_text digits_in
text-below xs e =
    let p = (both_true (pointed (drop (run xs) xs)) _ e).0 in
    rw (map-append digit_of (whole_part xs) (fraction_part xs)) (below-append 10 (map digit_of (whole_part xs)) (map digit_of (fraction_part xs)) (run-below xs) (after-point (drop (run xs) xs) p))

-- ---- what is read
abbrev pub Within : Numeral → Type 0
Within t = (t.frac ≤ 30) × ((t.intg + t.frac ≤ 65) × Below 10 t.digits)

few : (i f : ℕ) → few_digits i f ≡ true → (f ≤ 30) × (i + f ≤ 65)
unfolding few_digits
few i f h = let b = both_true (leb (i + f) 65) (leb f 30) h in (leb-true f 30 b.1, leb-true (i + f) 65 b.0)

unsigned-within : (neg : Bool) (xs : List ℕ) (t : Numeral) → read_unsigned neg xs ≡ Ok t → Within t
unfolding read_unsigned
unsigned-within neg xs t e = go (is_text xs) (few_digits (length (whole_part xs)) (length (fraction_part xs))) (text-below xs) (few (length (whole_part xs)) (length (fraction_part xs))) e
  where
    go : (p q : Bool) → (p ≡ true → Below 10 (digits_in xs)) → (q ≡ true → (length (fraction_part xs) ≤ 30) × (length (whole_part xs) + length (fraction_part xs) ≤ 65))
        → cond p (cond q (Ok (numeral_of neg xs)) (Err refusal.Digits)) (Err refusal.Text) ≡ Ok t → Within t
    go true true h k e = let z : numeral_of neg xs ≡ t = cc in subst Within z ((k refl).0, ((k refl).1, h refl))
    go true false h k e = absurd (cc)
    go false q h k e = absurd (cc)

pub read-within : (bs : List ℕ) (t : Numeral) → read_text bs ≡ Ok t → Within t
unfolding read_text
read-within bs t e = unsigned-within (minus (strip bs)) (unsigned (strip bs)) t e
