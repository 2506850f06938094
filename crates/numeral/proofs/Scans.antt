-- What the definitions of a text say of its first characters: zeros at the front, the sign, digits, and what follows them.
-- Assumes nothing.
use Prim.Native.Nat.{ℕ, zero, suc, ◌≤◌}
use mathlib.Core.Path.{◌≡◌, refl}
use mathlib.Core.Bool.{Bool, true, false, cond}
use mathlib.Core.List.{List, [], ◌∷◌}
use native.Mathlib.Numerals.{one-add}
use native.Mathlib.Omega.{arith}
use lib.Dec.{eqb, leb}
use lib.ListN.{length, take, drop}
use lib.Seq.{take-length}
use borrow.Author.Tests.{leb-true, eqb-true}
use Rattle.std.specs.List.{prefix_len}
use Rattle.groups.proofs.Accept.{both_true}
use Rattle.numeral.specs.Read.{is_digit, run, pointed}
use Rattle.numeral.specs.Course.{AllDigits}

-- ---- digits
pub run-prefix : (xs : List ℕ) → run xs ≡ prefix_len is_digit xs
unfolding run
run-prefix [] = refl
run-prefix (x ∷ xs) = rw (run-prefix xs, one-add) refl

pub run-le : (xs : List ℕ) → run xs ≤ length xs
unfolding run
run-le [] = omega arith
run-le (x ∷ xs) = go (is_digit x) (run-le xs)
  where
    go : (b : Bool) → run xs ≤ length xs → cond b (suc (run xs)) 0 ≤ suc (length xs)
    go true h = omega arith
    go false h = omega arith

-- a digit's character
abbrev Figure : ℕ → Type 0
Figure c = (48 ≤ c) × (c ≤ 57)

figure : (c : ℕ) → is_digit c ≡ true → Figure c
figure c e = let b = both_true (leb 48 c) (leb c 57) e in (leb-true 48 c b.0, leb-true c 57 b.1)

-- the digits that a text begins with are digits
pub run-digits : (xs : List ℕ) → AllDigits (take (run xs) xs)
unfolding run
run-digits [] k h = absurd (omega arith)
run-digits (x ∷ xs) k h = go (is_digit x) refl (run-digits xs) k h
  where
    go : (b : Bool) → is_digit x ≡ b → AllDigits (take (run xs) xs) → AllDigits (take (cond b (suc (run xs)) 0) (x ∷ xs))
    go true e r zero h = figure x e
    go true e r (suc k) h = r k (omega arith)
    go false e r k h = absurd (omega arith)

all-digits : (xs : List ℕ) → run xs ≡ length xs → AllDigits xs
all-digits xs e = rw (e, take-length xs) at (run-digits xs)

-- ---- what follows the digits
pub pointed-digits : (xs : List ℕ) → pointed xs ≡ true → AllDigits (drop 1 xs)
unfolding pointed
pointed-digits [] e = λ k h. absurd (omega arith)
pointed-digits (x ∷ xs) e = all-digits xs (eqb-true (run xs) (length xs) (both_true (eqb x 46) (eqb (run xs) (length xs)) e).1)
