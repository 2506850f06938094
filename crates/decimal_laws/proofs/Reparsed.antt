-- A text of shown digits, with a point and shown digits after it or without, reads as those digits: only zeros at its front may go.
-- Assumes nothing.
use mathlib.Core.Path.{◌≡◌, refl, ap}
use mathlib.Core.Bool.{Bool, true, false, cond}
use mathlib.Core.List.{List, [], ◌∷◌, ◌++◌, map, map-append, append-nil}
use Prim.Native.Nat.{ℕ, suc, ◌+◌, ◌-◌, ◌≤◌, ◌<◌}
use native.Mathlib.Nat.{not-suc-le-zero}
use native.Mathlib.Omega.{arith}
use lib.Dec.{eqb, lit<}
use lib.ListN.{length, get_or, take, drop, length-map}
use lib.Seq.{take_at, drop_at}
use borrow.Author.Tests.{le-leb, eq-eqb, eqb-true}
use Rattle.std.specs.Prelude.{Ok}
use Rattle.groups.specs.Numbers.{both, Below}
use Rattle.std.proofs.lemmas.Bool.Decides.{nat_tests}
use Rattle.groups.proofs.Accept.{both_true}
use Rattle.numeral.specs.Read.{strip, minus, unsigned, is_digit, run, pointed, whole_part, fraction_part, is_text, few_digits}
use Rattle.numeral.specs.Read.{digit_of, digits_in, read_unsigned, read_text}
use Rattle.printing.specs.Print.{show, sign_text}
use Rattle.decimal_laws.proofs.Trimmed.{Trimmed, trimmed-length, trim-none, bare, bare-trims}

-- ---- the character of a digit
show-digit : (x : ℕ) → x < 10 → is_digit (show x) ≡ true
show-digit x h = grind (arith, nat_tests)

pub show-zero : (x : ℕ) → eqb (show x) 48 ≡ eqb x 0
show-zero x = grind (arith, nat_tests)

pub shown : (xs : List ℕ) → map digit_of (map show xs) ≡ xs
shown [] = refl
shown (x ∷ xs) = let e : x + 48 - 48 ≡ x = omega arith in rw (e, shown xs)

-- ---- digits, and after them nothing, or a point and digits
abbrev pub tail_of : List ℕ → List ℕ
tail_of [] = []
tail_of (y ∷ ys) = 46 ∷ map show (y ∷ ys)

run-shown : (xs rest : List ℕ) → Below 10 xs → run rest ≡ 0 → run (map show xs ++ rest) ≡ length xs
unfolding run
run-shown [] rest h e = e
run-shown (x ∷ xs) rest h e = simp (show-digit x (h 0)) (ap suc (run-shown xs rest (λ k. h (suc k)) e))

run-tail : (ys : List ℕ) → run (tail_of ys) ≡ 0
unfolding run
run-tail [] = refl
run-tail (y ∷ ys) = refl

run-all : (xs : List ℕ) → Below 10 xs → run (map show xs) ≡ length xs
run-all xs h = rw append-nil at (run-shown xs [] h (run-tail []))

pointed-tail : (ys : List ℕ) → Below 10 ys → pointed (tail_of ys) ≡ true
unfolding pointed
pointed-tail [] h = refl
pointed-tail (y ∷ ys) h =
    let n = length-map ys show in
    let r = run-all (y ∷ ys) h in
    eq-eqb (run (map show (y ∷ ys))) (suc (length (map show ys))) (omega arith)

pub after_tail : (ys : List ℕ) → drop 1 (tail_of ys) ≡ map show ys
after_tail [] = refl
after_tail (y ∷ ys) = refl

-- ---- the sign and the zeros before the digits
both-no : (b : Bool) → both b false ≡ false
both-no true = refl
both-no false = refl

strip-shown : (xs ys : List ℕ) → strip (map show xs ++ tail_of ys) ≡ map show (bare xs) ++ tail_of ys
unfolding strip bare
strip-shown [] [] = refl
strip-shown [] (y ∷ ys) = refl
strip-shown (x ∷ []) [] = refl
strip-shown (x ∷ []) (y ∷ ys) = simp (both-no (eqb (show x) 48))
strip-shown (x ∷ w ∷ xs) ys = simp (show-zero x, show-zero w) (go (both (eqb x 0) (eqb w 0)) (strip-shown (w ∷ xs) ys))
  where
    go : (b : Bool) → strip (show w ∷ map show xs ++ tail_of ys) ≡ map show (bare (w ∷ xs)) ++ tail_of ys
        → cond b (strip (show w ∷ map show xs ++ tail_of ys)) (show x ∷ show w ∷ map show xs ++ tail_of ys)
        ≡ map show (cond b (bare (w ∷ xs)) (x ∷ w ∷ xs)) ++ tail_of ys
    go true e = e
    go false e = refl

strip-minus : (xs : List ℕ) → strip (45 ∷ xs) ≡ 45 ∷ xs
unfolding strip
strip-minus [] = refl
strip-minus (x ∷ xs) = refl

-- the digits that are read: behind a minus all of them, else those that are left once it no more begins "00"
abbrev pub read_from : Bool → List ℕ → List ℕ
read_from true xs = xs
read_from false xs = bare xs

strip-text : (neg : Bool) (xs ys : List ℕ) → strip (sign_text neg ++ (map show xs ++ tail_of ys)) ≡ sign_text neg ++ (map show (read_from neg xs) ++ tail_of ys)
strip-text true xs ys = strip-minus _
strip-text false xs ys = strip-shown xs ys

pub no_sign : (x c : ℕ) → c < 48 → eqb (show x) c ≡ false
no_sign x c h = grind (arith, nat_tests)

minus-text : (neg : Bool) (xs rest : List ℕ) → 1 ≤ length xs → minus (sign_text neg ++ (map show xs ++ rest)) ≡ neg
unfolding minus
minus-text true xs rest h = refl
minus-text false [] rest h = absurd (not-suc-le-zero h)
minus-text false (x ∷ xs) rest h = no_sign x 45 (lit< tt)

unsigned-text : (neg : Bool) (xs rest : List ℕ) → 1 ≤ length xs → unsigned (sign_text neg ++ (map show xs ++ rest)) ≡ map show xs ++ rest
unfolding unsigned
unsigned-text true xs rest h = refl
unsigned-text false [] rest h = absurd (not-suc-le-zero h)
unsigned-text false (x ∷ xs) rest h = simp (no_sign x 45 (lit< tt), no_sign x 43 (lit< tt))

pub read-trims : (neg : Bool) (xs : List ℕ) → 1 ≤ length xs → Trimmed xs (read_from neg xs)
read-trims true xs h = trim-none xs h
read-trims false xs h = bare-trims xs h

-- ---- the parts, and what is read
module _ (xs ys : List ℕ) (hx : Below 10 xs) (hy : Below 10 ys) where
  run-text : run (map show xs ++ tail_of ys) ≡ length xs
  run-text = run-shown xs (tail_of ys) hx (run-tail ys)

  behind-digits : drop (length xs) (map show xs ++ tail_of ys) ≡ tail_of ys
  behind-digits = drop_at (map show xs) (tail_of ys) (length xs) (length-map xs show)

  whole-text : whole_part (map show xs ++ tail_of ys) ≡ map show xs
  whole-text = rw run-text (take_at (map show xs) (tail_of ys) (length xs) (length-map xs show))

  fraction-text : fraction_part (map show xs ++ tail_of ys) ≡ map show ys
  fraction-text = rw (run-text, behind-digits) (after_tail ys)

  digits-text : digits_in (map show xs ++ tail_of ys) ≡ xs ++ ys
  unfolding digits_in
  digits-text = rw (whole-text, fraction-text, map-append, shown xs, shown ys)

  is-text : 1 ≤ length xs → is_text (map show xs ++ tail_of ys) ≡ true
  unfolding is_text
  is-text h =
      let n = length-map xs show in
      let l = le-leb 1 (length (map show xs) + length (map show ys)) (omega arith) in
      rw (whole-text, fraction-text, run-text, behind-digits) (simp (pointed-tail ys hy, l))

  read-unsigned : (neg : Bool) → 1 ≤ length xs → length xs + length ys ≤ 65 → length ys ≤ 30
      → read_unsigned neg (map show xs ++ tail_of ys)
      ≡ Ok (record { negative = neg; intg = length xs; frac = length ys; digits = xs ++ ys })
  unfolding read_unsigned few_digits
  read-unsigned neg h l m =
      simp (is-text h, whole-text, fraction-text, length-map xs show, length-map ys show, le-leb _ _ l, le-leb _ _ m, digits-text)

-- Reading a printed text: zeros at the front may be gone, and all else is as it was printed.
pub read-printed : (neg : Bool) (xs ys : List ℕ) → Below 10 (read_from neg xs) → Below 10 ys → 1 ≤ length (read_from neg xs)
    → length (read_from neg xs) + length ys ≤ 65 → length ys ≤ 30
    → read_text (sign_text neg ++ (map show xs ++ tail_of ys))
    ≡ Ok (record { negative = neg; intg = length (read_from neg xs); frac = length ys; digits = read_from neg xs ++ ys })
unfolding read_text
read-printed neg xs ys hx hy h l m =
    let zs = read_from neg xs in
    rw (strip-text neg xs ys, minus-text neg zs (tail_of ys) h, unsigned-text neg zs (tail_of ys) h) (read-unsigned zs ys hx hy neg h l m)

-- ---- a text that begins "00"
pub not_zeros : (xs ys : List ℕ) → (take 2 (map show xs ++ tail_of ys) ≡ 48 ∷ 48 ∷ [] → ⊥) → bare xs ≡ xs
unfolding bare
not_zeros [] ys h = refl
not_zeros (x ∷ []) ys h = refl
not_zeros (x ∷ w ∷ xs) ys h = go (both (eqb x 0) (eqb w 0)) refl
  where
    go : (b : Bool) → both (eqb x 0) (eqb w 0) ≡ b → cond b (bare (w ∷ xs)) (x ∷ w ∷ xs) ≡ x ∷ w ∷ xs
    go true e = let t = both_true _ _ e in absurd (h (rw (eqb-true x 0 t.0, eqb-true w 0 t.1)))
    go false e = refl

pub zeros-go : (xs ys : List ℕ) → 1 ≤ length xs → take 2 (map show xs ++ tail_of ys) ≡ 48 ∷ 48 ∷ [] → length (bare xs) < length xs
unfolding bare
zeros-go [] ys h e = absurd (not-suc-le-zero h)
zeros-go (x ∷ []) [] h e = let q : ◌≡◌ {A = ℕ} 1 2 = ap length e in omega arith
zeros-go (x ∷ []) (y ∷ ys) h e = let q : ◌≡◌ {A = ℕ} 46 48 = ap (λ (zs : List ℕ). get_or zs 1 0) e in omega arith
zeros-go (x ∷ w ∷ xs) ys h e =
    let p : x + 48 ≡ 48 = ap (λ (zs : List ℕ). get_or zs 0 0) e in
    let q : w + 48 ≡ 48 = ap (λ (zs : List ℕ). get_or zs 1 0) e in
    let t = trimmed-length (bare-trims (w ∷ xs) (omega arith)) in
    simp (eq-eqb x 0 (omega arith), eq-eqb w 0 (omega arith)) (omega arith)
