-- Digits without some zeros at their front write the same number; printing and parsing both leave out such zeros, and never the last digit.
-- Assumes nothing.
use mathlib.Core.Path.{◌≡◌, refl, sym, ap, ◌∙◌}
use mathlib.Core.Bool.{Bool, true, false, cond}
use mathlib.Core.List.{List, [], ◌∷◌, ◌++◌, append_assoc}
use Prim.Native.Nat.{ℕ, zero, suc, ◌+◌, ◌≤◌, max}
use native.Mathlib.Nat.{not-suc-le-zero, zero-mul, zero-add}
use native.Mathlib.Omega.{arith}
use lib.Dec.{eqb, lit<}
use lib.ListN.{length, take, drop, replicate, take-append-drop, length-append, length-replicate}
use lib.Seq.{get_or-append-add, length-take-le, take-take}
use borrow.Author.Tests.{eqb-true, ne_eqb}
use Rattle.groups.specs.Numbers.{number, both, Below}
use Rattle.groups.specs.Layout.{side, groups_of}
use Rattle.groups.proofs.Accept.{both_true}
use Rattle.groups.proofs.Opened.{below-take}
use Rattle.printing.specs.Print.{unpadded, first_digits, whole_digits}
use Rattle.order.proofs.Lex.{zeros-before}

-- zs is xs without `zeros` zeros at the front, and a digit is left
pub record Trimmed (xs zs : List ℕ) : Type 0 where
  pub zeros : ℕ
  pub is : xs ≡ replicate zeros 0 ++ zs
  pub some : 1 ≤ length zs

-- ---- what that tells
module _ {xs zs : List ℕ} (t : Trimmed xs zs) where
  pub trimmed-number : (ys : List ℕ) → number 10 (zs ++ ys) ≡ number 10 (xs ++ ys)
  trimmed-number ys = rw (t.is, append_assoc, zeros-before 10)

  trimmed-size : length xs ≡ t.zeros + length zs
  trimmed-size = ap length t.is ∙ length-append (replicate t.zeros 0) zs ∙ rw (length-replicate {A = ℕ} t.zeros 0)

  pub trimmed-length : length zs ≤ length xs
  trimmed-length = let e = trimmed-size in omega arith

  pub trimmed-same : length zs ≡ length xs → zs ≡ xs
  trimmed-same h =
      let e = trimmed-size in
      let z : t.zeros ≡ 0 = omega arith in
      sym (t.is ∙ rw z)

  pub trimmed-below : Below 10 xs → Below 10 zs
  trimmed-below h k = rw (t.is, get_or-append-add (replicate t.zeros 0) zs k 0) at (h (length (replicate {A = ℕ} t.zeros 0) + k))

-- ---- how it comes about
pub trim-none : (xs : List ℕ) → 1 ≤ length xs → Trimmed xs xs
trim-none xs h = record { zeros = 0; is = refl; some = h }

-- one zero more, or none
trim-if : (x : ℕ) (xs zs : List ℕ) (b : Bool) → (b ≡ true → x ≡ 0) → Trimmed xs zs → Trimmed (x ∷ xs) (cond b zs (x ∷ xs))
trim-if x xs zs true h t = record { zeros = suc t.zeros; is = rw (h refl, ← t.is); some = t.some }
trim-if x xs zs false h t = trim-none (x ∷ xs) (omega arith)

trim-more : (xs zs ys : List ℕ) → Trimmed xs zs → Trimmed (xs ++ ys) (zs ++ ys)
trim-more xs zs ys t =
    record { zeros = t.zeros; is = rw (t.is, append_assoc); some = (let e = length-append zs ys in let s = t.some in omega arith) }

-- ---- printing: the integral digits
unpadded-trims : (xs : List ℕ) → 1 ≤ length xs → Trimmed xs (unpadded xs)
unfolding unpadded
unpadded-trims [] h = absurd (not-suc-le-zero h)
unpadded-trims (x ∷ []) h = trim-none (x ∷ []) h
unpadded-trims (x ∷ y ∷ xs) h = trim-if x (y ∷ xs) _ (eqb x 0) (eqb-true x 0) (unpadded-trims (y ∷ xs) (omega arith))

first_fits : (i : ℕ) → 1 ≤ i → (1 ≤ first_digits i) × (first_digits i ≤ i)
unfolding side groups_of
first_fits i h = omega arith

pub whole-trims : (i : ℕ) (ds : List ℕ) → 1 ≤ i → i ≤ length ds → Trimmed (take i ds) (whole_digits i ds)
unfolding whole_digits
whole-trims i ds h l =
    let w = first_digits i in
    let b = first_fits i h in
    let A = take w ds in
    let B = drop w (take i ds) in
    let n : length A ≡ w = length-take-le w ds (omega arith) in
    let q : take i ds ≡ A ++ B = sym (take-append-drop w (take i ds)) ∙ rw (take-take w i ds b.1) in
    simp (ne_eqb i 0 (λ (e : i ≡ 0). omega arith)) (rw (← q) at (trim-more A (unpadded A) B (unpadded-trims A (rw n b.0))))

-- with the case of no integral digit, where a 0 is printed
whole-none : (ds : List ℕ) → whole_digits 0 ds ≡ 0 ∷ []
unfolding whole_digits
whole-none ds = refl

pub whole-number : (i : ℕ) (ds : List ℕ) → i ≤ length ds → number 10 (whole_digits i ds ++ drop i ds) ≡ number 10 ds
unfolding number
whole-number zero ds l = rw (whole-none ds) (rw (zero-mul, zero-add))
whole-number (suc i) ds l = trimmed-number (whole-trims (suc i) ds (omega arith) l) (drop (suc i) ds) ∙ rw take-append-drop

pub whole-some : (i : ℕ) (ds : List ℕ) → i ≤ length ds → 1 ≤ length (whole_digits i ds)
whole-some zero ds l = rw (whole-none ds) (lit< tt)
whole-some (suc i) ds l = (whole-trims (suc i) ds (omega arith) l).some

pub whole-size : (i : ℕ) (ds : List ℕ) → i ≤ length ds → length (whole_digits i ds) ≤ max i 1
whole-size zero ds l = rw (whole-none ds) (lit< tt)
whole-size (suc i) ds l =
    let t = trimmed-length (whole-trims (suc i) ds (omega arith) l) in
    let e = length-take-le (suc i) ds l in
    omega arith

pub whole_below : (i : ℕ) (ds : List ℕ) → i ≤ length ds → Below 10 ds → Below 10 (whole_digits i ds)
whole_below zero ds l h = rw (whole-none ds) zero-below
  where
    zero-below : Below 10 (0 ∷ [])
    zero-below zero = lit< tt
    zero-below (suc k) = lit< tt
whole_below (suc i) ds l h = trimmed-below (whole-trims (suc i) ds (omega arith) l) (below-take 10 (suc i) ds h)

-- ---- parsing: while it begins "00" one zero is removed
unfoldable pub bare : List ℕ → List ℕ
bare [] = []
bare (x ∷ []) = x ∷ []
bare (x ∷ y ∷ xs) = cond (both (eqb x 0) (eqb y 0)) (bare (y ∷ xs)) (x ∷ y ∷ xs)

pub bare-trims : (xs : List ℕ) → 1 ≤ length xs → Trimmed xs (bare xs)
unfolding bare
bare-trims [] h = absurd (not-suc-le-zero h)
bare-trims (x ∷ []) h = trim-none (x ∷ []) h
bare-trims (x ∷ y ∷ xs) h = trim-if x (y ∷ xs) _ (both (eqb x 0) (eqb y 0)) (λ e. eqb-true x 0 (both_true _ _ e).0) (bare-trims (y ∷ xs) (omega arith))
