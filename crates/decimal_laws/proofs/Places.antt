-- What stands at each group's place in the digits of all groups, and that it is what was written there.
-- Assumes nothing.
use mathlib.Core.Path.{◌≡◌, refl, sym, ap, ◌∙◌}
use mathlib.Core.Bool.{Bool, true, false}
use mathlib.Core.Logic.{⊎_elim}
use mathlib.Core.List.{List, [], ◌∷◌, ◌++◌}
use Prim.Native.Nat.{ℕ, zero, suc, ◌+◌, ◌-◌, ◌*◌, ◌/◌, ◌%◌, ◌^◌, ◌≤◌, ◌<◌}
use native.Mathlib.Nat.{not-suc-le-zero, le_of_suc-le-suc, eq-or-lt_of_le, pow-zero, pow-suc, div-add-mod', div-lt_iff_lt-mul, lt_of_lt_of_le, mul-one, mul_assoc, mod-le, le_of_eq, le_refl}
use native.Mathlib.Omega.{arith}
use lib.Dec.{lit<}
use lib.ListN.{length, get_or, take, drop, length-drop, get_or-append}
use lib.Seq.{take-append-le, drop-append-le, take_all, drop_at, get_or-take}
use borrow.Author.Tests.{ltb-true, eqb-true, lt-ltb}
use Rattle.groups.specs.Numbers.{number, digits, all}
use Rattle.groups.specs.Layout.{width, groups_of, side, form_of, base_of, wide_of, digits_at, offset, size_in, Form, Plain, Inverted, Digits}
use Rattle.groups.specs.Read.{group_at, range_at, stored_at, unit_of}
use Rattle.groups.specs.Write.{group_digits, digits_to, well_at, well_groups, digits_ok}
use Rattle.std.proofs.lemmas.Bool.Decides.{nat_tests}
use Rattle.groups.proofs.Accept.{both_true}
use Rattle.groups.proofs.Tab.{all-each}
use Rattle.groups.proofs.Radix.{number_digits, length_digits}
use Rattle.groups.proofs.Widths.{ten-fits, sign_fits}
use Rattle.groups.proofs.Places.{within, offset-more, offset-mono, digits_le}
use Rattle.groups.proofs.Store.{length_to, base-pos}

-- ---- digits of a number
-- the first digit is below m where the number is below m times the weight of its place
pub first-lt : (b n x m : ℕ) → 0 < b → x < m * b ^ n → get_or (digits b (suc n) x) 0 0 < m
unfolding digits
first-lt b zero x m p h =
    let l = rw (pow-zero, mul-one) at h in
    let k = mod-le x b in
    omega arith
first-lt b (suc n) x m p h =
    let q : x < m * b ^ n * b = rw (mul_assoc, ← pow-suc) h in
    rw (get_or-append (digits b (suc n) (x / b)) (x % b ∷ []) 0 0 (rw (length_digits b (suc n) (x / b)) (lit-pos n)))
    (first-lt b n (x / b) m p ((div-lt_iff_lt-mul p).1 q))
  where
    lit-pos : (n : ℕ) → 0 < suc n
    lit-pos n = omega arith

-- ---- places in the digits of all groups
module _ (F : Form) (i f : ℕ) where
  -- what follows does not matter
  pub group-front : (ds rest : List ℕ) → size_in F i f ≤ length ds → (k : ℕ) → k < 9 → group_at F i f (ds ++ rest) k ≡ group_at F i f ds k
  unfolding group_at
  group-front ds rest l k h =
      let o = offset F i f k in
      let w = wide_of F (digits_at i f k) in
      let e = within F i f k h in
      let m : o ≤ length ds = omega arith in
      let n : w ≤ length (drop o ds) = simp length-drop (omega arith) in
      rw (drop-append-le o ds rest m, take-append-le w (drop o ds) rest n)

  pub range_front : (ds rest : List ℕ) → size_in F i f ≤ length ds → (k : ℕ) → k < 9 → range_at F i f (ds ++ rest) k ≡ range_at F i f ds k
  unfolding range_at
  range_front ds rest l k h = rw (group-front ds rest l k h)

  pub stored-front : (ds rest : List ℕ) → size_in F i f ≤ length ds → (k : ℕ) → k < 9 → stored_at F i f (ds ++ rest) k ≡ stored_at F i f ds k
  unfolding stored_at
  stored-front ds rest l k h = rw (group-front ds rest l k h)

  -- the digits of each group stand at its place
  last_written : (gs : List ℕ) (k : ℕ) → take (wide_of F (digits_at i f k)) (drop (offset F i f k) (digits_to F i f gs (suc k))) ≡ group_digits F i f k (get_or gs k 0)
  unfolding digits_to group_digits
  last_written gs k =
      let B = group_digits F i f k (get_or gs k 0) in
      let w = wide_of F (digits_at i f k) in
      rw (drop_at (digits_to F i f gs k) B (offset F i f k) (length_to F i f gs k)) (take_all w B (le_of_eq (length_digits _ w _)))

  earlier : (gs : List ℕ) (m k : ℕ) → k < m
      → take (wide_of F (digits_at i f k)) (drop (offset F i f k) (digits_to F i f gs (suc m))) ≡ take (wide_of F (digits_at i f k)) (drop (offset F i f k) (digits_to F i f gs m))
  unfolding digits_to
  earlier gs m k l =
      let A = digits_to F i f gs m in
      let B = group_digits F i f m (get_or gs m 0) in
      let o = offset F i f k in
      let w = wide_of F (digits_at i f k) in
      let e = length_to F i f gs m in
      let s = offset-more F i f k in
      let q = offset-mono F i f m (k + 1) (omega arith) in
      let n : o ≤ length A = omega arith in
      rw (drop-append-le o A B n, take-append-le w (drop o A) B (simp length-drop (omega arith)))

  pub part-written : (gs : List ℕ) (m k : ℕ) → k < m → take (wide_of F (digits_at i f k)) (drop (offset F i f k) (digits_to F i f gs m)) ≡ group_digits F i f k (get_or gs k 0)
  part-written gs zero k h = absurd (not-suc-le-zero h)
  part-written gs (suc m) k h =
      ⊎_elim (λ (e : k ≡ m). rw (← e) (last_written gs k)) (λ l. earlier gs m k l ∙ part-written gs m k l) (eq-or-lt_of_le (le_of_suc-le-suc h))

-- ---- what was written is read
-- a group's bytes hold every number of its digits
pub holds : (F : Form) (d : ℕ) → d ≤ 9 → 10 ^ d ≤ base_of F ^ wide_of F d
holds Plain d h = ten-fits d h
holds Inverted d h = ten-fits d h
holds Digits d h = le_refl (10 ^ d)

pub each-well : (i f : ℕ) (gs : List ℕ) → well_groups i f gs ≡ true → (k : ℕ) → k < 9 → well_at i f k (get_or gs k 0) ≡ true
unfolding well_groups
each-well i f gs w = all-each (λ k. well_at i f k (get_or gs k 0)) 9 (both_true (digits_ok i f) (all 9 (λ k. well_at i f k (get_or gs k 0))) w).1

module _ (F : Form) (i f : ℕ) (gs : List ℕ) (k : ℕ) (m : k < 9) (w : well_at i f k (get_or gs k 0) ≡ true) where
  split-well : (get_or gs k 0 % unit_of i k (digits_at i f k) ≡ 0) × (get_or gs k 0 / unit_of i k (digits_at i f k) < 10 ^ digits_at i f k)
  unfolding well_at
  split-well = let b = both_true _ _ w in (eqb-true _ _ b.0, ltb-true _ _ b.1)

  pub group-written : group_at F i f (digits_to F i f gs 9) k ≡ get_or gs k 0 / unit_of i k (digits_at i f k)
  unfolding group_at group_digits
  group-written =
      ap (number (base_of F)) (part-written F i f gs 9 k m)
      ∙ number_digits (base_of F) (wide_of F (digits_at i f k)) _ (base-pos F) (lt_of_lt_of_le split-well.1 (holds F (digits_at i f k) (digits_le i f k)))

  pub range-written : range_at F i f (digits_to F i f gs 9) k ≡ true
  unfolding range_at
  range-written = rw group-written (lt-ltb _ _ split-well.1)

  pub stored-written : stored_at F i f (digits_to F i f gs 9) k ≡ get_or gs k 0
  unfolding stored_at
  stored-written =
      let u = unit_of i k (digits_at i f k) in
      let g = get_or gs k 0 in
      let e = div-add-mod' g u in
      let z = split-well.0 in
      ap (λ (n : ℕ). n * u) group-written ∙ omega arith

-- ---- the first byte of a decimal is below 128
-- the first place of a decimal has a digit
first-place : (i f : ℕ) → 1 ≤ i + f → 1 ≤ digits_at i f 0
unfolding digits_at side groups_of
first-place i f h = grind (arith, nat_tests)

width-pos : (d : ℕ) → 1 ≤ d → 1 ≤ width d
unfolding width
width-pos d h = omega arith

top_bit : (d : ℕ) → 1 ≤ d → d ≤ 9 → 10 ^ d ≤ 128 * 256 ^ (width d - 1)
top_bit d l h =
    let p = width-pos d l in
    let e : width d ≡ suc (width d - 1) = omega arith in
    let r : 2 * 10 ^ d ≤ 256 ^ (width d - 1) * 256 = rw (← pow-suc, ← e) (sign_fits d l h) in
    omega arith

-- a decimal's first byte, before it is inverted and its first bit flipped, is below 128
first_of : (F : Form) → base_of F ≡ 256 → ((d : ℕ) → wide_of F d ≡ width d) → (i f : ℕ) (gs : List ℕ) → 1 ≤ i + f → well_at i f 0 (get_or gs 0 0) ≡ true
    → get_or (digits_to F i f gs 9) 0 0 < 128
unfolding group_digits offset
first_of F hb hw i f gs h w =
    let d = digits_at i f 0 in
    let D = digits_to F i f gs 9 in
    let x = get_or gs 0 0 / unit_of i 0 d in
    let l = first-place i f h in
    let n = digits_le i f 0 in
    let e : suc (width d - 1) ≡ width d = (let q = width-pos d l in omega arith) in
    let p : take (width d) D ≡ digits 256 (suc (width d - 1)) x = rw (hw d, hb) at (part-written F i f gs 9 0 (lit< tt)) ∙ rw e in
    let q : get_or D 0 0 ≡ get_or (digits 256 (suc (width d - 1)) x) 0 0 = sym (get_or-take (width d) D 0 0 (width-pos d l)) ∙ ap (λ (ys : List ℕ). get_or ys 0 0) p in
    rw q (first-lt 256 (width d - 1) x 128 (lit< tt) (lt_of_lt_of_le (split-well F i f gs 0 (lit< tt) w).1 (top_bit d l n)))

pub first_byte : (neg : Bool) (i f : ℕ) (gs : List ℕ) → 1 ≤ i + f → well_at i f 0 (get_or gs 0 0) ≡ true → get_or (digits_to (form_of neg) i f gs 9) 0 0 < 128
first_byte true i f gs h w = first_of Inverted refl (λ d. refl) i f gs h w
first_byte false i f gs h w = first_of Plain refl (λ d. refl) i f gs h w
