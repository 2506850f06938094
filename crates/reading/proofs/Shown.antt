-- The laws of bytes as numbers: one byte more, the first bit flipped, all bits inverted. So a group's number is read off its bytes as they stand.
-- Assumes nothing.
use mathlib.Core.Path.{◌≡◌, refl, sym, ap, ◌∙◌}
use mathlib.Core.Bool.{Bool, true, false}
use mathlib.Core.Logic.{⊎_elim}
use mathlib.Core.List.{List, [], ◌∷◌, map}
use Prim.Native.Nat.{ℕ, zero, suc, ◌+◌, ◌-◌, ◌*◌, ◌/◌, ◌^◌, ◌≤◌, ◌<◌}
use native.Mathlib.Nat.{pow-zero, pow-suc, mul-le-mul_right, add-mul, le_of_suc-le-suc, not-suc-le-zero, zero-add}
use native.Mathlib.Omega.{arith}
use lib.Dec.{lit≤}
use lib.ListN.{length, take, drop, length-map, length-drop}
use lib.Seq.{length-take-le}
use borrow.Author.Tests.{lt-ltb, le-ltb, ne_eqb}
use Rattle.groups.specs.Numbers.{number, Below}
use Rattle.groups.specs.Layout.{form_of}
use Rattle.groups.specs.Packed.{flip, flip_first, invert, digits_in}
use Rattle.groups.proofs.Marks.{length-flip}
use Rattle.groups.proofs.Tab.{take-map, drop-map}
use Rattle.groups.proofs.Opened.{number_lt, below-take, below-drop}
use Rattle.groups.proofs.Caps.{below_or_not}
use Rattle.reading.specs.Course.{flip_by, begins, shown}

-- ---- the first bit flipped
weighed : (P b t : ℕ) → t < P → flip_by (128 * P) (b * P + t) ≡ flip b * P + t
unfolding flip_by flip
weighed P b t h =
    ⊎_elim
    (λ (l : b < 128). let up : b + 1 ≤ 128 = omega arith in let m = rw add-mul at (mul-le-mul_right P up) in let k : b * P + t < 128 * P = omega arith in simp (lt-ltb (b * P + t) (128 * P) k, lt-ltb b 128 l, add-mul) (omega arith))
    (λ (l : 128 ≤ b). let m = mul-le-mul_right P l in let k : 128 * P ≤ b * P + t = omega arith in simp (le-ltb (b * P + t) (128 * P) k, le-ltb b 128 l) (less l m))
    (below_or_not b 128)
  where
    less : 128 ≤ b → 128 * P ≤ b * P → b * P + t - 128 * P ≡ (b - 128) * P + t
    less l m =
        let e : b - 128 + 128 ≡ b = omega arith in
        let q : (b - 128) * P + 128 * P ≡ b * P = sym (add-mul (b - 128) 128 P) ∙ ap (λ (n : ℕ). n * P) e in
        omega arith

flip-lt : (b : ℕ) → b < 256 → flip b < 256
unfolding flip
flip-lt b h = ⊎_elim (λ (l : b < 128). simp (lt-ltb b 128 l) (omega arith)) (λ (l : 128 ≤ b). simp (le-ltb b 128 l) (omega arith)) (below_or_not b 128)

-- past the first byte nothing is flipped
flip-past : (bs : List ℕ) (at : ℕ) → 0 < at → drop at (flip_first bs) ≡ drop at bs
unfolding flip_first
flip-past [] at h = refl
flip-past (b ∷ bs) zero h = absurd (not-suc-le-zero h)
flip-past (b ∷ bs) (suc at) h = refl

flip-number : (bs : List ℕ) (w : ℕ) → suc w ≤ length bs → Below 256 bs → number 256 (take (suc w) (flip_first bs)) ≡ flip_by (128 * 256 ^ w) (number 256 (take (suc w) bs))
unfolding flip_first number
flip-number [] w h e = absurd (not-suc-le-zero h)
flip-number (b ∷ bs) w h e =
    let l : length (take w bs) ≡ w = length-take-le w bs (le_of_suc-le-suc h) in
    let t = number_lt 256 (take w bs) (below-take 256 w bs (λ k. e (suc k))) in
    rw l (sym (weighed (256 ^ w) b (number 256 (take w bs)) (rw l at t)))

flip-below : (bs : List ℕ) → Below 256 bs → Below 256 (flip_first bs)
unfolding flip_first
flip-below [] h k = h k
flip-below (b ∷ bs) h zero = flip-lt b (h 0)
flip-below (b ∷ bs) h (suc k) = h (suc k)

-- ---- all bits inverted
invert-sum : (zs : List ℕ) → Below 256 zs → number 256 (map invert zs) + number 256 zs + 1 ≡ 256 ^ length zs
unfolding number
invert-sum [] h = rw pow-zero
invert-sum (z ∷ zs) h =
    let P = 256 ^ length zs in
    let l = h 0 in
    let e : 255 - z + z ≡ 255 = omega arith in
    let q : (255 - z) * P + z * P ≡ 255 * P = sym (add-mul (255 - z) z P) ∙ ap (λ (n : ℕ). n * P) e in
    let r = invert-sum zs (λ k. h (suc k)) in
    rw (length-map zs invert, pow-suc) (omega arith)

pub invert-number : (zs : List ℕ) → Below 256 zs → number 256 (map invert zs) ≡ 256 ^ length zs - 1 - number 256 zs
invert-number zs h = let e = invert-sum zs h in omega arith

-- ---- a group's number, of its bytes
module _ (bs : List ℕ) (w : ℕ) (b : Below 256 bs) where
  flipped-number : (at : ℕ) → at + suc w ≤ length bs → number 256 (take (suc w) (drop at (flip_first bs))) ≡ begins at (128 * 256 ^ w) (number 256 (take (suc w) (drop at bs)))
  unfolding begins
  flipped-number zero h = flip-number bs w (rw zero-add at h) b
  flipped-number (suc at) h =
      let n : (suc at ≡ 0) → ⊥ = λ q. omega arith in
      ap (λ (l : List ℕ). number 256 (take (suc w) l)) (flip-past bs (suc at) (omega arith)) ∙ sym (simp (ne_eqb (suc at) 0 n))

  pub of-bytes : (v : Bool) (at : ℕ) → at + suc w ≤ length bs
      → shown v at (128 * 256 ^ w) (256 ^ suc w - 1) (number 256 (take (suc w) (drop at bs))) ≡ number 256 (take (suc w) (drop at (digits_in (form_of v) bs)))
  unfolding shown digits_in
  of-bytes false at h = sym (flipped-number at h)
  of-bytes true at h =
      let zs = take (suc w) (drop at (flip_first bs)) in
      let l : length zs ≡ suc w = length-take-le (suc w) (drop at (flip_first bs)) (simp (length-drop, length-flip bs) (omega arith)) in
      let d = below-take 256 (suc w) (drop at (flip_first bs)) (below-drop 256 at (flip_first bs) (flip-below bs b)) in
      sym (rw (drop-map invert at (flip_first bs), take-map invert (suc w) (drop at (flip_first bs)), invert-number zs d, l, flipped-number at h))

-- ---- a group of w bytes by the greatest number of so many
abbrev pub greatest : ℕ → ℕ
greatest w = 4294967295 / 2 ^ (32 - 8 * w)

pub greatest-is : (w : ℕ) → 1 ≤ w → w ≤ 4 → (2 * (greatest w / 2 + 1) ≡ 256 ^ w) × ((greatest w + 1 ≡ 256 ^ w) × (256 ^ w ≤ 4294967296))
greatest-is zero l m = absurd (omega arith)
greatest-is (suc zero) l m = (refl, (refl, lit≤ tt))
greatest-is (suc (suc zero)) l m = (refl, (refl, lit≤ tt))
greatest-is (suc (suc (suc zero))) l m = (refl, (refl, lit≤ tt))
greatest-is (suc (suc (suc (suc zero)))) l m = (refl, (refl, lit≤ tt))
greatest-is (suc (suc (suc (suc (suc w))))) l m = absurd (omega arith)

pub of-part : (bs : List ℕ) (w : ℕ) → Below 256 bs → (v : Bool) (at : ℕ) → 1 ≤ w → w ≤ 4 → at + w ≤ length bs
    → shown v at (greatest w / 2 + 1) (greatest w) (number 256 (take w (drop at bs))) ≡ number 256 (take w (drop at (digits_in (form_of v) bs)))
of-part bs zero b v at l m h = absurd (omega arith)
of-part bs (suc zero) b v at l m h = of-bytes bs 0 b v at h
of-part bs (suc (suc zero)) b v at l m h = of-bytes bs 1 b v at h
of-part bs (suc (suc (suc zero))) b v at l m h = of-bytes bs 2 b v at h
of-part bs (suc (suc (suc (suc zero)))) b v at l m h = of-bytes bs 3 b v at h
of-part bs (suc (suc (suc (suc (suc w))))) b v at l m h = absurd (omega arith)

-- so many bytes write less than their greatest number and one
pub part_lt : (bs : List ℕ) (w at : ℕ) → Below 256 bs → at + w ≤ length bs → number 256 (take w (drop at bs)) < 256 ^ w
part_lt bs w at b h =
    let e : length (take w (drop at bs)) ≡ w = length-take-le w (drop at bs) (simp length-drop (omega arith)) in
    rw e at (number_lt 256 (take w (drop at bs)) (below-take 256 w (drop at bs) (below-drop 256 at bs b)))
