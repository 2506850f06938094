-- The laws of writing all groups by parts: the integral rest, the whole groups, the rest of the fraction.
-- Assumes nothing.
use mathlib.Core.Path.{◌≡◌, refl, ap, ◌∙◌}
use mathlib.Core.Bool.{Bool, true, false}
use mathlib.Core.List.{List, ◌++◌, map}
use Prim.Native.Nat.{ℕ, zero, suc, ◌+◌, ◌-◌, ◌*◌, ◌/◌, ◌^◌, ◌≤◌, ◌<◌}
use native.Mathlib.Nat.{div-le_self, le_trans}
use native.Mathlib.Omega.{arith}
use lib.ListN.{length, get_or, drop, length-map}
use Rattle.groups.specs.Numbers.{digits}
use Rattle.groups.specs.Layout.{width, size, form_of, Plain, Inverted}
use Rattle.groups.specs.Packed.{flip_first, invert, bytes_of}
use Rattle.groups.specs.Write.{group_digits, digits_to, written}
use Rattle.groups.specs.Sides.{rest, lead_places, wholes}
use Rattle.groups.specs.Course.{run}
use Rattle.writing.specs.Course.{laid_at, shade, shaded}
use Rattle.groups.proofs.Radix.{length_digits}
use Rattle.groups.proofs.Marks.{flip-front}
use Rattle.groups.proofs.Store.{length_to}
use Rattle.writing.proofs.Laid.{three}
use Rattle.writing.proofs.Shade.{digits-shade, run-shade, shaded-append}
use Rattle.groups.proofs.SidesLaws.{length_run, to-sides}
use Rattle.groups.proofs.Sizes.{width-le, packed-sides}

-- ---- the places and the room that the three parts have
pub places : (i f : ℕ) → i + f ≤ 65 → ((lead_places i ≤ lead_places i + wholes i f) × (lead_places i + wholes i f ≤ 9)) × (lead_places i + wholes i f < 9)
places i f h = omega arith

module _ (i f n : ℕ) (h : i + f ≤ 65) where
  abbrev whole : ℕ
  whole = lead_places i + wholes i f - lead_places i

  pub packed-room : size i f ≤ n → (width (rest i) ≤ n) × ((width (rest i) + 4 * whole ≤ n) × (width (rest i) + 4 * whole + width (rest f) ≤ n))
  packed-room l = let z = packed-sides i f h in omega arith

module _ (i f : ℕ) (gs out : List ℕ) (h : i + f ≤ 65) where
  pub packed_all : (v : Bool) → size i f ≤ length out → ((k : ℕ) → k < 9 → get_or gs k 0 ≤ 4294967295)
      → let w = width (rest i) in let n = wholes i f in let s = rest f in
      laid_at
      (laid_at (laid_at out 0 w (digits 256 w (shade v (get_or gs 0 0)))) w (4 * n) (run 256 4 (λ k. shade v (get_or gs k 0)) (lead_places i) n))
      (w + 4 * n)
      (width s)
      (digits 256 (width s) (shade v (get_or gs (lead_places i + n) 0 / 10 ^ (9 - s))))
      ≡ shaded v (digits_to Plain i f gs 9) ++ drop (size i f) out
  unfolding width run
  packed_all v l u =
      let w = width (rest i) in
      let n = wholes i f in
      let s = rest f in
      let z = packed-sides i f h in
      let y = get_or gs (lead_places i + n) 0 / 10 ^ (9 - s) in
      let A = digits 256 w (get_or gs 0 0) in
      let B = run 256 4 (λ k. get_or gs k 0) (lead_places i) n in
      let C = digits 256 (width s) y in
      let a : digits 256 w (shade v (get_or gs 0 0)) ≡ shaded v A = digits-shade v w (get_or gs 0 0) (width-le (rest i)) (u 0 (omega arith)) in
      let b : run 256 4 (λ k. shade v (get_or gs k 0)) (lead_places i) n ≡ shaded v B = run-shade v (λ k. get_or gs k 0) 9 u (lead_places i) n (omega arith) in
      let c : digits 256 (width s) (shade v y) ≡ shaded v C = digits-shade v (width s) y (width-le s) (le_trans (div-le_self (get_or gs (lead_places i + n) 0) (10 ^ (9 - s))) (u (lead_places i + n) (omega arith))) in
      let e : shaded v (digits_to Plain i f gs 9) ≡ (shaded v A ++ shaded v B) ++ shaded v C = ap (shaded v) (to-sides Plain i f gs h) ∙ shaded-append v (A ++ B) C ∙ ap (λ (x : List ℕ). x ++ shaded v C) (shaded-append v A B) in
      three out _ _ _ w (4 * n) (width s) (omega arith) (length_digits 256 w _) (length_run 256 4 (λ k. shade v (get_or gs k 0)) (lead_places i) n) ∙ rw (a, b, c, e, z)

-- ---- the bytes that show the digits
inverted-to : (i f : ℕ) (gs : List ℕ) (k : ℕ) → digits_to Inverted i f gs k ≡ digits_to Plain i f gs k
unfolding digits_to group_digits
inverted-to i f gs zero = refl
inverted-to i f gs (suc k) = rw (inverted-to i f gs k)

pub packed-form : (v : Bool) (i f : ℕ) (gs out : List ℕ) → 0 < size i f
    → flip_first (shaded v (digits_to Plain i f gs 9) ++ drop (size i f) out) ≡ written (form_of v) i f gs ++ drop (size i f) out
unfolding written bytes_of shaded
packed-form false i f gs out h = flip-front (digits_to Plain i f gs 9) (drop (size i f) out) (rw (length_to Plain i f gs 9) h)
packed-form true i f gs out h =
    rw (inverted-to i f gs 9)
    (flip-front (map invert (digits_to Plain i f gs 9)) (drop (size i f) out) (rw (length-map (digits_to Plain i f gs 9) invert, length_to Plain i f gs 9) h))
