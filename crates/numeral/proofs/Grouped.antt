-- The groups of integral digits and those of a fraction: what number each is, and that groups stored by sides are those of the definition.
-- Assumes nothing.
use mathlib.Core.Path.{◌≡◌, refl, sym, ap, ◌∙◌}
use mathlib.Core.List.{List, [], ◌++◌, map, map-append, append-nil}
use mathlib.Core.Logic.{⊎_elim}
use Prim.Native.Nat.{ℕ, ◌+◌, ◌-◌, ◌*◌, ◌/◌, ◌^◌, ◌≤◌, ◌<◌}
use native.Mathlib.Omega.{arith}
use lib.ListN.{length, get_or, take, drop, set, length-set, length-map, length-drop}
use lib.Seq.{get_or-set_same, get_or-set_other, take-append-le, drop-append-le, drop_at, drop-drop}
use Rattle.groups.specs.Numbers.{number, tab}
use Rattle.groups.specs.Layout.{Digits}
use Rattle.groups.specs.Sides.{rest, lead_places, wholes}
use Rattle.groups.specs.Read.{stored_at, zeros}
use Rattle.groups.specs.declared.layout.Sides.{Sides}
use Rattle.groups.proofs.Caps.{below_or_not}
use Rattle.groups.proofs.Tab.{filled, zeros-at, take-map, drop-map}
use Rattle.groups.proofs.SidesLaws.{Cut, lead_number, whole_number, tail_number, lead-stored, whole-stored, tail-stored, past-stored, each-place}
use Rattle.numeral.specs.Read.{digit_of}
use Rattle.numeral.specs.Course.{nines_of, Nines}

-- a part of a list, after a function is applied to its elements, and of what a list begins with
part_of : (g : ℕ → ℕ) (xs ys : List ℕ) (o n : ℕ) → o + n ≤ length xs → take n (drop o (map g xs ++ ys)) ≡ map g (take n (drop o xs))
part_of g xs ys o n h =
    let e = length-map xs g in
    let l : n ≤ length (drop o (map g xs)) = simp length-drop (omega arith) in
    rw (drop-append-le o (map g xs) ys (omega arith), take-append-le n (drop o (map g xs)) ys l, drop-map g o xs, take-map g n (drop o xs))

module _ (W T : List ℕ) (small : length W + length T ≤ 65) where
  abbrev i : ℕ
  i = length W

  abbrev f : ℕ
  f = length T

  abbrev ds : List ℕ
  ds = map digit_of (W ++ T)

  -- ---- the digits, before and after the point
  before : (o n : ℕ) → o + n ≤ i → take n (drop o ds) ≡ map digit_of (take n (drop o W))
  before o n h = rw map-append (part_of digit_of W (map digit_of T) o n h)

  after : (o n : ℕ) → o + n ≤ f → take n (drop (i + o) ds) ≡ map digit_of (take n (drop o T))
  after o n h =
      let e : drop (i + o) ds ≡ drop o (map digit_of T ++ []) = rw (map-append, append-nil, ← drop-drop o i) (ap (drop o) (drop_at (map digit_of W) (map digit_of T) i (length-map W digit_of))) in
      rw e (part_of digit_of T [] o n h)

  -- ---- the number of each group
  lead-number : lead_number Digits i f ds ≡ number 10 (map digit_of (take (rest i) W))
  lead-number = ap (number 10) (before 0 (rest i) (omega arith))

  whole-number : (n : ℕ) → n < i / 9 → whole_number Digits i f ds n ≡ nines_of (drop (rest i) W) n
  unfolding nines_of
  whole-number n h = rw (before (rest i + 9 * n) 9 (omega arith), drop-drop (9 * n) (rest i) W) refl

  fraction-number : (n : ℕ) → n < f / 9 → whole_number Digits i f ds (i / 9 + n) ≡ nines_of T n
  unfolding nines_of
  fraction-number n h = let q : rest i + 9 * (i / 9 + n) ≡ i + 9 * n = omega arith in rw (q, after (9 * n) 9 (omega arith)) refl

  tail-number : tail_number Digits i f ds ≡ number 10 (map digit_of (take (rest f) (drop (9 * (f / 9)) T)))
  tail-number = let q : rest i + 9 * wholes i f ≡ i + 9 * (f / 9) = omega arith in rw (q, after (9 * (f / 9)) (rest f) (omega arith)) refl

  -- ---- groups with these numbers
  laid : (gs : List ℕ) → length gs ≡ 9
      → ((k : ℕ) → k < lead_places i → get_or gs k 0 ≡ number 10 (map digit_of (take (rest i) W)))
      → ((n : ℕ) → n < i / 9 → get_or gs (lead_places i + n) 0 ≡ nines_of (drop (rest i) W) n)
      → ((n : ℕ) → n < f / 9 → get_or gs (lead_places i + i / 9 + n) 0 ≡ nines_of T n)
      → get_or gs (lead_places i + wholes i f) 0 ≡ number 10 (map digit_of (take (rest f) (drop (9 * (f / 9)) T))) * 10 ^ (9 - rest f)
      → ((k : ℕ) → lead_places i + wholes i f < k → get_or gs k 0 ≡ 0)
      → gs ≡ tab 9 (stored_at Digits i f ds)
  laid gs n front whole fraction tail past =
      filled 9 (stored_at Digits i f ds) gs n
      (λ k h. each-place i f (λ j. get_or gs j 0 ≡ stored_at Digits i f ds j)
      (λ j m. front j m ∙ sym (lead-stored Digits i f ds j m ∙ lead-number))
      (λ j m. both-wholes j m ∙ sym (whole-stored Digits i f ds j m))
      (tail ∙ sym (tail-stored Digits i f ds ∙ rw tail-number refl))
      (λ j m. past j m ∙ sym (past-stored Digits i f ds j m))
      k)
    where
      both-wholes : (j : ℕ) → j < wholes i f → get_or gs (lead_places i + j) 0 ≡ whole_number Digits i f ds j
      both-wholes j m =
          ⊎_elim (λ (q : j < i / 9). whole j q ∙ sym (whole-number j q))
          (λ (q : i / 9 ≤ j).
          let r : i / 9 + (j - i / 9) ≡ j = omega arith in
          let o : lead_places i + j ≡ lead_places i + i / 9 + (j - i / 9) = omega arith in
          let v : j - i / 9 < f / 9 = omega arith in
          rw o (fraction (j - i / 9) v ∙ sym (rw r at (fraction-number (j - i / 9) v))))
          (below_or_not j (i / 9))

  -- ---- what is stored, by sides
  module _ (s : Sides) (k : Cut i f s) (x : ℕ) (d : x ≡ number 10 (map digit_of (take s.lead W))) (gs hs : List ℕ)
      (w : Nines (drop s.lead W) s.first s.point (set zeros 0 x) gs) (v : Nines T s.point s.last gs hs) (y : ℕ)
      (e : y ≡ number 10 (map digit_of (take s.tail (drop (f - s.tail) T))) * 10 ^ (9 - s.tail)) where
    other : (j : ℕ) → (j ≡ s.last → ⊥) → get_or (set hs s.last y) j 0 ≡ get_or hs j 0
    other j h = get_or-set_other hs s.last j y 0 h

    nine : length hs ≡ 9
    nine = v.size ∙ w.size ∙ length-set zeros 0 x

    past_is : (j : ℕ) → s.point ≤ j → 0 < j → get_or gs j 0 ≡ 0
    past_is j h m = w.after j h ∙ get_or-set_other zeros 0 j x 0 (λ z. omega arith) ∙ zeros-at 9 j

    front-is : (j : ℕ) → j < lead_places i → get_or gs j 0 ≡ number 10 (map digit_of (take (rest i) W))
    front-is j h =
        let o : j ≡ 0 = omega arith in
        w.before j (omega arith) ∙ rw o (d ∙ rw k.0.0 refl)

    tail-is : y ≡ number 10 (map digit_of (take (rest f) (drop (9 * (f / 9)) T))) * 10 ^ (9 - rest f)
    tail-is = let q : f - rest f ≡ 9 * (f / 9) = omega arith in e ∙ rw (k.1.1.1.0, q) refl

    pub groups-stored : set hs s.last y ≡ tab 9 (stored_at Digits i f ds)
    groups-stored =
        let o : lead_places i + wholes i f ≡ s.last = omega arith in
        let n = nine in
        laid (set hs s.last y) (length-set hs s.last y ∙ n)
        (λ j m. other j (λ z. omega arith) ∙ v.before j (omega arith) ∙ front-is j m)
        (λ j m. other (lead_places i + j) (λ z. omega arith) ∙ v.before (lead_places i + j) (omega arith) ∙ rw (k.0.0, k.1.0.0) at (w.taken j (omega arith)))
        (λ j m. other (lead_places i + i / 9 + j) (λ z. omega arith) ∙ rw k.1.0.1 at (v.taken j (omega arith)))
        (rw o (get_or-set_same hs s.last y 0 (omega arith) ∙ tail-is))
        (λ j m. other j (λ z. omega arith) ∙ v.after j (omega arith) ∙ past_is j (omega arith) (omega arith))
