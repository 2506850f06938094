-- The places of a decimal by its two sides: the integral rest, if there is one, then whole groups of both sides, then the fraction's rest,
-- then none. What stands before each place, as digits and as a count of bytes, is read off that.
-- Assumes nothing.
use mathlib.Core.Path.{◌≡◌, refl, sym, ap, ◌∙◌, subst}
use mathlib.Core.Bool.{Bool, true, false, cond}
use mathlib.Core.List.{List, [], ◌++◌, append-nil, append_assoc}
use mathlib.Core.Logic.{⊎_elim}
use Prim.Native.Nat.{ℕ, zero, suc, ◌+◌, ◌-◌, ◌*◌, ◌/◌, ◌^◌, ◌≤◌, ◌<◌}
use native.Mathlib.Nat.{add-zero, add-suc, add_assoc, div-one, eq-zero-or-pos, le_trans, le-suc, zero-mul, mul-one, eq-or-lt_of_le}
use native.Mathlib.Omega.{arith}
use lib.Dec.{ltb}
use lib.ListN.{length, get_or, take, drop, length-append}
use borrow.Author.Tests.{lt-ltb, le-ltb}
use Rattle.groups.specs.Numbers.{number, digits}
use Rattle.groups.specs.Layout.{base_of, wide_of, width, groups_of, side, digits_at, offset, size_in, Form, Plain, Inverted, Digits}
use Rattle.groups.specs.Sides.{rest, lead_places, wholes, sides_size, sides_of}
use Rattle.groups.specs.declared.layout.Sides.{Sides}
use Rattle.groups.specs.Read.{unit_of, group_at, range_at, stored_at}
use Rattle.groups.specs.Write.{group_digits, digits_to}
use Rattle.groups.specs.Course.{run}
use Rattle.groups.proofs.Radix.{length_digits}
use Rattle.groups.proofs.Store.{length_to}
use Rattle.groups.proofs.Caps.{below_or_not}

-- ---- the fields, one by one
pub point-is : (i : ℕ) → groups_of i ≡ lead_places i + i / 9
unfolding groups_of
point-is i = omega arith

abbrev pub Cut : ℕ → ℕ → Sides → Type 0
Cut i f s =
    ((s.lead ≡ rest i) × (s.front ≡ width (rest i)))
    × (((s.first ≡ lead_places i) × (s.point ≡ lead_places i + i / 9))
    × (((s.last ≡ lead_places i + wholes i f) × (s.size ≡ sides_size i f)) × ((s.tail ≡ rest f) × (s.back ≡ width (rest f)))))

pub fields : (i f : ℕ) (s : Sides) → s ≡ sides_of i f → Cut i f s
fields i f s e = rw e ((refl, refl), ((refl, point-is i), ((ap (λ (n : ℕ). n + f / 9) (point-is i) ∙ add_assoc (lead_places i) (i / 9) (f / 9), refl), (refl, refl))))

-- ---- the digits at each place
module _ (i f k : ℕ) where
  pub digits-whole : lead_places i ≤ k → k < lead_places i + wholes i f → digits_at i f k ≡ 9
  unfolding digits_at groups_of side
  digits-whole h l =
      ⊎_elim (λ (m : k < (i + 8) / 9). simp (lt-ltb k ((i + 8) / 9) m) (omega arith)) (λ (m : (i + 8) / 9 ≤ k). simp (le-ltb k ((i + 8) / 9) m) (omega arith))
      (below_or_not k ((i + 8) / 9))

  pub tail-side : k ≡ lead_places i + wholes i f → groups_of i ≤ k
  unfolding groups_of
  tail-side e = omega arith

  pub digits-tail : k ≡ lead_places i + wholes i f → digits_at i f k ≡ rest f
  unfolding digits_at groups_of side
  digits-tail e = simp (le-ltb k ((i + 8) / 9) (tail-side e)) (omega arith)

  pub digits-past : lead_places i + wholes i f < k → digits_at i f k ≡ 0
  unfolding digits_at groups_of side
  digits-past e = let m : (i + 8) / 9 ≤ k = omega arith in simp (le-ltb k ((i + 8) / 9) m) (omega arith)

  pub unit-fraction : (d : ℕ) → groups_of i ≤ k → unit_of i k d ≡ 10 ^ (9 - d)
  unfolding unit_of
  unit-fraction d h = simp (le-ltb k (groups_of i) h)

pub digits-lead : (i f : ℕ) → 0 < rest i → digits_at i f 0 ≡ rest i
unfolding digits_at groups_of side
digits-lead i f h = let m : 0 < (i + 8) / 9 = omega arith in simp (lt-ltb 0 ((i + 8) / 9) m) (omega arith)

pub unit-lead : (i d : ℕ) → 0 < rest i → unit_of i 0 d ≡ 1
unfolding unit_of groups_of
unit-lead i d h = let m : 0 < (i + 8) / 9 = omega arith in simp (lt-ltb 0 ((i + 8) / 9) m)

pub unit-nine : (i k : ℕ) → unit_of i k 9 ≡ 1
unfolding unit_of
unit-nine i k = go (ltb k (groups_of i))
  where
    go : (t : Bool) → cond t 1 (10 ^ (9 - 9)) ≡ 1
    go true = refl
    go false = refl

pub wide-none : (F : Form) → wide_of F 0 ≡ 0
unfolding width
wide-none Plain = refl
wide-none Inverted = refl
wide-none Digits = refl

-- ---- the digits of the groups before each place
pub length_run : (b w : ℕ) (g : ℕ → ℕ) (k n : ℕ) → length (run b w g k n) ≡ w * n
unfolding run
length_run b w g k zero = omega arith
length_run b w g k (suc n) = length-append (run b w g k n) _ ∙ rw (length_run b w g k n, length_digits) (omega arith)

module _ (F : Form) (i f : ℕ) where
  whole-digits : (k g : ℕ) → lead_places i ≤ k → k < lead_places i + wholes i f → group_digits F i f k g ≡ digits (base_of F) (wide_of F 9) g
  unfolding group_digits
  whole-digits k g h l = rw (digits-whole i f k h l, unit-nine i k, div-one g)

  tail-digits : (k g : ℕ) → k ≡ lead_places i + wholes i f → group_digits F i f k g ≡ digits (base_of F) (wide_of F (rest f)) (g / 10 ^ (9 - rest f))
  unfolding group_digits
  tail-digits k g e = rw (digits-tail i f k e, unit-fraction i f k (rest f) (tail-side i f k e))

  past-digits : (k g : ℕ) → lead_places i + wholes i f < k → group_digits F i f k g ≡ []
  unfolding group_digits digits
  past-digits k g h = rw (digits-past i f k h, wide-none F)

  module _ (gs : List ℕ) where
    pub to-lead : digits_to F i f gs (lead_places i) ≡ digits (base_of F) (wide_of F (rest i)) (get_or gs 0 0)
    unfolding digits_to group_digits digits
    to-lead =
        ⊎_elim (λ (e : rest i ≡ 0). rw (e, wide-none F))
        (λ (h : 0 < rest i). let l : lead_places i ≡ 1 = omega arith in rw (l, digits-lead i f h, unit-lead i (rest i) h, div-one (get_or gs 0 0)))
        (eq-zero-or-pos (rest i))

    pub to_whole : (n : ℕ) → n ≤ wholes i f → digits_to F i f gs (lead_places i + n) ≡ digits_to F i f gs (lead_places i) ++ run (base_of F) (wide_of F 9) (λ k. get_or gs k 0) (lead_places i) n
    unfolding digits_to run
    to_whole zero h = rw (add-zero (lead_places i)) (sym (append-nil (digits_to F i f gs (lead_places i))))
    to_whole (suc n) h =
        rw (add-suc (lead_places i) n, to_whole n (le_trans (le-suc n) h), whole-digits (lead_places i + n) (get_or gs (lead_places i + n) 0) (omega arith) (omega arith))
        (append_assoc (digits_to F i f gs (lead_places i)) (run (base_of F) (wide_of F 9) (λ k. get_or gs k 0) (lead_places i) n) (digits (base_of F) (wide_of F 9) (get_or gs (lead_places i + n) 0)))

    to-past : (n : ℕ) → digits_to F i f gs (suc (lead_places i + wholes i f) + n) ≡ digits_to F i f gs (suc (lead_places i + wholes i f))
    unfolding digits_to
    to-past zero = rw (add-zero (suc (lead_places i + wholes i f)))
    to-past (suc n) =
        rw (add-suc (suc (lead_places i + wholes i f)) n, past-digits (suc (lead_places i + wholes i f) + n) (get_or gs (suc (lead_places i + wholes i f) + n) 0) (omega arith))
        (append-nil (digits_to F i f gs (suc (lead_places i + wholes i f) + n)) ∙ to-past n)

    pub to_end : i + f ≤ 65 → let k = lead_places i + wholes i f in digits_to F i f gs 9 ≡ digits_to F i f gs k ++ digits (base_of F) (wide_of F (rest f)) (get_or gs k 0 / 10 ^ (9 - rest f))
    unfolding digits_to
    to_end h =
        let k = lead_places i + wholes i f in
        let e : suc k + (8 - k) ≡ 9 = omega arith in
        ap (digits_to F i f gs) (sym e) ∙ to-past (8 - k) ∙ ap (λ (l : List ℕ). digits_to F i f gs k ++ l) (tail-digits k (get_or gs k 0) refl)

    -- all of them
    pub to-sides : i + f ≤ 65
        → digits_to F i f gs 9 ≡ (digits (base_of F) (wide_of F (rest i)) (get_or gs 0 0) ++ run (base_of F) (wide_of F 9) (λ k. get_or gs k 0) (lead_places i) (wholes i f)) ++ digits (base_of F) (wide_of F (rest f)) (get_or gs (lead_places i + wholes i f) 0 / 10 ^ (9 - rest f))
    to-sides h = to_end h ∙ rw (to_whole (wholes i f) (omega arith), to-lead)

  -- ---- and their counts of bytes
  pub offset-lead : offset F i f (lead_places i) ≡ wide_of F (rest i)
  offset-lead = sym (length_to F i f [] (lead_places i)) ∙ ap length (to-lead []) ∙ length_digits (base_of F) (wide_of F (rest i)) 0

  pub offset-whole : (n : ℕ) → n ≤ wholes i f → offset F i f (lead_places i + n) ≡ wide_of F (rest i) + wide_of F 9 * n
  offset-whole n h =
      sym (length_to F i f [] (lead_places i + n)) ∙ ap length (to_whole [] n h) ∙ length-append (digits_to F i f [] (lead_places i)) _
      ∙ rw (length_to F i f [] (lead_places i), offset-lead, length_run)

  pub size-sides : i + f ≤ 65 → size_in F i f ≡ wide_of F (rest i) + wide_of F 9 * wholes i f + wide_of F (rest f)
  size-sides h =
      sym (length_to F i f [] 9) ∙ ap length (to_end [] h) ∙ length-append (digits_to F i f [] (lead_places i + wholes i f)) _
      ∙ rw (length_to F i f [] (lead_places i + wholes i f), offset-whole (wholes i f) (omega arith), length_digits)

-- ---- past the last place there is nothing to read
module _ (F : Form) (i f : ℕ) (ds : List ℕ) (k : ℕ) (h : lead_places i + wholes i f < k) where
  past-group : group_at F i f ds k ≡ 0
  unfolding group_at number
  past-group = rw (digits-past i f k h, wide-none F)

  pub past-range : range_at F i f ds k ≡ true
  unfolding range_at
  past-range = rw (past-group, digits-past i f k h)

  pub past-stored : stored_at F i f ds k ≡ 0
  unfolding stored_at
  past-stored = rw past-group (zero-mul (unit_of i k (digits_at i f k)))

-- ---- what is read of each side: the integral rest, the n-th whole group, and the rest of the fraction
module _ (F : Form) (i f : ℕ) (ds : List ℕ) where
  abbrev pub lead_number : ℕ
  lead_number = number (base_of F) (take (wide_of F (rest i)) ds)

  abbrev pub whole_number : ℕ → ℕ
  whole_number n = number (base_of F) (take (wide_of F 9) (drop (wide_of F (rest i) + wide_of F 9 * n) ds))

  abbrev pub tail_number : ℕ
  tail_number = number (base_of F) (take (wide_of F (rest f)) (drop (wide_of F (rest i) + wide_of F 9 * wholes i f) ds))

  lead-group : 0 < rest i → group_at F i f ds 0 ≡ lead_number
  unfolding group_at offset
  lead-group h = rw (digits-lead i f h)

  pub lead-range : (k : ℕ) → k < lead_places i → range_at F i f ds k ≡ ltb lead_number (10 ^ rest i)
  unfolding range_at
  lead-range k h =
      let e : k ≡ 0 = omega arith in
      let l : 0 < rest i = omega arith in
      rw (e, lead-group l, digits-lead i f l)

  pub lead-stored : (k : ℕ) → k < lead_places i → stored_at F i f ds k ≡ lead_number
  unfolding stored_at
  lead-stored k h =
      let e : k ≡ 0 = omega arith in
      let l : 0 < rest i = omega arith in
      rw (e, lead-group l, unit-lead i (digits_at i f 0) l) (mul-one lead_number)

  module _ (n : ℕ) (h : n < wholes i f) where
    whole-nine : digits_at i f (lead_places i + n) ≡ 9
    whole-nine = digits-whole i f (lead_places i + n) (omega arith) (omega arith)

    whole-group : group_at F i f ds (lead_places i + n) ≡ whole_number n
    unfolding group_at
    whole-group = rw (whole-nine, offset-whole F i f n (omega arith))

    pub whole-range : range_at F i f ds (lead_places i + n) ≡ ltb (whole_number n) 1000000000
    unfolding range_at
    whole-range = rw (whole-group, whole-nine)

    pub whole-stored : stored_at F i f ds (lead_places i + n) ≡ whole_number n
    unfolding stored_at
    whole-stored = rw (whole-group, whole-nine, unit-nine i (lead_places i + n)) (mul-one (whole_number n))

  tail-rest : digits_at i f (lead_places i + wholes i f) ≡ rest f
  tail-rest = digits-tail i f (lead_places i + wholes i f) refl

  tail-group : group_at F i f ds (lead_places i + wholes i f) ≡ tail_number
  unfolding group_at
  tail-group = rw (tail-rest, offset-whole F i f (wholes i f) (omega arith))

  pub tail-range : range_at F i f ds (lead_places i + wholes i f) ≡ ltb tail_number (10 ^ rest f)
  unfolding range_at
  tail-range = rw (tail-group, tail-rest)

  pub tail-stored : stored_at F i f ds (lead_places i + wholes i f) ≡ tail_number * 10 ^ (9 - rest f)
  unfolding stored_at
  tail-stored = rw (tail-group, tail-rest, unit-fraction i f (lead_places i + wholes i f) (rest f) (tail-side i f (lead_places i + wholes i f) refl))

-- what holds of each side holds of every place
pub each-place : (i f : ℕ) (P : ℕ → Type 0)
    → ((k : ℕ) → k < lead_places i → P k) → ((n : ℕ) → n < wholes i f → P (lead_places i + n)) → P (lead_places i + wholes i f) → ((k : ℕ) → lead_places i + wholes i f < k → P k)
    → (k : ℕ) → P k
each-place i f P a b c d k =
    ⊎_elim (a k)
    (λ (h : lead_places i ≤ k). ⊎_elim
    (λ (l : k < lead_places i + wholes i f). let e : lead_places i + (k - lead_places i) ≡ k = omega arith in subst P e (b (k - lead_places i) (omega arith)))
    (λ (l : lead_places i + wholes i f ≤ k). ⊎_elim (λ (e : lead_places i + wholes i f ≡ k). subst P e c) (d k) (eq-or-lt_of_le l))
    (below_or_not k (lead_places i + wholes i f)))
    (below_or_not k (lead_places i))
