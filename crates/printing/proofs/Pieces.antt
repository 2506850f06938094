-- A decimal's text group by group: the first integral group without the zeros that pad it, whole groups nine wide, and the last of the fraction.
-- Assumes nothing.
use mathlib.Core.Path.{◌≡◌, refl, sym, ap, ◌∙◌}
use mathlib.Core.Bool.{Bool, true, false}
use mathlib.Core.List.{List, [], ◌∷◌, ◌++◌, map, map-append, append_assoc, append-nil}
use Prim.Native.Nat.{ℕ, zero, suc, ◌+◌, ◌-◌, ◌*◌, ◌/◌, ◌%◌, ◌^◌, ◌≤◌, ◌<◌}
use native.Mathlib.Nat.{pow-zero, pow-succ', pow-le-pow_right, div-one, le_of_eq, le_refl, add-suc}
use native.Mathlib.Numerals.{one-add, add-one}
use native.Mathlib.Omega.{arith}
use lib.Dec.{eqb, leb, ltb, lit<}
use lib.ListN.{length, get_or, take, drop, set, length-append, length-map, get_or-append}
use lib.Seq.{set_split, take_at, drop_at, take_all, length-take-le, take-set-le, drop-cons, drop-set-lt, get_or-set_same, lt-length-set}
use borrow.Author.Tests.{lt-ltb, le-ltb, eq-eqb, ne_eqb, leb-true, leb-false, ltb-true}
use Rattle.groups.specs.Numbers.{digits, all}
use Rattle.groups.specs.Layout.{groups_of, side, digits_at, Digits}
use Rattle.groups.specs.Read.{unit_of}
use Rattle.groups.specs.Write.{group_digits, digits_to, digits_ok, well_at, well_groups}
use Rattle.groups.proofs.Radix.{length_digits}
use Rattle.groups.proofs.Accept.{both_true, well-digits}
use Rattle.groups.proofs.Tab.{all-each}
use Rattle.groups.proofs.Store.{join}
use Rattle.printing.specs.Print.{show, unpadded, first_digits, whole_digits, fraction_text, sign_text, text_of}
use Rattle.printing.specs.Course.{nines, before, rest, whole_text, whole_length, point_text, fraction_length, Significant}

-- ---- zeros at the front of a number's digits
zero-head : (d g : ℕ) → g < 10 ^ d → digits 10 (suc d) g ≡ 0 ∷ digits 10 d g
unfolding digits
zero-head zero g h = let p = pow-zero 10 in let z : g % 10 ≡ 0 = omega arith in rw z
zero-head (suc d) g h = let p = pow-succ' 10 d in rw (zero-head d (g / 10) (omega arith))

drop-zero : (xs : List ℕ) → 1 ≤ length xs → unpadded (0 ∷ xs) ≡ unpadded xs
unfolding unpadded
drop-zero [] h = absurd (omega arith)
drop-zero (x ∷ xs) h = refl

zeros-off : (e w g : ℕ) → 1 ≤ w → g < 10 ^ w → unpadded (digits 10 (e + w) g) ≡ unpadded (digits 10 w g)
zeros-off zero w g h l = let q : zero + w ≡ w = omega arith in rw q
zeros-off (suc e) w g h l =
    let q : suc e + w ≡ suc (e + w) = omega arith in
    let p : 10 ^ w ≤ 10 ^ (e + w) = pow-le-pow_right (lit< tt) (omega arith) in
    let n = length_digits 10 (e + w) g in
    rw (q, zero-head (e + w) g (omega arith), drop-zero (digits 10 (e + w) g) (omega arith)) (zeros-off e w g h l)

head-some : (w g : ℕ) → 10 ^ w ≤ g → g < 10 ^ suc w → (get_or (digits 10 (suc w) g) 0 0 ≡ 0 → ⊥)
unfolding digits
head-some zero g l h e = let p = pow-zero 10 in let q = pow-succ' 10 zero in omega arith
head-some (suc w) g l h e =
    let p = pow-succ' 10 w in
    let q = pow-succ' 10 (suc w) in
    let n = length_digits 10 (suc w) (g / 10) in
    head-some w (g / 10) (omega arith) (omega arith) (sym (get_or-append (digits 10 (suc w) (g / 10)) (g % 10 ∷ []) 0 0 (omega arith)) ∙ e)

stays : (xs : List ℕ) → (get_or xs 0 0 ≡ 0 → ⊥) → unpadded xs ≡ xs
unfolding unpadded
stays [] h = refl
stays (x ∷ []) h = refl
stays (x ∷ y ∷ xs) h = simp (ne_eqb x 0 h)

single : (g : ℕ) → unpadded (digits 10 1 g) ≡ digits 10 1 g
unfolding digits unpadded
single g = refl

narrow : (w g : ℕ) → Significant w g → unpadded (digits 10 w g) ≡ digits 10 w g
narrow zero g h = absurd (omega arith)
narrow (suc zero) g h = single g
narrow (suc (suc w)) g h =
    let e : suc (suc w) - 1 ≡ suc w = omega arith in
    stays (digits 10 (suc (suc w)) g) (head-some (suc w) g (rw e at (h.1.1 (omega arith))) h.1.0)

pub unpadded-first : (d w g : ℕ) → w ≤ d → Significant w g → unpadded (digits 10 d g) ≡ digits 10 w g
unpadded-first d w g l h =
    let e : d ≡ d - w + w = omega arith in
    ap (λ (n : ℕ). unpadded (digits 10 n g)) e ∙ zeros-off (d - w) w g h.0.0 h.1.0 ∙ narrow w g h

-- no wider than a group that holds it
pub as_wide : (d w g : ℕ) → 1 ≤ d → g < 10 ^ d → Significant w g → w ≤ d
as_wide d zero g p h s = absurd (omega arith)
as_wide d (suc zero) g p h s = p
as_wide d (suc (suc w)) g p h s = go (leb (suc (suc w)) d) refl
  where
    go : (t : Bool) → leb (suc (suc w)) d ≡ t → suc (suc w) ≤ d
    go true e = leb-true (suc (suc w)) d e
    go false e =
        let l = leb-false (suc (suc w)) d e in
        let q : suc (suc w) - 1 ≡ suc w = omega arith in
        let m : 10 ^ d ≤ 10 ^ suc w = pow-le-pow_right (lit< tt) (omega arith) in
        let k : 10 ^ suc w ≤ g = rw q at (s.1.1 (omega arith)) in
        absurd (omega arith)

-- ---- whole groups
pub length-nines : (gs : List ℕ) (j c : ℕ) → length (nines gs j c) ≡ 9 * c
unfolding nines
length-nines gs j zero = refl
length-nines gs j (suc c) =
    let n = length-nines gs j c in
    let m = length_digits 10 9 (get_or gs (j + c) 0) in
    let q : length (nines gs j c) + length (digits 10 9 (get_or gs (j + c) 0)) ≡ 9 * suc c = omega arith in
    length-append (nines gs j c) (digits 10 9 (get_or gs (j + c) 0)) ∙ q

pub groups-some : (n : ℕ) → 1 ≤ n → 0 < groups_of n
unfolding groups_of
groups-some n h = omega arith

-- ---- where each group stands, and what its digits are
module _ (i f : ℕ) where
  first-at : 1 ≤ i → digits_at i f 0 ≡ first_digits i
  unfolding digits_at groups_of
  first-at h =
      let n : 0 < (i + 8) / 9 = omega arith in
      let e : (i + 8) / 9 - 1 - 0 ≡ (i + 8) / 9 - 1 = omega arith in
      simp (lt-ltb 0 ((i + 8) / 9) n, e)

  whole-at : (k : ℕ) → 0 < k → k < groups_of i → digits_at i f k ≡ 9
  unfolding digits_at groups_of side
  whole-at k h l = simp (lt-ltb k ((i + 8) / 9) l) (omega arith)

  fraction-at : (c : ℕ) → 1 ≤ f → c < before f → digits_at i f (groups_of i + c) ≡ 9
  unfolding digits_at groups_of side
  fraction-at c h l = simp (le-ltb ((i + 8) / 9 + c) ((i + 8) / 9) (omega arith)) (omega arith)

  last-at : 1 ≤ f → digits_at i f (groups_of i + before f) ≡ rest f
  unfolding digits_at groups_of side
  last-at h = simp (le-ltb ((i + 8) / 9 + before f) ((i + 8) / 9) (omega arith)) (omega arith)

  none-at : (k : ℕ) → groups_of i + groups_of f ≤ k → digits_at i f k ≡ 0
  unfolding digits_at groups_of side
  none-at k h = simp (le-ltb k ((i + 8) / 9) (omega arith)) (omega arith)

  integral-unit : (k d : ℕ) → k < groups_of i → unit_of i k d ≡ 1
  unfolding unit_of
  integral-unit k d l = simp (lt-ltb k (groups_of i) l)

  fraction-unit : (k d : ℕ) → groups_of i ≤ k → unit_of i k d ≡ 10 ^ (9 - d)
  unfolding unit_of
  fraction-unit k d l = simp (le-ltb k (groups_of i) l)

  first_piece : (g : ℕ) → 1 ≤ i → group_digits Digits i f 0 g ≡ digits 10 (first_digits i) g
  unfolding group_digits
  first_piece g h = rw (first-at h, integral-unit 0 (first_digits i) (groups-some i h), div-one g)

  whole-piece : (k g : ℕ) → 0 < k → k < groups_of i → group_digits Digits i f k g ≡ digits 10 9 g
  unfolding group_digits
  whole-piece k g h l = rw (whole-at k h l, integral-unit k 9 l, div-one g)

  fraction-piece : (c g : ℕ) → 1 ≤ f → c < before f → group_digits Digits i f (groups_of i + c) g ≡ digits 10 9 g
  unfolding group_digits
  fraction-piece c g h l = rw (fraction-at c h l, fraction-unit (groups_of i + c) 9 (omega arith), pow-zero 10, div-one g)

  last-piece : (g : ℕ) → 1 ≤ f → group_digits Digits i f (groups_of i + before f) g ≡ digits 10 (rest f) (g / 10 ^ (9 - rest f))
  unfolding group_digits
  last-piece g h = rw (last-at h, fraction-unit (groups_of i + before f) (rest f) (omega arith))

  none-piece : (k g : ℕ) → groups_of i + groups_of f ≤ k → group_digits Digits i f k g ≡ []
  unfolding group_digits digits
  none-piece k g h = rw (none-at k h)

  module _ (gs : List ℕ) where
    abbrev to : ℕ → List ℕ
    to k = digits_to Digits i f gs k

    to_whole : (c : ℕ) → 1 ≤ i → c < groups_of i → to (suc c) ≡ digits 10 (first_digits i) (get_or gs 0 0) ++ nines gs 1 c
    unfolding digits_to nines
    to_whole zero h l = first_piece (get_or gs 0 0) h ∙ sym (append-nil (digits 10 (first_digits i) (get_or gs 0 0)))
    to_whole (suc c) h l =
        rw (to_whole c h (omega arith), whole-piece (suc c) (get_or gs (suc c) 0) (omega arith) l, one-add c)
        (append_assoc (digits 10 (first_digits i) (get_or gs 0 0)) (nines gs 1 c) (digits 10 9 (get_or gs (suc c) 0)))

    to-point : (c : ℕ) → 1 ≤ f → c ≤ before f → to (groups_of i + c) ≡ to (groups_of i) ++ nines gs (groups_of i) c
    unfolding digits_to nines
    to-point zero h l = let e : groups_of i + zero ≡ groups_of i = omega arith in rw e (sym (append-nil (to (groups_of i))))
    to-point (suc c) h l =
        let e : groups_of i + suc c ≡ suc (groups_of i + c) = omega arith in
        rw (e, to-point c h (omega arith), fraction-piece c (get_or gs (groups_of i + c) 0) h (omega arith))
        (append_assoc (to (groups_of i)) (nines gs (groups_of i) c) (digits 10 9 (get_or gs (groups_of i + c) 0)))

    to-rest : (k e : ℕ) → groups_of i + groups_of f ≤ k → to (k + e) ≡ to k
    unfolding digits_to
    to-rest k zero h = let q : k + zero ≡ k = omega arith in rw q
    to-rest k (suc e) h =
        let q : k + suc e ≡ suc (k + e) = omega arith in
        rw (q, none-piece (k + e) (get_or gs (k + e) 0) (omega arith), append-nil (to (k + e))) (to-rest k e h)

-- ---- the nine groups: those before the point, and those after it
fit : (i f : ℕ) → i + f ≤ 65 → 1 ≤ f → (suc (groups_of i + before f) ≤ 9) × (groups_of i + groups_of f ≡ suc (groups_of i + before f))
unfolding groups_of
fit i f h l = (omega arith, omega arith)

integral-fit : (i f : ℕ) → i + f ≤ 65 → f ≡ 0 → (groups_of i ≤ 9) × (groups_of i + groups_of f ≤ groups_of i)
unfolding groups_of
integral-fit i f h e = (omega arith, omega arith)

first_count : (i : ℕ) → 1 ≤ i → (first_digits i + 9 * (groups_of i - 1) ≡ i) × (1 ≤ first_digits i)
unfolding groups_of side
first_count i h = (omega arith, omega arith)

no-digits : (i f : ℕ) (gs : List ℕ) → length (digits_to Digits i f gs (groups_of 0)) ≡ 0
unfolding digits_to groups_of
no-digits i f gs = refl

module _ (i f : ℕ) (gs : List ℕ) where
  abbrev D : List ℕ
  D = digits_to Digits i f gs 9

  abbrev integral : List ℕ
  integral = digits_to Digits i f gs (groups_of i)

  abbrev pointed : List ℕ
  pointed = nines gs (groups_of i) (before f) ++ digits 10 (rest f) (get_or gs (groups_of i + before f) 0 / 10 ^ (9 - rest f))

  split-point : i + f ≤ 65 → 1 ≤ f → D ≡ integral ++ pointed
  unfolding digits_to
  split-point h l =
      let n = fit i f h l in
      let k = suc (groups_of i + before f) in
      let e : k + (9 - k) ≡ 9 = omega arith in
      let r : digits_to Digits i f gs (k + (9 - k)) ≡ digits_to Digits i f gs k = to-rest i f gs k (9 - k) (omega arith) in
      ap (digits_to Digits i f gs) (sym e) ∙ r
      ∙ rw (to-point i f gs (before f) l (omega arith), last-piece i f (get_or gs (groups_of i + before f) 0) l)
      (append_assoc integral (nines gs (groups_of i) (before f)) (digits 10 (rest f) (get_or gs (groups_of i + before f) 0 / 10 ^ (9 - rest f))))

  split-none : i + f ≤ 65 → f ≡ 0 → D ≡ integral ++ []
  split-none h l =
      let n = integral-fit i f h l in
      let e : groups_of i + (9 - groups_of i) ≡ 9 = omega arith in
      ap (digits_to Digits i f gs) (sym e) ∙ to-rest i f gs (groups_of i) (9 - groups_of i) n.1 ∙ sym (append-nil integral)

  integral-is : 1 ≤ i → integral ≡ digits 10 (first_digits i) (get_or gs 0 0) ++ nines gs 1 (groups_of i - 1)
  integral-is h =
      let p = groups-some i h in
      let e : groups_of i ≡ suc (groups_of i - 1) = omega arith in
      ap (digits_to Digits i f gs) e ∙ to_whole i f gs (groups_of i - 1) h (omega arith)

  integral-length : length integral ≡ i
  integral-length = go (leb 1 i) refl
    where
      none : (n : ℕ) → n ≡ 0 → length (digits_to Digits i f gs (groups_of n)) ≡ n
      none n e = rw e (no-digits i f gs)

      go : (t : Bool) → leb 1 i ≡ t → length integral ≡ i
      go true e =
          let h = leb-true 1 i e in
          let a = length_digits 10 (first_digits i) (get_or gs 0 0) in
          let b = length-nines gs 1 (groups_of i - 1) in
          let c = first_count i h in
          let q = length-append (digits 10 (first_digits i) (get_or gs 0 0)) (nines gs 1 (groups_of i - 1)) in
          rw (integral-is h) (omega arith)
      go false e = let z : i ≡ 0 = (let l = leb-false 1 i e in omega arith) in none i z

  -- ---- the text's parts
  whole-none : i ≡ 0 → (w : ℕ) → map show (whole_digits i D) ≡ whole_text (groups_of i) w gs
  unfolding whole_digits whole_text groups_of
  whole-none e w = let z : (i + 8) / 9 ≡ 0 = omega arith in simp (eq-eqb i 0 e, eq-eqb ((i + 8) / 9) 0 z)

  whole-some : (R : List ℕ) (w : ℕ) → D ≡ integral ++ R → 1 ≤ i → get_or gs 0 0 < 10 ^ first_digits i → Significant w (get_or gs 0 0)
      → map show (whole_digits i D) ≡ whole_text (groups_of i) w gs
  unfolding whole_digits whole_text
  whole-some R w q h l s =
      let g = get_or gs 0 0 in
      let A = digits 10 (first_digits i) g in
      let N = nines gs 1 (groups_of i - 1) in
      let p = groups-some i h in
      let c = first_count i h in
      let t : take i D ≡ A ++ N = ap (take i) q ∙ take_at integral R i integral-length ∙ integral-is h in
      let u : take (first_digits i) D ≡ A =
      ap (take (first_digits i)) (q ∙ ap (λ (X : List ℕ). X ++ R) (integral-is h) ∙ append_assoc A N R)
      ∙ take_at A (N ++ R) (first_digits i) (length_digits 10 (first_digits i) g) in
      let v : drop (first_digits i) (take i D) ≡ N = ap (drop (first_digits i)) t ∙ drop_at A N (first_digits i) (length_digits 10 (first_digits i) g) in
      let x : unpadded (take (first_digits i) D) ≡ digits 10 w g =
      ap unpadded u ∙ unpadded-first (first_digits i) w g (as_wide (first_digits i) w g c.1 l s) s in
      simp (ne_eqb i 0 (λ e. omega arith), ne_eqb (groups_of i) 0 (λ e. omega arith)) (rw (x, v))

  point-none : f ≡ 0 → fraction_text i f D ≡ point_text (groups_of i) f gs
  unfolding fraction_text point_text
  point-none e = simp (eq-eqb f 0 e)

  pointed-length : 1 ≤ f → length pointed ≡ f
  pointed-length h =
      let a = length-nines gs (groups_of i) (before f) in
      let b = length_digits 10 (rest f) (get_or gs (groups_of i + before f) 0 / 10 ^ (9 - rest f)) in
      let q = length-append (nines gs (groups_of i) (before f)) (digits 10 (rest f) (get_or gs (groups_of i + before f) 0 / 10 ^ (9 - rest f))) in
      omega arith

  point-some : D ≡ integral ++ pointed → 1 ≤ f → fraction_text i f D ≡ point_text (groups_of i) f gs
  unfolding fraction_text point_text
  point-some q h =
      let t : take f (drop i D) ≡ pointed =
      ap (λ (X : List ℕ). take f (drop i X)) q ∙ ap (take f) (drop_at integral pointed i integral-length) ∙ take_all f pointed (le_of_eq (pointed-length h)) in
      simp (ne_eqb f 0 (λ e. omega arith)) (rw t)

-- ---- how long the parts are
pub whole-count : (n w : ℕ) (gs : List ℕ) → length (whole_text n w gs) ≡ whole_length n w
unfolding whole_text whole_length
whole-count zero w gs = refl
whole-count (suc n) w gs =
    let h : suc n ≡ 0 → ⊥ = λ e. omega arith in
    let A = digits 10 w (get_or gs 0 0) in
    let N = nines gs 1 (suc n - 1) in
    simp (ne_eqb (suc n) 0 h) (length-map (A ++ N) show ∙ length-append A N ∙ rw (length_digits 10 w (get_or gs 0 0), length-nines gs 1 (suc n - 1)))

pub point-count : (n f : ℕ) (gs : List ℕ) → length (point_text n f gs) ≡ fraction_length f
unfolding point_text fraction_length
point-count n zero gs = refl
point-count n (suc f) gs =
    let h : suc f ≡ 0 → ⊥ = λ e. omega arith in
    let A = nines gs n (before (suc f)) in
    let B = digits 10 (rest (suc f)) (get_or gs (n + before (suc f)) 0 / 10 ^ (9 - rest (suc f))) in
    let a = length-nines gs n (before (suc f)) in
    let b = length_digits 10 (rest (suc f)) (get_or gs (n + before (suc f)) 0 / 10 ^ (9 - rest (suc f))) in
    let q = length-append A B in
    let m = length-map (A ++ B) show in
    simp (ne_eqb (suc f) 0 h) (omega arith)

-- ---- the whole text
-- the first group has no more digits than its place
first_fits : (i f : ℕ) (gs : List ℕ) → well_groups i f gs ≡ true → 1 ≤ i → get_or gs 0 0 < 10 ^ first_digits i
unfolding well_groups well_at
first_fits i f gs w h =
    let a = both_true (digits_ok i f) (all 9 (λ j. well_at i f j (get_or gs j 0))) w in
    let p = all-each (λ j. well_at i f j (get_or gs j 0)) 9 a.1 0 (lit< tt) in
    let g = get_or gs 0 0 in
    let u = unit_of i 0 (digits_at i f 0) in
    let b = both_true (eqb (g % u) 0) (ltb (g / u) (10 ^ digits_at i f 0)) p in
    let l = ltb-true (g / u) (10 ^ digits_at i f 0) b.1 in
    rw (integral-unit i f 0 (digits_at i f 0) (groups-some i h), div-one g, first-at i f h) at l

pub text-is : (neg : Bool) (i f : ℕ) (gs : List ℕ) (w : ℕ) → well_groups i f gs ≡ true → Significant w (get_or gs 0 0)
    → text_of neg i f (digits_to Digits i f gs 9) ≡ sign_text neg ++ (whole_text (groups_of i) w gs ++ point_text (groups_of i) f gs)
text-is neg i f gs w v s =
    let h = well-digits i f gs v in
    parts (go (leb 1 f) refl h.1.0)
  where
    Whole : Type 0
    Whole = map show (whole_digits i (digits_to Digits i f gs 9)) ≡ whole_text (groups_of i) w gs

    Point : Type 0
    Point = fraction_text i f (digits_to Digits i f gs 9) ≡ point_text (groups_of i) f gs

    whole : (R : List ℕ) → digits_to Digits i f gs 9 ≡ digits_to Digits i f gs (groups_of i) ++ R → (t : Bool) → leb 1 i ≡ t → Whole
    whole R q true e = whole-some i f gs R w q (leb-true 1 i e) (first_fits i f gs v (leb-true 1 i e)) s
    whole R q false e = whole-none i f gs (let l = leb-false 1 i e in omega arith) w

    go : (t : Bool) → leb 1 f ≡ t → i + f ≤ 65 → Whole × Point
    go true e m =
        let l = leb-true 1 f e in
        let q = split-point i f gs m l in
        (whole _ q (leb 1 i) refl, point-some i f gs q l)
    go false e m =
        let z : f ≡ 0 = (let l = leb-false 1 f e in omega arith) in
        (whole _ (split-none i f gs m z) (leb 1 i) refl, point-none i f gs z)

    parts : Whole × Point → text_of neg i f (digits_to Digits i f gs 9) ≡ sign_text neg ++ (whole_text (groups_of i) w gs ++ point_text (groups_of i) f gs)
    parts p = rw (p.0, p.1)

-- ---- printing a group: with the last of i + 1 digits stored, what is left to print is the i before it
pub put-shown : (out : List ℕ) (at i x : ℕ) → at + i < length out
    → let out' = set out (at + i) (show (x % 10)) in
    take at out' ++ (map show (digits 10 i (x / 10)) ++ drop (at + i) out') ≡ take at out ++ (map show (digits 10 (suc i) x) ++ drop (at + suc i) out)
unfolding digits
put-shown out at i x h =
    let v = show (x % 10) in
    let m : at ≤ at + i = omega arith in
    let d : drop (at + i) (set out (at + i) v) ≡ v ∷ drop (suc (at + i)) out =
    drop-cons (set out (at + i) v) (at + i) 0 (lt-length-set out (at + i) v h)
    ∙ rw (get_or-set_same out (at + i) v 0 h, drop-set-lt (suc (at + i)) out (at + i) v (le_refl (suc (at + i)))) in
    rw (take-set-le at out (at + i) v m, d, map-append show (digits 10 i (x / 10)) (x % 10 ∷ []), append_assoc, add-suc at i)

-- one character
pub put-one : (out : List ℕ) (at v : ℕ) → at < length out → set out at v ≡ take at out ++ (v ∷ drop (at + 1) out)
put-one out at v h = set_split out at v h ∙ rw add-one

-- ---- one part after another, as one text: a second in the middle of an output, and a second and a third at its front
after : (A B out : List ℕ) (at a b : ℕ) → length A ≡ a → at ≤ length out
    → let out₁ = take at out ++ (A ++ drop (at + a) out) in
    take (at + a) out₁ ++ (B ++ drop (at + a + b) out₁) ≡ take at out ++ ((A ++ B) ++ drop (at + a + b) out)
after A B out at a b e h =
    let n : length (take at out ++ A) ≡ at + a = length-append (take at out) A ∙ rw (length-take-le at out h, e) in
    rw (← append_assoc (take at out) A (drop (at + a) out)) (join (take at out ++ A) B out (at + a) b n ∙ simp append_assoc)

pub two-parts : (A B T out : List ℕ) (at b : ℕ) {a p r : ℕ} {out₁ out₂ : List ℕ} → length A ≡ a → at ≤ length out → T ≡ A ++ B → p ≡ at + a → r ≡ p + b
    → out₁ ≡ take at out ++ (A ++ drop p out) → out₂ ≡ take p out₁ ++ (B ++ drop r out₁) → out₂ ≡ take at out ++ (T ++ drop r out)
two-parts A B T out at b {a} n h t ep er e₁ e₂ = e₂ ∙ rw (e₁, t, er, ep) (after A B out at a b n h)

pub three-parts : (S W F out : List ℕ) {out₁ out₂ out₃ : List ℕ} {a b r : ℕ} → a ≡ length S → out₁ ≡ S ++ drop a out
    → b ≡ a + length W → out₂ ≡ take a out₁ ++ (W ++ drop b out₁) → r ≡ b + length F → out₃ ≡ take b out₂ ++ (F ++ drop r out₂)
    → (r ≡ length (S ++ (W ++ F))) × (out₃ ≡ (S ++ (W ++ F)) ++ drop r out)
three-parts S W F out {out₁} {out₂} {out₃} {a} {b} {r} ea e₁ eb e₂ er e₃ =
    let q₂ : out₂ ≡ (S ++ W) ++ drop b out = e₂ ∙ rw (e₁, eb) (join S W out a (length W) (sym ea)) in
    let nb : length (S ++ W) ≡ b = length-append S W ∙ rw (eb, ea) in
    let q₃ : out₃ ≡ ((S ++ W) ++ F) ++ drop r out = e₃ ∙ rw (q₂, er) (join (S ++ W) F out b (length F) nb) in
    (er ∙ sym (simp length-append (omega arith)), q₃ ∙ simp append_assoc)

-- one whole group more
pub nines-more : (gs out : List ℕ) (at from k : ℕ) {p : ℕ} {out₁ out₂ : List ℕ} → from ≤ k → at ≤ length out → p ≡ at + 9 * (k - from)
    → out₁ ≡ take at out ++ (map show (nines gs from (k - from)) ++ drop p out) → out₂ ≡ take p out₁ ++ (map show (digits 10 9 (get_or gs k 0)) ++ drop (p + 9) out₁)
    → out₂ ≡ take at out ++ (map show (nines gs from (k + 1 - from)) ++ drop (p + 9) out)
unfolding nines
nines-more gs out at from k h l ep e₁ e₂ =
    let c = k - from in
    let s : k + 1 - from ≡ suc c = omega arith in
    let q : from + c ≡ k = omega arith in
    let m : map show (nines gs from (k + 1 - from)) ≡ map show (nines gs from c) ++ map show (digits 10 9 (get_or gs k 0)) =
    ap (λ (n : ℕ). map show (nines gs from n)) s ∙ map-append show (nines gs from c) (digits 10 9 (get_or gs (from + c) 0))
    ∙ ap (λ (z : ℕ). map show (nines gs from c) ++ map show (digits 10 9 (get_or gs z 0))) q in
    two-parts (map show (nines gs from c)) (map show (digits 10 9 (get_or gs k 0))) (map show (nines gs from (k + 1 - from))) out at 9
    (length-map (nines gs from c) show ∙ length-nines gs from c) l m ep refl e₁ e₂

pub no_whole : (n w : ℕ) (gs : List ℕ) → n ≡ 0 → (whole_text n w gs ≡ 48 ∷ []) × (whole_length n w ≡ 1)
unfolding whole_text whole_length
no_whole n w gs e = (simp (eq-eqb n 0 e), simp (eq-eqb n 0 e))

pub some-whole : (n w : ℕ) (gs : List ℕ) → (n ≡ 0 → ⊥)
    → (whole_text n w gs ≡ map show (digits 10 w (get_or gs 0 0)) ++ map show (nines gs 1 (n - 1))) × (whole_length n w ≡ w + 9 * (n - 1))
unfolding whole_text whole_length
some-whole n w gs h =
    (simp (ne_eqb n 0 h) (map-append show (digits 10 w (get_or gs 0 0)) (nines gs 1 (n - 1))), simp (ne_eqb n 0 h))

pub no-point : (n f : ℕ) (gs : List ℕ) → f ≡ 0 → (point_text n f gs ≡ []) × (fraction_length f ≡ 0)
unfolding point_text fraction_length
no-point n f gs e = (simp (eq-eqb f 0 e), simp (eq-eqb f 0 e))

pub some-point : (n f : ℕ) (gs : List ℕ) → (f ≡ 0 → ⊥)
    → (point_text n f gs ≡ (46 ∷ map show (nines gs n (before f))) ++ map show (digits 10 (rest f) (get_or gs (n + before f) 0 / 10 ^ (9 - rest f))))
    × (fraction_length f ≡ f + 1)
unfolding point_text fraction_length
some-point n f gs h =
    let N = nines gs n (before f) in
    let L = digits 10 (rest f) (get_or gs (n + before f) 0 / 10 ^ (9 - rest f)) in
    (simp (ne_eqb f 0 h) (ap (λ (X : List ℕ). 46 ∷ X) (map-append show N L)), simp (ne_eqb f 0 h))
