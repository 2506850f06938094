-- Groups that are all zero are written 80 00 .. 00, and with a minus would be 7F FF .. FF; no other well formed groups would be written so.
-- Assumes nothing.
use mathlib.Core.Path.{◌≡◌, refl, sym, ap, ◌∙◌}
use mathlib.Core.Bool.{Bool, true, false, cond, not}
use mathlib.Core.Logic.{⊎_elim}
use mathlib.Core.List.{List, [], ◌∷◌, map}
use Prim.Native.Nat.{ℕ, zero, suc, ◌-◌, ◌≤◌, ◌<◌}
use native.Mathlib.Nat.{zero-div, zero-mod, zero-mul, le_trans, le-suc, le_refl}
use native.Mathlib.Numerals.{add-one}
use native.Mathlib.Omega.{arith}
use lib.Dec.{eqb, lit<}
use lib.ListN.{length, get_or, take, drop, replicate, length-map, length-replicate, get_or-replicate, replicate-append-replicate, get_or-eq_default}
use borrow.Author.Tests.{eq-eqb, eqb-true}
use Rattle.groups.specs.Numbers.{digits, both, all, Below}
use Rattle.groups.specs.Layout.{form_of, wide_of, base_of, digits_at, offset, size_in, Form}
use Rattle.groups.specs.Packed.{flip, flip_first, invert, bytes_of}
use Rattle.groups.specs.Read.{group_at, stored_at}
use Rattle.groups.specs.Sign.{is_nought, below_zero}
use Rattle.groups.specs.Write.{group_digits, digits_to, well_groups, written}
use Rattle.std.proofs.lemmas.List.{get_or-map}
use Rattle.std.proofs.lemmas.Bool.Decides.{nat_tests}
use Rattle.groups.proofs.Accept.{both_true, well-digits}
use Rattle.groups.proofs.Caps.{same_test, below_or_not}
use Rattle.groups.proofs.Opened.{below-take, below-drop}
use Rattle.groups.proofs.Sign.{nought-of, nought-each}
use Rattle.groups.proofs.Sizes.{packed-size, size-pos}
use Rattle.groups.proofs.Store.{length-written, to_below}
use Rattle.groups.proofs.Tab.{all_true, all-each}
use Rattle.order.proofs.Lex.{all-zero}
use Rattle.decimal_laws.specs.Zero.{is_negative_zero, positive_zero, comes_back}
use Rattle.decimal_laws.proofs.Places.{each-well, stored-written, first_byte}

-- ---- the digits of zero groups are zeros
zero-digits : (b n : ℕ) → digits b n 0 ≡ replicate n 0
unfolding digits
zero-digits b zero = refl
zero-digits b (suc n) = rw (zero-div, zero-mod, zero-digits b n) (replicate-append-replicate n 1 0 ∙ rw add-one)

digits-zero : (F : Form) (i f : ℕ) (gs : List ℕ) → is_nought gs ≡ true → (k : ℕ) → k ≤ 9 → digits_to F i f gs k ≡ replicate (offset F i f k) 0
unfolding digits_to offset group_digits
digits-zero F i f gs z zero l = refl
digits-zero F i f gs z (suc k) l =
    rw (digits-zero F i f gs z k (le_trans (le-suc k) l), nought-each gs z k l, zero-div, zero-digits)
    (replicate-append-replicate (offset F i f k) (wide_of F (digits_at i f k)) 0)

-- ---- and its bytes
invert-zeros : (n : ℕ) → map invert (replicate n 0) ≡ replicate n 255
invert-zeros zero = refl
invert-zeros (suc n) = rw (invert-zeros n)

abbrev pub zero_bytes : Bool → ℕ → List ℕ
zero_bytes true n = 0x7F ∷ replicate n 0xFF
zero_bytes false n = 0x80 ∷ replicate n 0x00

zero-bytes : (neg : Bool) (n : ℕ) → bytes_of (form_of neg) (replicate (suc n) 0) ≡ zero_bytes neg n
unfolding bytes_of flip_first flip
zero-bytes true n = rw (invert-zeros n)
zero-bytes false n = refl

zero_is : (n : ℕ) → is_negative_zero (zero_bytes true n) ≡ true
unfolding is_negative_zero
zero_is n =
    rw (length-replicate {A = ℕ} n 255)
    (all_true (λ k. eqb (get_or (replicate n 255) k 0) 255) n (λ k l. eq-eqb (get_or (replicate n 255) k 0) 255 (get_or-replicate n k 255 0 l)))

-- ---- only digits that are all zero have the bytes of a negative zero
first-zero : (b : ℕ) → b < 256 → eqb (flip (invert b)) 127 ≡ true → b ≡ 0
unfolding flip
first-zero b h e = grind (arith, nat_tests)

abbrev ended : List ℕ → Bool
ended bs = all (length bs) (λ k. eqb (get_or bs k 0) 255)

later-zero : (ds : List ℕ) → Below 256 ds → ended (map invert ds) ≡ true → (k : ℕ) → get_or ds k 0 ≡ 0
later-zero ds h e k = ⊎_elim inside (λ (l : length ds ≤ k). get_or-eq_default ds 0 l) (below_or_not k (length ds))
  where
    inside : k < length ds → get_or ds k 0 ≡ 0
    inside l =
        let a : get_or (map invert ds) k 0 ≡ 255 = eqb-true _ _ (all-each (λ k. eqb (get_or (map invert ds) k 0) 255) (length (map invert ds)) e k (rw (length-map ds invert) l)) in
        let b = get_or-map invert ds k 0 0 l in
        let c = h k in
        omega arith

inverted-zero : (ds : List ℕ) → Below 256 ds → is_negative_zero (bytes_of (form_of true) ds) ≡ true → (k : ℕ) → get_or ds k 0 ≡ 0
unfolding bytes_of flip_first is_negative_zero
inverted-zero [] h e k = refl
inverted-zero (d ∷ ds) h e zero = first-zero d (h 0) (both_true (eqb (flip (invert d)) 127) (ended (map invert ds)) e).0
inverted-zero (d ∷ ds) h e (suc k) = later-zero ds (λ j. h (suc j)) (both_true (eqb (flip (invert d)) 127) (ended (map invert ds)) e).1 k

-- a first digit below 128 has its first bit set where it is not inverted
plain-none : (ds : List ℕ) → get_or ds 0 0 < 128 → is_negative_zero (bytes_of (form_of false) ds) ≡ false
unfolding bytes_of flip_first is_negative_zero flip
plain-none [] h = refl
plain-none (d ∷ ds) h = let e : eqb (flip d) 127 ≡ false = grind (arith, nat_tests) in simp e

-- ---- groups
-- digits that are all zero are those of zero groups
none-stored : (F : Form) (i f : ℕ) (ds : List ℕ) → ((k : ℕ) → get_or ds k 0 ≡ 0) → (k : ℕ) → stored_at F i f ds k ≡ 0
unfolding stored_at group_at
none-stored F i f ds h k =
    let w = wide_of F (digits_at i f k) in
    let o = offset F i f k in
    let b : Below 1 ds = λ j. let e = h j in omega arith in
    let z : (j : ℕ) → j < length (take w (drop o ds)) → get_or (take w (drop o ds)) j 0 ≡ 0 = λ j l. let s = below-take 1 w (drop o ds) (below-drop 1 o ds b) j in omega arith in
    rw (all-zero (base_of F) (take w (drop o ds)) z, zero-mul)

module _ (i f : ℕ) (gs : List ℕ) (w : well_groups i f gs ≡ true) where
  -- a decimal has a byte
  some : (neg : Bool) → 1 ≤ size_in (form_of neg) i f
  some neg = let h = well-digits i f gs w in rw (packed-size neg i f) (size-pos i f h.1.0 h.0)

  pub zero-written : (neg : Bool) → is_nought gs ≡ true → written (form_of neg) i f gs ≡ zero_bytes neg (size_in (form_of neg) i f - 1)
  unfolding written
  zero-written neg z =
      let n = size_in (form_of neg) i f in
      let l = some neg in
      let e : n ≡ suc (n - 1) = omega arith in
      rw (digits-zero (form_of neg) i f gs z 9 (le_refl 9)) (ap (λ (m : ℕ). bytes_of (form_of neg) (replicate m 0)) e ∙ zero-bytes neg (n - 1))

  -- the bytes of a negative zero are written of zero groups alone, and inverted
  pub negative-zero : (neg : Bool) → is_negative_zero (written (form_of neg) i f gs) ≡ both neg (is_nought gs)
  unfolding written
  negative-zero false = plain-none (digits_to (form_of false) i f gs 9) (first_byte false i f gs (well-digits i f gs w).0 (each-well i f gs w 0 (lit< tt)))
  negative-zero true =
      let D = digits_to (form_of true) i f gs 9 in
      same_test (is_negative_zero (bytes_of (form_of true) D)) (is_nought gs)
      (λ e. nought-of gs (λ k l. sym (stored-written (form_of true) i f gs k l (each-well i f gs w k l)) ∙ none-stored (form_of true) i f D (inverted-zero D (to_below (form_of true) i f gs 9) e) k))
      (λ z. ap is_negative_zero (zero-written true z) ∙ zero_is (size_in (form_of true) i f - 1))

  -- so the bytes come back as those with the sign of the value
  pub comes_back_lem : (neg : Bool) → comes_back (written (form_of neg) i f gs) ≡ written (form_of (below_zero neg gs)) i f gs
  unfolding comes_back below_zero positive_zero
  comes_back_lem false = simp (negative-zero false)
  comes_back_lem true = simp (negative-zero true) (go (is_nought gs) refl)
    where
      go : (t : Bool) → is_nought gs ≡ t
          → cond t (positive_zero (length (written (form_of true) i f gs))) (written (form_of true) i f gs) ≡ written (form_of (not t)) i f gs
      go false e = refl
      go true e =
          let n = size_in (form_of false) i f in
          let l = some false in
          let m = packed-size true i f in
          let q : size_in (form_of true) i f ≡ suc (n - 1) = omega arith in
          rw (length-written (form_of true) i f gs, q, zero-written false e)
