-- A zero that is answered is well formed, so it is positive; and of zero groups a minus changes nothing, so both zeros are read alike.
-- Assumes nothing.
use mathlib.Core.Path.{◌≡◌, refl, sym, ap, ◌∙◌, subst}
use mathlib.Core.Bool.{Bool, true, false, cond, not}
use mathlib.Core.List.{List, [], ◌∷◌, append-nil}
use Prim.Native.Nat.{ℕ, zero, suc, ◌+◌, ◌-◌, ◌*◌, ◌≤◌, ◌<◌}
use native.Mathlib.Nat.{le_of_eq}
use native.Mathlib.Omega.{arith}
use lib.Dec.{T, eqb}
use lib.IntN.{ℤ, pos}
use lib.Signed.{lt_z}
use lib.ListN.{length, get_or, take, drop, replicate, length-replicate, get_or-replicate, take-append-drop}
use lib.Seq.{ext_get_or, length-take-le}
use borrow.Author.Tests.{eqb-true, le-ltb}
use Rattle.std.specs.Prelude.{Result, Ok, Err}
use Rattle.refusal.specs.declared.Refusal.{Refusal}
use Rattle.groups.specs.Numbers.{both, all, tab, leading_in, Below}
use Rattle.groups.specs.Layout.{groups_of, form_of, size}
use Rattle.groups.specs.Read.{in_range, zeros}
use Rattle.groups.specs.Sign.{is_nought, below_zero}
use Rattle.groups.specs.Write.{well_groups, written}
use Rattle.groups.proofs.Accept.{both_true, in-range}
use Rattle.groups.proofs.Sign.{nought-of, formed-sign, formed-zero}
use Rattle.groups.proofs.Sizes.{packed-size, size-pos}
use Rattle.groups.proofs.Tab.{all-each, tab-at, zeros-at}
use Rattle.kept.specs.Kept.{Kept, without}
use Rattle.order.specs.Value.{magnitude, signed}
use Rattle.order.proofs.Values.{below-magnitude}
use Rattle.decimal.specs.Read.{negative, decimal_of, or_nought, finished, from_groups, read_bin, read_packed}
use Rattle.decimal.specs.Write.{is_well}
use Rattle.decimal.specs.Value.{value}
use Rattle.decimal.specs.Text.{parse_text}
use Rattle.decimal.specs.declared.Decimal.{Decimal}
use Rattle.decimal_laws.specs.Valued.{valued}
use Rattle.decimal_laws.specs.Zero.{is_negative_zero, positive_zero}
use Rattle.decimal_laws.proofs.Formed.{zero-well, read-nine, read-formed, packed-formed, parse-formed}
use Rattle.decimal_laws.proofs.Kept.{same-value}
use Rattle.decimal_laws.proofs.Later.{later-bytes}
use Rattle.decimal_laws.proofs.RoundTrip.{was_read, kept, well-of, groups_at, bytes-are, sign-back, groups-back}
use Rattle.decimal_laws.proofs.Zero.{zero_bytes, zero-written, negative-zero}

-- ---- a zero that is answered
pub read-zero : (bs : List ℕ) (p s : ℕ) (keep : Bool) → Below 256 bs → (d : Decimal) → read_bin bs p s keep ≡ Ok d → is_nought d.groups ≡ true → d.sign ≡ false
read-zero bs p s keep h d e z = formed-zero _ _ _ _ (read-formed bs p s keep h d e) z

pub packed_zero : (bs : List ℕ) (keep : Bool) → Below 256 bs → (d : Decimal) → read_packed bs keep ≡ Ok d → is_nought d.groups ≡ true → d.sign ≡ false
packed_zero bs keep h d e z = formed-zero _ _ _ _ (packed-formed bs keep h d e) z

pub parse-zero : (bs : List ℕ) (d : Decimal) → parse_text bs ≡ Ok d → is_nought d.groups ≡ true → d.sign ≡ false
parse-zero bs d e z = formed-zero _ _ _ _ (parse-formed bs d e) z

-- ---- the sign is that of the value
sign-is : (neg : Bool) (m : ℕ) → (neg ≡ true → 0 < m) → neg ≡ lt_z (signed neg m) (pos 0)
sign-is true zero h = let l = h refl in absurd (omega arith)
sign-is true (suc m) h = refl
sign-is false m h = sym (le-ltb m 0 (omega arith))

-- A well formed decimal has a sign exactly where its value is below zero.
pub value-sign : (d : Decimal) → length d.groups ≡ 9 → is_well d ≡ true → d.sign ≡ lt_z (value d) (pos 0)
unfolding value
value-sign d n w =
    sign-is d.sign (magnitude (groups_of d.intg) d.groups)
    (λ s. below-magnitude (groups_of d.intg) d.groups n (rw s at (formed-sign d.sign d.intg d.frac d.groups w)))

-- With kept precision or without the sign is the same.
pub same_sign : (bs : List ℕ) (p s : ℕ) (d e : Decimal) → Below 256 bs → read_bin bs p s false ≡ Ok d → read_bin bs p s true ≡ Ok e → d.sign ≡ e.sign
same_sign bs p s d e h a b =
    let v : value d ≡ value e = cc (same-value bs p s, ap valued a, ap valued b) in
    value-sign d (read-nine bs p s false d a) (read-formed bs p s false h d a)
    ∙ ap (λ (v : ℤ). lt_z v (pos 0)) v
    ∙ sym (value-sign e (read-nine bs p s true e b) (read-formed bs p s true h e b))

but-zero : (neg t : Bool) → both neg (not t) ≡ both neg (not (both neg t))
but-zero true t = refl
but-zero false t = refl

kept-sign : (bs : List ℕ) (p s : ℕ) (d : Decimal) → Below 256 bs → 1 ≤ p → read_bin bs p s true ≡ Ok d → d.sign ≡ both (negative bs) (not (is_negative_zero (take (size (p - s) s) bs)))
unfolding decimal_of below_zero
kept-sign bs p s d h l e =
    let w = was_read bs p s true d e in
    let g = bytes-are bs p s true d h l w in
    let z = sym (ap is_negative_zero g.1) ∙ negative-zero (p - s) s (groups_at bs p s) g.0 (negative bs) in
    ap (λ (a : Decimal). a.sign) (kept bs p s d l w) ∙ but-zero (negative bs) (is_nought (groups_at bs p s)) ∙ rw z

-- What is read is negative where its bytes say so, except for a negative zero; with kept precision or without.
pub read-sign : (bs : List ℕ) (p s : ℕ) (keep : Bool) (d : Decimal) → Below 256 bs → 1 ≤ p → read_bin bs p s keep ≡ Ok d
    → d.sign ≡ both (negative bs) (not (is_negative_zero (take (size (p - s) s) bs)))
read-sign bs p s true d h l e = kept-sign bs p s d h l e
read-sign bs p s false d h l e = go (read_bin bs p s true) refl
  where
    go : (r : Result Decimal Refusal) → read_bin bs p s true ≡ r → d.sign ≡ both (negative bs) (not (is_negative_zero (take (size (p - s) s) bs)))
    go (Ok k) q = same_sign bs p s d k h e q ∙ kept-sign bs p s k h l q
    go (Err n) q = absurd (cc (same-value bs p s, ap valued e, ap valued q))

-- ---- of zero groups the sign does not matter
of-zeros : (i f : ℕ) (gs : List ℕ) → is_nought gs ≡ true → or_nought i f true gs ≡ or_nought i f false gs
unfolding or_nought decimal_of below_zero
of-zeros i f gs z = simp z

none_left : (z : ℕ) → is_nought (tab 9 (λ k. get_or zeros (k + z) 0)) ≡ true
none_left z = nought-of _ (λ k l. tab-at 9 (λ k. get_or zeros (k + z) 0) k l ∙ zeros-at 9 (k + z))

zeros-nought : is_nought zeros ≡ true
unfolding is_nought
zeros-nought = refl

same-finished : (keep : Bool) (i f : ℕ) → finished keep i f true zeros ≡ finished keep i f false zeros
unfolding finished without
same-finished true i f = of-zeros i f zeros zeros-nought
same-finished false i f = go (eqb z 0)
  where
    z : ℕ
    z = leading_in (groups_of i) zeros

    kept : Bool → Kept
    kept t = cond t (record { intg = i; groups = zeros }) (record { intg = 9 * (groups_of i - z); groups = tab 9 (λ k. get_or zeros (k + z) 0) })

    go : (t : Bool) → or_nought (kept t).intg f true (kept t).groups ≡ or_nought (kept t).intg f false (kept t).groups
    go true = of-zeros i f zeros zeros-nought
    go false = of-zeros _ f _ (none_left z)

-- ---- the bytes of a negative zero are no others
only_zero : (bs : List ℕ) → is_negative_zero bs ≡ true → bs ≡ zero_bytes true (length bs - 1)
unfolding is_negative_zero
only_zero [] e = absurd (subst T (sym e) tt)
only_zero (b ∷ bs) e =
    let n = length bs in
    let t = both_true (eqb b 127) (all n (λ k. eqb (get_or bs k 0) 255)) e in
    let q : suc n - 1 ≡ n = omega arith in
    let x : bs ≡ replicate n 255 =
    ext_get_or 0 bs (replicate n 255) (sym (length-replicate n 255))
    (λ k l. eqb-true _ _ (all-each (λ k. eqb (get_or bs k 0) 255) n t.1 k l) ∙ sym (get_or-replicate n k 255 0 l)) in
    rw (eqb-true b 127 t.0, q) (ap (λ (xs : List ℕ). 127 ∷ xs) x)

-- ---- zero groups, written with a minus and without, and read
nonempty : (n : ℕ) → 1 ≤ n → positive_zero n ≡ zero_bytes false (n - 1)
unfolding positive_zero
nonempty zero h = absurd (omega arith)
nonempty (suc n) h = let q : suc n - 1 ≡ n = omega arith in rw q

module _ (p s : ℕ) (r : in_range p s ≡ true) (l : 1 ≤ p) where
  zeros-well : well_groups (p - s) s zeros ≡ true
  zeros-well = let h = in-range p s r in well-of (p - s) s zeros (omega arith) (omega arith) h.1.0 (λ k m. rw (zeros-at 9 k) (zero-well (p - s) s k))

  zeros-are : (neg : Bool) → written (form_of neg) (p - s) s zeros ≡ zero_bytes neg (size (p - s) s - 1)
  zeros-are neg = rw (packed-size neg (p - s) s) at (zero-written (p - s) s zeros zeros-well neg zeros-nought)

  zeros-read : (neg keep : Bool) → read_bin (written (form_of neg) (p - s) s zeros) p s keep ≡ Ok (finished keep (p - s) s neg zeros)
  unfolding read_bin from_groups
  zeros-read neg keep =
      let h = in-range p s r in
      let q : p - s + s ≡ p = omega arith in
      let a = rw append-nil at (sign-back neg (p - s) s zeros [] refl zeros-well) in
      let b = rw (append-nil, q) at (groups-back neg (p - s) s zeros [] refl zeros-well) in
      rw (a, b)

  same-zero : (keep : Bool) → read_bin (written (form_of true) (p - s) s zeros) p s keep ≡ read_bin (written (form_of false) (p - s) s zeros) p s keep
  same-zero keep = zeros-read true keep ∙ ap Ok (same-finished keep (p - s) s) ∙ sym (zeros-read false keep)

  -- A negative zero at the front of the bytes is read as the positive zero.
  pub either-zero : (bs : List ℕ) (keep : Bool) → size (p - s) s ≤ length bs → is_negative_zero (take (size (p - s) s) bs) ≡ true
      → read_bin bs p s keep ≡ read_bin (positive_zero (size (p - s) s)) p s keep
  either-zero bs keep m z =
      let n = size (p - s) s in
      let h = in-range p s r in
      let c = length-take-le n bs m in
      let e : take n bs ≡ written (form_of true) (p - s) s zeros = only_zero (take n bs) z ∙ rw c (sym (zeros-are true)) in
      let o = size-pos (p - s) s (omega arith) (omega arith) in
      ap (λ (xs : List ℕ). read_bin xs p s keep) (sym (take-append-drop n bs))
      ∙ later-bytes (take n bs) (drop n bs) p s keep (le_of_eq (sym c))
      ∙ ap (λ (xs : List ℕ). read_bin xs p s keep) e
      ∙ same-zero keep
      ∙ ap (λ (xs : List ℕ). read_bin xs p s keep) (zeros-are false ∙ sym (nonempty n o))
