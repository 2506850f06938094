-- Reading then writing gives back the digit bytes, but for a negative zero; writing then reading, a well formed decimal. Both with kept precision.
-- Assumes nothing.
use mathlib.Core.Path.{◌≡◌, refl, sym, ap, ◌∙◌}
use mathlib.Core.Bool.{Bool, true, false}
use mathlib.Core.List.{List, [], ◌∷◌, ◌++◌}
use Prim.Native.Nat.{ℕ, zero, suc, ◌+◌, ◌-◌, ◌/◌, ◌≤◌, ◌<◌}
use native.Mathlib.Nat.{le_trans, le-suc, le_refl, le_of_eq, mul-div_cancel, mul-mod_left}
use native.Mathlib.Omega.{arith}
use lib.Dec.{eqb, lit<}
use lib.ListN.{length, get_or, take, drop, length-drop, length-append}
use lib.Seq.{take-add}
use borrow.Author.Tests.{le-leb, ne_eqb}
use Rattle.std.specs.Prelude.{Result, Ok, Err}
use Rattle.refusal.specs.declared.Refusal.{Refusal}
use Rattle.refusal.specs.Told.{answer}
use Rattle.groups.specs.Numbers.{tab, all, Below}
use Rattle.groups.specs.Layout.{form_of, base_of, wide_of, digits_at, offset, size_in, size, Form}
use Rattle.groups.specs.Packed.{digits_in}
use Rattle.groups.specs.Read.{in_range, group_at, range_at, stored_at, unit_of, read_groups}
use Rattle.groups.specs.Write.{digits_ok, group_digits, digits_to, well_at, well_groups, written}
use Rattle.groups.specs.Sign.{below_zero}
use Rattle.groups.proofs.Accept.{in-range, well-digits}
use Rattle.groups.proofs.Tab.{tab-at, filled, all_true, all-each}
use Rattle.groups.proofs.Radix.{digits_number}
use Rattle.groups.proofs.Marks.{length-in}
use Rattle.groups.proofs.Places.{within, unit-pos}
use Rattle.groups.proofs.Opened.{opened, reads, below-drop, range-of}
use Rattle.groups.proofs.Store.{length_to, length-written, to_below}
use Rattle.groups.proofs.Room.{writes}
use Rattle.groups.proofs.Sign.{formed-groups, formed-sign, formed-of}
use Rattle.groups.proofs.Sizes.{packed-size, size-pos}
use Rattle.decimal.specs.Read.{negative, decimal_of, or_nought, finished, from_groups, read_bin}
use Rattle.decimal.specs.Write.{is_well, packed, write_bin, bin_leaves}
use Rattle.decimal.specs.declared.Decimal.{Decimal}
use Rattle.decimal_laws.specs.Zero.{comes_back}
use Rattle.decimal_laws.proofs.Bytes.{digits-below, read-bytes, after, write_bytes, write-sign}
use Rattle.decimal_laws.proofs.Places.{range_front, stored-front, each-well, range-written, stored-written, first_byte}
use Rattle.decimal_laws.proofs.Zero.{comes_back_lem}

-- ---- groups that were read, written again
module _ (F : Form) (i f : ℕ) (ds : List ℕ) (h : Below (base_of F) ds) (l : size_in F i f ≤ length ds) where
  unscaled : (k : ℕ) → k < 9 → get_or (tab 9 (stored_at F i f ds)) k 0 / unit_of i k (digits_at i f k) ≡ group_at F i f ds k
  unfolding stored_at
  unscaled k m = rw (tab-at 9 (stored_at F i f ds) k m) (mul-div_cancel (group_at F i f ds k) (unit-pos i k (digits_at i f k)))

  pub again : (k : ℕ) → k ≤ 9 → digits_to F i f (tab 9 (stored_at F i f ds)) k ≡ take (offset F i f k) ds
  unfolding digits_to offset group_at group_digits
  again zero m = refl
  again (suc k) m =
      let o = offset F i f k in
      let w = wide_of F (digits_at i f k) in
      let e = within F i f k m in
      rw (again k (le_trans (le-suc k) m), unscaled k m, digits_number (base_of F) (drop o ds) (below-drop (base_of F) o ds h) w (simp length-drop (omega arith)), take-add)

  pub well-read : ((k : ℕ) → k < 9 → range_at F i f ds k ≡ true) → (k : ℕ) → k < 9 → well_at i f k (get_or (tab 9 (stored_at F i f ds)) k 0) ≡ true
  unfolding well_at range_at stored_at
  well-read r k m = rw (unscaled k m, tab-at 9 (stored_at F i f ds) k m, mul-mod_left (group_at F i f ds k) (unit_of i k (digits_at i f k))) (r k m)

-- ---- reading without a refusal
-- the form of bytes, and the groups in them
abbrev pub form_at : List ℕ → Form
form_at bs = form_of (negative bs)

abbrev pub groups_at : List ℕ → ℕ → ℕ → List ℕ
groups_at bs p s = tab 9 (stored_at (form_at bs) (p - s) s (digits_in (form_at bs) bs))

-- What is known of a decimal that was read: its bytes passed the three tests, and it is made of the groups in them.
pub record WasRead (bs : List ℕ) (p s : ℕ) (keep : Bool) (d : Decimal) : Type 0 where
  pub range : in_range p s ≡ true
  pub fits : size_in (form_at bs) (p - s) s ≤ length bs
  pub each : all 9 (range_at (form_at bs) (p - s) s (digits_in (form_at bs) bs)) ≡ true
  pub is : d ≡ finished keep (p - s) s (negative bs) (groups_at bs p s)

pub was_read : (bs : List ℕ) (p s : ℕ) (keep : Bool) (d : Decimal) → read_bin bs p s keep ≡ Ok d → WasRead bs p s keep d
unfolding read_bin from_groups
was_read bs p s keep d e = go (read_groups (form_at bs) bs p s) refl e
  where
    go : (g : Result (List ℕ) Refusal) → read_groups (form_at bs) bs p s ≡ g → from_groups g (p - s) s (negative bs) keep ≡ Ok d → WasRead bs p s keep d
    go (Err r) q h = absurd (cc)
    go (Ok gs) q h =
        let o = opened (form_at bs) bs p s gs q in
        let i : d ≡ finished keep (p - s) s (negative bs) gs = cc in
        record { range = o.0; fits = o.1.0; each = o.1.1.0; is = i ∙ ap (finished keep (p - s) s (negative bs)) o.1.1.1 }

-- with kept precision it is these groups
pub kept : (bs : List ℕ) (p s : ℕ) (d : Decimal) → 1 ≤ p → WasRead bs p s true d → d ≡ decimal_of (p - s) s (negative bs) (groups_at bs p s)
unfolding finished or_nought
kept bs p s d l w =
    let r = in-range p s w.range in
    let n : eqb (p - s + s) 0 ≡ false = ne_eqb (p - s + s) 0 (λ (q : p - s + s ≡ 0). omega arith) in
    w.is ∙ simp n

-- ---- the form of a sign
pub packed-base : (neg : Bool) → base_of (form_of neg) ≡ 256
packed-base true = refl
packed-base false = refl

pub well-of : (i f : ℕ) (gs : List ℕ) → 1 ≤ i + f → i + f ≤ 65 → f ≤ 30 → ((k : ℕ) → k < 9 → well_at i f k (get_or gs k 0) ≡ true) → well_groups i f gs ≡ true
unfolding well_groups digits_ok
well-of i f gs a b c h = simp (le-leb _ _ a, le-leb _ _ b, le-leb _ _ c) (all_true (λ k. well_at i f k (get_or gs k 0)) 9 h)

-- the groups that are read from bytes are well formed, and written with the sign of the bytes they are these bytes
pub bytes-are : (bs : List ℕ) (p s : ℕ) (keep : Bool) (d : Decimal) → Below 256 bs → 1 ≤ p → WasRead bs p s keep d
    → (well_groups (p - s) s (groups_at bs p s) ≡ true) × (written (form_at bs) (p - s) s (groups_at bs p s) ≡ take (size (p - s) s) bs)
unfolding written
bytes-are bs p s keep d h l w =
    let neg = negative bs in
    let F = form_of neg in
    let ds = digits_in F bs in
    let r = in-range p s w.range in
    let b : Below (base_of F) ds = rw (packed-base neg) (digits-below neg bs h) in
    let m : size_in F (p - s) s ≤ length ds = rw (length-in F bs) w.fits in
    let t : written F (p - s) s (groups_at bs p s) ≡ take (size_in F (p - s) s) bs = rw (again F (p - s) s ds b m 9 (le_refl 9)) (read-bytes neg bs h (size_in F (p - s) s)) in (
      well-of (p - s) s (groups_at bs p s) (omega arith) (omega arith) r.1.0 (well-read F (p - s) s ds b m (all-each (range_at F (p - s) s ds) 9 w.each)),
      rw (packed-size neg (p - s) s) at t,
    )

-- ---- the laws
-- Reading then writing: what the digit bytes read come back as, and nothing else changes.
pub read-write : (bs out : List ℕ) (p s : ℕ) (d : Decimal) → Below 256 bs → 1 ≤ p → read_bin bs p s true ≡ Ok d → size (p - s) s ≤ length out
    → (is_well d ≡ true) × ((write_bin d out ≡ answer (size (p - s) s ∷ [])) × (bin_leaves d out ≡ comes_back (take (size (p - s) s) bs) ++ drop (size (p - s) s) out))
unfolding decimal_of
read-write bs out p s d h l e n =
    let neg = negative bs in
    let gs = groups_at bs p s in
    let v = below_zero neg gs in
    let x = was_read bs p s true d e in
    let g = bytes-are bs p s true d h l x in
    let w = formed-of neg (p - s) s gs g.0 in
    let y = writes v (p - s) s gs out w (rw (packed-size v (p - s) s) n) in
    let u : written (form_of v) (p - s) s gs ≡ comes_back (take (size (p - s) s) bs) = sym (comes_back_lem (p - s) s gs g.0 neg) ∙ ap comes_back g.1 in
    rw (kept bs p s d l x) (w, (rw (packed-size v (p - s) s) at y.0, rw (packed-size v (p - s) s) at (y.1 ∙ ap (λ (x : List ℕ). x ++ drop (size_in (form_of v) (p - s) s) out) u)))

-- groups that were written, read again
module _ (neg : Bool) (i f : ℕ) (gs rest : List ℕ) (n : length gs ≡ 9) (w : well_groups i f gs ≡ true) where
  some : 0 < length (digits_to (form_of neg) i f gs 9)
  some = let h = well-digits i f gs w in rw (length_to (form_of neg) i f gs 9, packed-size neg i f) (size-pos i f h.1.0 h.0)

  pub sign-back : negative (written (form_of neg) i f gs ++ rest) ≡ neg
  unfolding written
  sign-back = write-sign neg (digits_to (form_of neg) i f gs 9) rest some (first_byte neg i f gs (well-digits i f gs w).0 (each-well i f gs w 0 (lit< tt)))

  digits-back : digits_in (form_of neg) (written (form_of neg) i f gs ++ rest) ≡ digits_to (form_of neg) i f gs 9 ++ after neg rest
  unfolding written
  digits-back = write_bytes neg (digits_to (form_of neg) i f gs 9) rest some (rw (packed-base neg) at (to_below (form_of neg) i f gs 9))

  pub groups-back : read_groups (form_of neg) (written (form_of neg) i f gs ++ rest) (i + f) f ≡ Ok gs
  groups-back =
      let F = form_of neg in
      let BS = written F i f gs ++ rest in
      let D = digits_to F i f gs 9 in
      let X = after neg rest in
      let h = well-digits i f gs w in
      let e : i + f - f ≡ i = omega arith in
      let l : size_in F i f ≤ length BS = (let q = length-append (written F i f gs) rest in let m = length-written F i f gs in omega arith) in
      let m : size_in F i f ≤ length D = le_of_eq (sym (length_to F i f gs 9)) in
      let a : all 9 (range_at F i f (D ++ X)) ≡ true = all_true (range_at F i f (D ++ X)) 9 (λ k j. range_front F i f D X m k j ∙ range-written F i f gs k j (each-well i f gs w k j)) in
      let t : gs ≡ tab 9 (stored_at F i f (D ++ X)) =
      filled 9 (stored_at F i f (D ++ X)) gs n (λ k j. sym (stored-front F i f D X m k j ∙ stored-written F i f gs k j (each-well i f gs w k j))) in
      reads F BS (i + f) f (range-of i f h.1.1 h.1.0) (rw e l) (rw (e, digits-back) a) ∙ rw (e, digits-back, ← t)

-- Writing then reading, whatever follows: the decimal.
pub write_read : (d : Decimal) (rest : List ℕ) → length d.groups ≡ 9 → is_well d ≡ true → read_bin (packed d ++ rest) (d.intg + d.frac) d.frac true ≡ Ok d
unfolding read_bin from_groups finished or_nought decimal_of
write_read d rest n w =
    let g = formed-groups d.sign d.intg d.frac d.groups w in
    let h = well-digits d.intg d.frac d.groups g in
    let z : eqb (d.intg + d.frac) 0 ≡ false = ne_eqb (d.intg + d.frac) 0 (λ (q : d.intg + d.frac ≡ 0). omega arith) in
    let e : d.intg + d.frac - d.frac ≡ d.intg = omega arith in
    rw (sign-back d.sign d.intg d.frac d.groups rest n g, groups-back d.sign d.intg d.frac d.groups rest n g, e) (simp (z, formed-sign d.sign d.intg d.frac d.groups w))
