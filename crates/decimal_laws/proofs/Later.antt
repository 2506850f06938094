-- Bytes after those that a decimal takes are not read: with them and without them the answer is the same. The sign stands in the first byte, each
-- group in its own bytes, and 0 with 0 looks at none.
-- Assumes nothing.
use mathlib.Core.Path.{◌≡◌, refl, sym, ◌∙◌}
use mathlib.Core.Bool.{Bool, true, false}
use mathlib.Core.List.{List, [], ◌∷◌, ◌++◌, map-append}
use Prim.Native.Nat.{ℕ, zero, suc, ◌-◌, ◌≤◌, ◌<◌}
use native.Mathlib.Nat.{le_trans, le_refl, le-suc}
use native.Mathlib.Omega.{arith}
use lib.Dec.{leb, ltb}
use lib.ListN.{length, length-append}
use borrow.Author.Tests.{le-leb}
use Rattle.std.specs.Prelude.{Ok, Err}
use Rattle.refusal.specs.declared.Refusal.TheVariants as refusal
use Rattle.groups.specs.Numbers.{number, tab, all, leading_in}
use Rattle.groups.specs.Layout.{width, groups_of, side, form_of, digits_at, offset, size_in, size, Form}
use Rattle.groups.specs.Packed.{flip_first, invert, digits_in}
use Rattle.groups.specs.Read.{in_range, group_at, range_at, stored_at, unit_of, groups_in, read_groups}
use Rattle.groups.proofs.Accept.{in-range}
use Rattle.groups.proofs.Marks.{length-in}
use Rattle.groups.proofs.Sizes.{packed-size, size-pos}
use Rattle.groups.proofs.Tab.{tab-at, length-tab, filled}
use Rattle.kept.specs.Kept.{without}
use Rattle.decimal.specs.Read.{negative, nought, or_nought, finished, from_groups, read_bin, read_packed}
use Rattle.decimal_laws.proofs.Bytes.{after}
use Rattle.decimal_laws.proofs.Places.{range_front, stored-front}

-- ---- 0 with 0
leb-zero : (n : ℕ) → leb 0 n ≡ true
leb-zero n = le-leb 0 n (omega arith)

no-digits : (neg keep : Bool) (bs : List ℕ) → from_groups (read_groups (form_of neg) bs 0 0) 0 0 neg keep ≡ Ok nought
unfolding read_groups groups_in in_range range_at stored_at group_at unit_of digits_at side groups_of width offset number tab from_groups finished without or_nought leading_in
no-digits true true bs = simp (leb-zero (length bs))
no-digits true false bs = simp (leb-zero (length bs))
no-digits false true bs = simp (leb-zero (length bs))
no-digits false false bs = simp (leb-zero (length bs))

-- 0 with 0 is positive 0, whatever the bytes
pub nothing_read : (bs : List ℕ) (keep : Bool) → read_bin bs 0 0 keep ≡ Ok nought
unfolding read_bin
nothing_read bs keep = no-digits (negative bs) keep bs

-- ---- a first byte, and more
digits-front : (neg : Bool) (b : ℕ) (bs rest : List ℕ) → digits_in (form_of neg) ((b ∷ bs) ++ rest) ≡ digits_in (form_of neg) (b ∷ bs) ++ after neg rest
unfolding digits_in flip_first
digits-front false b bs rest = refl
digits-front true b bs rest = map-append invert (flip_first (b ∷ bs)) rest

all_same : (p q : ℕ → Bool) (n : ℕ) → ((k : ℕ) → k < n → p k ≡ q k) → all n p ≡ all n q
all_same p q zero h = refl
all_same p q (suc n) h = rw (h n (le_refl (suc n)), all_same p q n (λ k l. h k (le_trans l (le-suc n))))

tab-same : (f g : ℕ → ℕ) (n : ℕ) → ((k : ℕ) → k < n → f k ≡ g k) → tab n f ≡ tab n g
tab-same f g n h = filled n g (tab n f) (length-tab n f) (λ k l. tab-at n f k l ∙ h k l)

groups-front : (F : Form) (i f : ℕ) (ds rest : List ℕ) → size_in F i f ≤ length ds → groups_in F i f (ds ++ rest) ≡ groups_in F i f ds
unfolding groups_in
groups-front F i f ds rest l =
    rw (
      all_same (range_at F i f (ds ++ rest)) (range_at F i f ds) 9 (range_front F i f ds rest l),
      tab-same (stored_at F i f (ds ++ rest)) (stored_at F i f ds) 9 (stored-front F i f ds rest l),
    )

groups-later : (neg : Bool) (b : ℕ) (bs rest : List ℕ) (p s : ℕ) → size_in (form_of neg) (p - s) s ≤ length (b ∷ bs)
    → read_groups (form_of neg) ((b ∷ bs) ++ rest) p s ≡ read_groups (form_of neg) (b ∷ bs) p s
unfolding read_groups
groups-later neg b bs rest p s l =
    let F = form_of neg in
    let n = length-append (b ∷ bs) rest in
    let m : size_in F (p - s) s ≤ length ((b ∷ bs) ++ rest) = omega arith in
    let d : size_in F (p - s) s ≤ length (digits_in F (b ∷ bs)) = rw (length-in F (b ∷ bs)) l in
    rw (
      le-leb (size_in F (p - s) s) (length ((b ∷ bs) ++ rest)) m,
      le-leb (size_in F (p - s) s) (length (b ∷ bs)) l,
      digits-front neg b bs rest,
      groups-front F (p - s) s (digits_in F (b ∷ bs)) (after neg rest) d,
    )

-- ---- the laws
out_of_range : (bs : List ℕ) (p s : ℕ) (keep : Bool) → in_range p s ≡ false → read_bin bs p s keep ≡ Err refusal.Range
unfolding read_bin read_groups from_groups
out_of_range bs p s keep e = simp e

-- a decimal that takes no byte has no digit
none : (p s : ℕ) → (p ≤ 65) × ((s ≤ 30) × (s ≤ p)) → size (p - s) s ≤ 0 → p ≡ 0
none p s r l = go p refl
  where
    go : (q : ℕ) → p ≡ q → p ≡ 0
    go zero e = e
    go (suc q) e = let h = size-pos (p - s) s (omega arith) (omega arith) in absurd (omega arith)

same_sign : (b : ℕ) (bs rest : List ℕ) (p s : ℕ) (keep : Bool) → size (p - s) s ≤ length (b ∷ bs) → read_bin ((b ∷ bs) ++ rest) p s keep ≡ read_bin (b ∷ bs) p s keep
unfolding read_bin negative
same_sign b bs rest p s keep l =
    rw (groups-later (ltb b 128) b bs rest p s (rw (packed-size (ltb b 128) (p - s) s) l))

pub later-bytes : (bs rest : List ℕ) (p s : ℕ) (keep : Bool) → size (p - s) s ≤ length bs → read_bin (bs ++ rest) p s keep ≡ read_bin bs p s keep
later-bytes [] rest p s keep l = go (in_range p s) refl
  where
    go : (t : Bool) → in_range p s ≡ t → read_bin rest p s keep ≡ read_bin [] p s keep
    go false e = out_of_range rest p s keep e ∙ sym (out_of_range [] p s keep e)
    go true e =
        let r = in-range p s e in
        let z : p ≡ 0 = none p s r l in
        let y : s ≡ 0 = omega arith in
        rw (z, y) (nothing_read rest keep ∙ sym (nothing_read [] keep))
later-bytes (b ∷ bs) rest p s keep l = same_sign b bs rest p s keep l

pub later-packed : (p s : ℕ) (bs rest : List ℕ) (keep : Bool) → size (p - s) s ≤ length bs
    → read_packed (p ∷ s ∷ (bs ++ rest)) keep ≡ read_packed (p ∷ s ∷ bs) keep
unfolding read_packed
later-packed p s bs rest keep l = later-bytes bs rest p s keep l
