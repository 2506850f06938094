-- Every decimal that is answered is well formed: its groups were read in range, those that are left keep their digits, and its sign is that of its value.
-- Assumes nothing.
use mathlib.Core.Path.{◌≡◌, refl, sym, ◌∙◌}
use mathlib.Core.Bool.{Bool, true, false, cond}
use mathlib.Core.Logic.{⊎_elim}
use mathlib.Core.List.{List, [], ◌∷◌, ◌++◌}
use Prim.Native.Nat.{ℕ, suc, ◌+◌, ◌-◌, ◌*◌, ◌≤◌, ◌<◌}
use native.Mathlib.Nat.{zero-mod, zero-div, pos_of_ne-zero}
use native.Mathlib.Omega.{arith}
use lib.Dec.{ltb, eqb, lit<}
use lib.ListN.{length, get_or, drop, length-append, length-map, get_or-eq_default}
use borrow.Author.Tests.{lt-ltb, leb-true, eqb-false}
use Rattle.std.specs.Prelude.{Result, Ok, Err}
use Rattle.refusal.specs.declared.Refusal.{Refusal}
use Rattle.refusal.specs.declared.Refusal.TheVariants as refusal
use Rattle.groups.specs.Numbers.{tab, leading_in, Below}
use Rattle.groups.specs.Layout.{groups_of, side, base_of, digits_at, size_in, Digits}
use Rattle.groups.specs.Packed.{digits_in}
use Rattle.groups.specs.Read.{unit_of, range_at, stored_at}
use Rattle.groups.specs.Sign.{signed_nought}
use Rattle.groups.specs.Write.{digits_ok, well_at, well_groups, well_formed}
use Rattle.std.proofs.lemmas.Bool.Decides.{nat_tests}
use Rattle.groups.proofs.Accept.{both_true, in-range}
use Rattle.groups.proofs.Caps.{below_or_not}
use Rattle.groups.proofs.Marks.{length-in}
use Rattle.groups.proofs.Opened.{digits-range}
use Rattle.groups.proofs.Sizes.{digits-size}
use Rattle.groups.proofs.Tab.{tab-at, length-tab, all-each}
use Rattle.groups.proofs.Sign.{formed-of}
use Rattle.numeral.specs.Read.{strip, minus, unsigned, run, pointed, whole_part, fraction_part, is_text, few_digits}
use Rattle.numeral.specs.Read.{Numeral, digit_of, digits_in as text_digits, numeral_of, read_unsigned, read_text}
use Rattle.numeral.proofs.Limits.{read-within}
use Rattle.kept.specs.Kept.{Kept, without}
use Rattle.decimal.specs.Read.{negative, nought, decimal_of, or_nought, finished, read_bin, read_packed}
use Rattle.decimal.specs.Write.{is_well}
use Rattle.decimal.specs.Text.{of_digits, of_numeral, from_numeral, parse_text}
use Rattle.decimal.specs.declared.Decimal.{Decimal}
use Rattle.order.proofs.Lex.{pow-pos-of}
use Rattle.decimal_laws.proofs.Bytes.{digits-below}
use Rattle.decimal_laws.proofs.Kept.{leading_le, whole-groups}
use Rattle.decimal_laws.proofs.Weights.{rounded}
use Rattle.decimal_laws.proofs.RoundTrip.{packed-base, well-of, well-read, form_at, groups_at, was_read}

-- ---- a group of 0 is well formed at every place, and so is nought
pub zero-well : (i f k : ℕ) → well_at i f k 0 ≡ true
unfolding well_at
zero-well i f k = rw (zero-mod, zero-div) (lt-ltb _ _ (pow-pos-of 10 (digits_at i f k) (lit< tt)))

nought-formed : is_well nought ≡ true
unfolding well_formed well_groups signed_nought digits_ok well_at unit_of digits_at side groups_of
nought-formed = refl

-- ---- past the first integral group all are whole: without the first z of them each place has the digits and the unit of the place z later
abbrev left : ℕ → ℕ → ℕ
left i z = 9 * (groups_of i - z)

abbrev later : ℕ → List ℕ → List ℕ
later z gs = tab 9 (λ k. get_or gs (k + z) 0)

-- a group has nine digits where its side goes on so far
nine : (n j : ℕ) → 9 * (1 + j) ≤ n → side n j ≡ 9
unfolding side
nine n j h = omega arith

module _ (i f z : ℕ) (h : 1 ≤ z) (l : z ≤ groups_of i) where
  left_le : left i z ≤ i
  left_le = let r = rounded i in omega arith

  whole-left : (k : ℕ) → k + z < groups_of i → side (left i z) (groups_of i - z - 1 - k) ≡ side i (groups_of i - 1 - (k + z))
  whole-left k m =
      let r = rounded i in
      nine (left i z) (groups_of i - z - 1 - k) (omega arith) ∙ sym (nine i (groups_of i - 1 - (k + z)) (omega arith))

  later-side : (k : ℕ) → ltb k (groups_of (left i z)) ≡ ltb (k + z) (groups_of i)
  later-side k = rw (whole-groups (groups_of i - z)) (grind (arith, nat_tests))

  later-digits : (k : ℕ) → digits_at (left i z) f k ≡ digits_at i f (k + z)
  unfolding digits_at
  later-digits k = rw (later-side k, whole-groups (groups_of i - z)) (grind (arith, nat_tests, whole-left k))

  later-well : (k g : ℕ) → well_at (left i z) f k g ≡ well_at i f (k + z) g
  unfolding well_at unit_of
  later-well k g = rw (later-digits k, later-side k)

-- ---- what holds of nought, and of a decimal of parts that were read, holds of every answer
module _ (P : Decimal → Type 0) (none : P nought) where
  decimal-holds : (i f : ℕ) (neg : Bool) (gs : List ℕ) → (1 ≤ i + f → P (decimal_of i f neg gs)) → P (or_nought i f neg gs)
  unfolding or_nought
  decimal-holds i f neg gs h = go (eqb (i + f) 0) refl
    where
      go : (t : Bool) → eqb (i + f) 0 ≡ t → P (cond t nought (decimal_of i f neg gs))
      go true e = none
      go false e = h (pos_of_ne-zero (eqb-false (i + f) 0 e))

  finished-holds : (keep : Bool) (i f : ℕ) (neg : Bool) (gs : List ℕ) → (1 ≤ i + f → P (decimal_of i f neg gs))
      → ((z : ℕ) → 1 ≤ z → z ≤ groups_of i → 1 ≤ left i z + f → P (decimal_of (left i z) f neg (later z gs))) → P (finished keep i f neg gs)
  unfolding finished without
  finished-holds true i f neg gs whole less = decimal-holds i f neg gs whole
  finished-holds false i f neg gs whole less = go (eqb z 0) refl
    where
      z : ℕ
      z = leading_in (groups_of i) gs

      kept : Bool → Kept
      kept t = cond t (record { intg = i; groups = gs }) (record { intg = left i z; groups = later z gs })

      go : (t : Bool) → eqb z 0 ≡ t → P (or_nought (kept t).intg f neg (kept t).groups)
      go true e = decimal-holds i f neg gs whole
      go false e = decimal-holds (left i z) f neg (later z gs) (less z (pos_of_ne-zero (eqb-false z 0 e)) (leading_le (groups_of i) gs))

-- ---- groups that were read
module _ (i f : ℕ) (gs : List ℕ) (n : length gs ≡ 9) where
  finished-nine : (keep neg : Bool) → length (finished keep i f neg gs).groups ≡ 9
  unfolding decimal_of
  finished-nine keep neg = finished-holds (λ d. length d.groups ≡ 9) refl keep i f neg gs (λ a. n) (λ z a b c. length-tab 9 _)

  module _ (l : i + f ≤ 65) (m : f ≤ 30) (w : (k : ℕ) → k < 9 → well_at i f k (get_or gs k 0) ≡ true) where
    -- past the last place there is a 0
    each-place : (k : ℕ) → well_at i f k (get_or gs k 0) ≡ true
    each-place k = ⊎_elim (w k) (λ (l : 9 ≤ k). rw (get_or-eq_default gs 0 {n = k} (rw n l)) (zero-well i f k)) (below_or_not k 9)

    later-formed : (z : ℕ) → 1 ≤ z → z ≤ groups_of i → 1 ≤ left i z + f → well_groups (left i z) f (later z gs) ≡ true
    later-formed z a b c =
        let q = left_le i f z a b in
        well-of (left i z) f (later z gs) c (omega arith) m
        (λ k j. rw (tab-at 9 (λ k. get_or gs (k + z) 0) k j, later-well i f z a b k) (each-place (k + z)))

    finished-formed : (keep neg : Bool) → is_well (finished keep i f neg gs) ≡ true
    unfolding decimal_of
    finished-formed keep neg =
        finished-holds (λ d. is_well d ≡ true) nought-formed keep i f neg gs (λ a. formed-of neg i f gs (well-of i f gs a l m w))
        (λ z a b c. formed-of neg (left i z) f (later z gs) (later-formed z a b c))

module _ (bs : List ℕ) (p s : ℕ) (keep : Bool) where
  pub read-nine : (d : Decimal) → read_bin bs p s keep ≡ Ok d → length d.groups ≡ 9
  read-nine d e = let w = was_read bs p s keep d e in rw w.is (finished-nine (p - s) s (groups_at bs p s) (length-tab 9 _) keep (negative bs))

  pub read-formed : Below 256 bs → (d : Decimal) → read_bin bs p s keep ≡ Ok d → is_well d ≡ true
  read-formed h d e =
      let F = form_at bs in
      let ds = digits_in F bs in
      let w = was_read bs p s keep d e in
      let r = in-range p s w.range in
      let b : Below (base_of F) ds = rw (packed-base (negative bs)) (digits-below (negative bs) bs h) in
      let m : size_in F (p - s) s ≤ length ds = rw (length-in F bs) w.fits in
      rw w.is
      (finished-formed (p - s) s (groups_at bs p s) (length-tab 9 _) (omega arith) r.1.0 (well-read F (p - s) s ds b m (all-each (range_at F (p - s) s ds) 9 w.each)) keep (negative bs))

pub packed-nine : (bs : List ℕ) (keep : Bool) (d : Decimal) → read_packed bs keep ≡ Ok d → length d.groups ≡ 9
unfolding read_packed
packed-nine [] keep d e = absurd (cc)
packed-nine (p ∷ []) keep d e = absurd (cc)
packed-nine (p ∷ s ∷ bs) keep d e = read-nine bs p s keep d e

pub packed-formed : (bs : List ℕ) (keep : Bool) → Below 256 bs → (d : Decimal) → read_packed bs keep ≡ Ok d → is_well d ≡ true
unfolding read_packed
packed-formed [] keep h d e = absurd (cc)
packed-formed (p ∷ []) keep h d e = absurd (cc)
packed-formed (p ∷ s ∷ bs) keep h d e = read-formed bs p s keep (λ k. h (suc (suc k))) d e

-- ---- a numeral that was read has a digit, and as many as it counts
abbrev pub Counts : Numeral → Type 0
Counts t = (1 ≤ t.intg + t.frac) × (t.intg + t.frac ≤ length t.digits)

of-text : (neg : Bool) (xs : List ℕ) → is_text xs ≡ true → Counts (numeral_of neg xs)
unfolding is_text text_digits
of-text neg xs e =
    let n = length-map (whole_part xs ++ fraction_part xs) digit_of ∙ length-append (whole_part xs) (fraction_part xs) in
    (leb-true 1 _ (both_true (pointed (drop (run xs) xs)) _ e).1, omega arith)

unsigned-counts : (neg : Bool) (xs : List ℕ) (t : Numeral) → read_unsigned neg xs ≡ Ok t → Counts t
unfolding read_unsigned
unsigned-counts neg xs t e = go (is_text xs) (few_digits (length (whole_part xs)) (length (fraction_part xs))) (of-text neg xs) e
  where
    go : (b u : Bool) → (b ≡ true → Counts (numeral_of neg xs)) → cond b (cond u (Ok (numeral_of neg xs)) (Err refusal.Digits)) (Err refusal.Text) ≡ Ok t → Counts t
    go true true h e = let q : numeral_of neg xs ≡ t = cc in rw (← q) (h refl)
    go true false h e = absurd (cc)
    go false u h e = absurd (cc)

pub read-counts : (bs : List ℕ) (t : Numeral) → read_text bs ≡ Ok t → Counts t
unfolding read_text
read-counts bs t e = unsigned-counts (minus (strip bs)) (unsigned (strip bs)) t e

-- ---- text
-- A text's decimal is that of the numeral in it.
pub was_text : (bs : List ℕ) (d : Decimal) → parse_text bs ≡ Ok d → (t : Numeral) × (read_text bs ≡ Ok t) × (d ≡ of_numeral t)
unfolding parse_text
was_text bs d e = go (read_text bs) e
  where
    go : (r : Result Numeral Refusal) → from_numeral r ≡ Ok d → (t : Numeral) × (r ≡ Ok t) × (d ≡ of_numeral t)
    go (Ok t) h = (t, refl, cc)
    go (Err q) h = absurd (cc)

pub parse-nine : (bs : List ℕ) (d : Decimal) → parse_text bs ≡ Ok d → length d.groups ≡ 9
unfolding of_digits decimal_of
parse-nine bs d e = let w = was_text bs d e in rw w.2 (length-tab 9 _)

pub parse-formed : (bs : List ℕ) (d : Decimal) → parse_text bs ≡ Ok d → is_well d ≡ true
unfolding of_digits decimal_of
parse-formed bs d e =
    let w = was_text bs d e in
    let t = w.0 in
    let c = read-counts bs t w.1 in
    let r = read-within bs t w.1 in
    let m : size_in Digits t.intg t.frac ≤ length t.digits = rw (digits-size t.intg t.frac r.0 r.1.0) c.1 in
    let gs = tab 9 (stored_at Digits t.intg t.frac t.digits) in
    rw w.2
    (formed-of t.negative t.intg t.frac gs (well-of t.intg t.frac gs c.0 r.1.0 r.0 (well-read Digits t.intg t.frac t.digits r.1.1 m (digits-range t.intg t.frac t.digits r.1.1 m))))
