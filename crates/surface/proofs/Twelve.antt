-- Decimals as numbers. Every decimal that is answered has at most 65 digits, prints at most 67 characters and takes at most 36 bytes, so its numbers and counts are
-- told whole, and not by their low 32 bits alone; and a list of fewer than twelve numbers has no digits, which is 26 before all else.
-- Assumes nothing.
use mathlib.Core.Path.{◌≡◌, refl, sym, ap, ◌∙◌}
use mathlib.Core.Bool.{Bool, true, false, cond}
use mathlib.Core.List.{List, [], ◌∷◌}
use Prim.Native.Nat.{ℕ, zero, suc, ◌+◌, ◌*◌, ◌/◌, ◌≤◌, ◌<◌}
use native.Mathlib.Nat.{min-le_left}
use native.Mathlib.Omega.{arith}
use lib.Dec.{leb, ltb}
use lib.ListN.{length, get_or}
use Rattle.std.specs.Prelude.{Result, Ok, Err}
use Rattle.refusal.specs.declared.Refusal.{Refusal}
use Rattle.refusal.specs.Told.{Told, answer, refusal}
use Rattle.groups.specs.Numbers.{both}
use Rattle.groups.specs.Layout.{width, digits_at, form_of, wide_of, offset}
use Rattle.groups.specs.Write.{told, digits_ok, well_groups, well_formed, written, room_told, write_told, write_leaves}
use Rattle.groups.proofs.Accept.{well-digits}
use Rattle.groups.proofs.Sign.{formed-groups}
use Rattle.groups.proofs.Store.{length-written}
use Rattle.decimal.specs.Write.{is_well, write_bin, bin_leaves}
use Rattle.decimal.specs.Text.{printed, print_told, print_leaves}
use Rattle.decimal.specs.Value.{compare_told}
use Rattle.decimal.specs.declared.Decimal.{Decimal}
use Rattle.decimal_laws.proofs.Lengths.{printed-length}
use Rattle.lent.specs.Layout.{low}
use Rattle.lent.proofs.Puts.{low_small, changed}
use Rattle.records.specs.Records.{decimal_in, no_digits, decimal_by, record_numbers, record_told}
use Rattle.small_records.specs.SmallRecords.{counted_told}
use Rattle.surface.specs.Decimals.{decimal_numbers, decimal_told, held, written_told, written_leaves, printed_told, printed_leaves, order_told}

-- ---- a decimal that is answered
numbers-whole : (d : Decimal) → is_well d ≡ true → record_numbers d ≡ decimal_numbers d
numbers-whole d w =
    let h = well-digits d.intg d.frac d.groups (formed-groups d.sign d.intg d.frac d.groups w) in
    ap (λ (n : ℕ). n ∷ low d.frac ∷ cond d.sign 1 0 ∷ d.groups) (low_small d.intg (omega arith))
    ∙ ap (λ (n : ℕ). d.intg ∷ n ∷ cond d.sign 1 0 ∷ d.groups) (low_small d.frac (omega arith))

-- b is what the contract tells, and a what the callee gives
pub answer-told : {a b : Result Decimal Refusal} → a ≡ b → ((d : Decimal) → b ≡ Ok d → is_well d ≡ true) → record_told a ≡ decimal_told b
unfolding record_told decimal_told
answer-told {a} {b} e w = ap record_told e ∙ go b w
  where
    go : (r : Result Decimal Refusal) → ((d : Decimal) → r ≡ Ok d → is_well d ≡ true) → record_told r ≡ decimal_told r
    go (Ok d) w = ap answer (numbers-whole d (w d refl))
    go (Err r) w = refl

-- ---- counts
count-whole : (bs out : List ℕ) (b : Bool) → (b ≡ true → length bs < 4294967296) → (c : Result ℕ Refusal) → told c ≡ cond b (room_told bs out) (refusal 26) →
    counted_told c ≡ told c
unfolding room_told
count-whole bs out b h (Err r) e = refl
count-whole bs out false h (Ok n) e = let z : ◌≡◌ {A = ℕ} 0 26 = ap (λ (t : Told). t.number) e in absurd (omega arith)
count-whole bs out true h (Ok n) e = ap (λ (m : ℕ). answer (m ∷ [])) (low_small n (go (leb (length bs) (length out)) e))
  where
    go : (b : Bool) → answer (n ∷ []) ≡ cond b (answer (length bs ∷ [])) (refusal 25) → n < 4294967296
    go true q = let z : n ≡ length bs = ap (λ (t : Told). get_or t.values 0 0) q in omega (arith, h refl)
    go false q = let z : ◌≡◌ {A = ℕ} 0 25 = ap (λ (t : Told). t.number) q in absurd (omega arith)

-- no group takes more than four bytes
wide-four : (neg : Bool) (d : ℕ) → wide_of (form_of neg) d ≤ 4
unfolding width
wide-four true d = min-le_left 4 ((d + 1) / 2)
wide-four false d = min-le_left 4 ((d + 1) / 2)

offset-four : (neg : Bool) (i f k : ℕ) → offset (form_of neg) i f k ≤ 4 * k
unfolding offset
offset-four neg i f zero = omega arith
offset-four neg i f (suc k) = omega (arith, offset-four neg i f k, wide-four neg (digits_at i f k))

module _ (d : Decimal) (out : List ℕ) (c : Result ℕ Refusal) where
  printed-whole : told c ≡ print_told d out → counted_told c ≡ told c
  unfolding print_told
  printed-whole e = count-whole (printed d) out (is_well d) (λ w. omega (arith, printed-length d w)) c e

  written-whole : told c ≡ write_bin d out → counted_told c ≡ told c
  unfolding write_told
  written-whole e =
      count-whole (written (form_of d.sign) d.intg d.frac d.groups) out (is_well d)
      (λ w. omega (arith, length-written (form_of d.sign) d.intg d.frac d.groups, offset-four d.sign d.intg d.frac 9)) c e

-- ---- what depends on a decimal: f of no digits is what is told of no decimal
held_by : {A : Type 0} (xs : List ℕ) (none : A) (f : Decimal → A) → f no_digits ≡ none → f (decimal_by xs) ≡ held xs none f
unfolding held decimal_by
held_by xs none f e = go (ltb (length xs) 12)
  where
    go : (b : Bool) → f (cond b no_digits (decimal_in xs)) ≡ cond b none (f (decimal_in xs))
    go true = e
    go false = refl

no-digits : is_well no_digits ≡ false
unfolding well_formed well_groups digits_ok
no-digits = refl

-- d is the decimal as the callee gives it
module _ (xs bytes : List ℕ) {d : Decimal} (e : d ≡ decimal_by xs) where
  pub written-told : (c : Result ℕ Refusal) → told c ≡ write_bin d bytes → counted_told c ≡ written_told xs bytes
  unfolding written_told write_told
  written-told c q =
      written-whole d bytes c q ∙ q ∙ ap (λ (x : Decimal). write_bin x bytes) e ∙ held_by xs (refusal 26) (λ x. write_bin x bytes) (rw no-digits)

  pub printed-told : (c : Result ℕ Refusal) → told c ≡ print_told d bytes → counted_told c ≡ printed_told xs bytes
  unfolding printed_told print_told
  printed-told c q =
      printed-whole d bytes c q ∙ q ∙ ap (λ (x : Decimal). print_told x bytes) e ∙ held_by xs (refusal 26) (λ x. print_told x bytes) (rw no-digits)

  module _ (out : List ℕ) (h : 1 ≤ length out) {left : List ℕ} where
    pub written-left : left ≡ bin_leaves d bytes → left ≡ written_leaves xs bytes out
    unfolding written_leaves write_leaves
    written-left q =
        changed 1 out bytes (held xs bytes (λ x. bin_leaves x bytes)) h
        (q ∙ ap (λ (x : Decimal). bin_leaves x bytes) e ∙ held_by xs bytes (λ x. bin_leaves x bytes) (rw no-digits))

    pub printed-left : left ≡ print_leaves d bytes → left ≡ printed_leaves xs bytes out
    unfolding printed_leaves print_leaves
    printed-left q =
        changed 1 out bytes (held xs bytes (λ x. print_leaves x bytes)) h
        (q ∙ ap (λ (x : Decimal). print_leaves x bytes) e ∙ held_by xs bytes (λ x. print_leaves x bytes) (rw no-digits))

-- ---- the order of two
not_left : (b : Decimal) → compare_told no_digits b ≡ refusal 26
unfolding compare_told
not_left b = rw no-digits

both-no : (t : Bool) → both t false ≡ false
both-no true = refl
both-no false = refl

not_right : (a : Decimal) → compare_told a no_digits ≡ refusal 26
unfolding compare_told
not_right a = rw (no-digits, both-no (is_well a))

module _ (xs ys : List ℕ) where
  abbrev against : Decimal → Told
  against a = held ys (refusal 26) (λ b. compare_told a b)

  ordered : (a : Decimal) → compare_told a (decimal_by ys) ≡ against a
  ordered a = held_by ys (refusal 26) (λ b. compare_told a b) (not_right a)

  pub order-told : {t : Told} {a b : Decimal} → a ≡ decimal_by xs → b ≡ decimal_by ys → t ≡ compare_told a b → t ≡ order_told xs ys
  unfolding order_told
  order-told {t} {a} {b} p q e =
      e ∙ ap (compare_told a) q ∙ ap (λ (x : Decimal). compare_told x (decimal_by ys)) p ∙ ordered (decimal_by xs)
      ∙ held_by xs (refusal 26) against (sym (ordered no_digits) ∙ not_left (decimal_by ys))
