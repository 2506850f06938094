-- Two decimals are equal exactly where they have one sign and one row of digits, and exactly then their plain texts are the same.
-- Assumes nothing.
use mathlib.Core.Path.{◌≡◌, refl, sym, ap, ◌∙◌}
use mathlib.Core.Bool.{Bool, true, false, cond}
use mathlib.Core.Logic.{⊎_elim}
use mathlib.Core.List.{List, [], ◌∷◌, ◌++◌}
use Prim.Native.Nat.{ℕ, zero, suc, ◌≤◌, ◌<◌}
use native.Mathlib.Nat.{le_refl}
use native.Mathlib.Omega.{arith}
use lib.IntN.{ℤ, pos, nat_abs}
use lib.Signed.{lt_z}
use lib.ListN.{length, get_or, take, drop}
use lib.Seq.{take_at, drop_at}
use Rattle.refusal.specs.Told.{Told, answer, refusal}
use Rattle.groups.specs.Numbers.{number}
use Rattle.groups.specs.Layout.{groups_of}
use Rattle.groups.specs.Write.{room_told, room_leaves}
use Rattle.groups.proofs.Caps.{below_or_not}
use Rattle.groups.proofs.Room.{short, fits}
use Rattle.order.specs.Value.{magnitude, signed}
use Rattle.decimal.specs.Write.{is_well}
use Rattle.decimal.specs.Text.{printed, print_told, print_leaves}
use Rattle.decimal.specs.Value.{value}
use Rattle.decimal.specs.declared.Decimal.{Decimal}
use Rattle.decimal_laws.proofs.Positive.{value-sign}
use Rattle.order_laws.specs.Plain.{without_front, without_end, plain}
use Rattle.order_laws.specs.Order.{Prints}
use Rattle.order_laws.proofs.Ends.{front_same, end_same}
use Rattle.order_laws.proofs.Shown.{taken-apart}
use Rattle.order_laws.proofs.Row.{front_of, end_of, same_row, front_length, end-length, row-length, row_below, row_number, plain-printed}

-- a record that is a decimal
pub record IsDecimal (d : Decimal) : Type 0 where
  pub nine : length d.groups ≡ 9
  pub well : is_well d ≡ true

-- ---- a sign and a magnitude are told by the value
abs-signed : (neg : Bool) (m : ℕ) → nat_abs (signed neg m) ≡ m
abs-signed true zero = refl
abs-signed true (suc m) = refl
abs-signed false m = refl

module _ (a b : Decimal) (p : IsDecimal a) (q : IsDecimal b) where
  same_sign : value a ≡ value b → a.sign ≡ b.sign
  same_sign e =
      value-sign a p.nine p.well ∙ ap (λ (v : ℤ). lt_z v (pos 0)) e ∙ sym (value-sign b q.nine q.well)

  same-magnitude : value a ≡ value b → magnitude (groups_of a.intg) a.groups ≡ magnitude (groups_of b.intg) b.groups
  unfolding value
  same-magnitude e = sym (abs-signed a.sign _) ∙ ap nat_abs e ∙ abs-signed b.sign _

  -- ---- equal values have one row, and so one plain text
  same_rows : value a ≡ value b → front_of a ++ end_of a ≡ front_of b ++ end_of b
  same_rows e =
      same_row (front_of a ++ end_of a) (front_of b ++ end_of b) (row_below a p.well) (row_below b q.well)
      (row-length a p.well ∙ sym (row-length b q.well))
      (row_number a p.well p.nine ∙ same-magnitude e ∙ sym (row_number b q.well q.nine))

  pub same-plain : value a ≡ value b → plain (printed a) ≡ plain (printed b)
  same-plain e =
      let la = front_length a p.well in
      let lb = front_length b q.well in
      let f : front_of a ≡ front_of b = sym (take_at (front_of a) (end_of a) 65 la) ∙ ap (take 65) (same_rows e) ∙ take_at (front_of b) (end_of b) 65 lb in
      let g : end_of a ≡ end_of b = sym (drop_at (front_of a) (end_of a) 65 la) ∙ ap (drop 65) (same_rows e) ∙ drop_at (front_of b) (end_of b) 65 lb in
      plain-printed a p.well ∙ rw (same_sign e, f, g) (sym (plain-printed b q.well))

  -- ---- one plain text has one sign and one row, and so one value
  pub plain_value : plain (printed a) ≡ plain (printed b) → value a ≡ value b
  unfolding value
  plain_value e =
      let t =
      taken-apart a.sign b.sign (without_front 0 (front_of a)) (without_front 0 (front_of b)) (without_end 0 (end_of a)) (without_end 0 (end_of b))
      (sym (plain-printed a p.well) ∙ e ∙ plain-printed b q.well) in
      let f = front_same 0 (front_of a) (front_of b) (front_length a p.well ∙ sym (front_length b q.well)) t.1 in
      let g = end_same 0 (end_of a) (end_of b) (end-length a p.well ∙ sym (end-length b q.well)) t.2 in
      let m : magnitude (groups_of a.intg) a.groups ≡ magnitude (groups_of b.intg) b.groups =
      sym (row_number a p.well p.nine) ∙ ap (number 10) (rw (f, g)) ∙ row_number b q.well q.nine in
      rw (t.0, m)

-- ---- what `print` puts is the printed text
told_text : (bs out left : List ℕ) (n : ℕ) → answer (n ∷ []) ≡ room_told bs out → left ≡ room_leaves bs out → take n left ≡ bs
told_text bs out left n h k = ⊎_elim no_room room (below_or_not (length out) (length bs))
  where
    no_room : length out < length bs → take n left ≡ bs
    no_room l = let e = ap (λ (t : Told). length t.values) (h ∙ (short bs out refl l).0) in absurd (omega arith)

    room : length bs ≤ length out → take n left ≡ bs
    room l =
        let f = fits bs out refl l in
        let e : n ≡ length bs = ap (λ (t : Told). get_or t.values 0 0) (h ∙ f.0) in
        rw (k, f.1) (take_at bs (drop (length bs) out) n (sym e))

-- A record that prints is a decimal, and what it prints is its text.
pub prints-text : (d : Decimal) (bs : List ℕ) → Prints d bs → (is_well d ≡ true) × (bs ≡ printed d)
unfolding print_told print_leaves
prints-text d bs p = go (is_well d) p.counts p.leaves
  where
    go : (t : Bool) → answer (p.count ∷ []) ≡ cond t (room_told (printed d) p.out) (refusal 26) → p.left ≡ cond t (room_leaves (printed d) p.out) p.out
        → (t ≡ true) × (bs ≡ printed d)
    go true h k = (refl, p.text ∙ told_text (printed d) p.out p.left p.count h k)
    go false h k = let e = ap (λ (t : Told). length t.values) h in absurd (omega arith)

-- And every decimal prints, where the output has room for its text.
pub prints : (d : Decimal) → is_well d ≡ true → Prints d (printed d)
unfolding print_told print_leaves
prints d w =
    let n = length (printed d) in
    let f = fits (printed d) (printed d) refl (le_refl n) in
    record {
      out = printed d;
      left = room_leaves (printed d) (printed d);
      count = n;
      counts = rw w (sym f.0);
      leaves = rw w;
      text = rw f.1 (sym (take_at (printed d) (drop n (printed d)) n refl));
    }
