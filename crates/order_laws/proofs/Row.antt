-- A decimal's digits, with zeros around them in 65 integral and 81 fractional places, write its magnitude; what it prints depends on that row alone.
-- Assumes nothing.
use mathlib.Core.Path.{◌≡◌, refl, sym, ap, ◌∙◌}
use mathlib.Core.Bool.{true}
use mathlib.Core.List.{List, ◌++◌, map, append_assoc}
use Prim.Native.Nat.{ℕ, zero, suc, ◌-◌, ◌≤◌}
use native.Mathlib.Nat.{le_refl}
use native.Mathlib.Omega.{arith}
use lib.Dec.{lit<}
use lib.ListN.{length, take, drop, replicate, length-append, length-replicate, take-append-drop}
use lib.Seq.{length-take-le, take-length}
use Rattle.groups.specs.Numbers.{number, digits, Below}
use Rattle.groups.specs.Layout.{groups_of, Digits}
use Rattle.groups.proofs.Opened.{below-take, below-drop}
use Rattle.groups.proofs.Radix.{digits_number, below-append}
use Rattle.groups.proofs.Store.{to_below}
use Rattle.groups.proofs.Tab.{zeros-at}
use Rattle.printing.specs.Print.{show, sign_text, whole_digits}
use Rattle.order.specs.Value.{magnitude}
use Rattle.order.proofs.Lex.{zeros-before, zeros-after}
use Rattle.decimal.specs.Write.{is_well}
use Rattle.decimal.specs.Text.{digits_of, printed}
use Rattle.decimal.specs.declared.Decimal.{Decimal}
use Rattle.decimal_laws.proofs.Meaning.{print-value}
use Rattle.decimal_laws.proofs.Printed.{whole_of, fraction_of, limits, fraction-count, whole-fits, printed-is}
use Rattle.decimal_laws.proofs.Reparsed.{tail_of}
use Rattle.decimal_laws.proofs.Trimmed.{whole-trims}
use Rattle.order_laws.specs.Plain.{without_front, without_end, plain}
use Rattle.order_laws.proofs.Ends.{front-zeros, end-zeros}
use Rattle.order_laws.proofs.Shown.{plain-shown}

-- ---- rows of digits of one length are told by the number that they write
row_back : (xs : List ℕ) → Below 10 xs → digits 10 (length xs) (number 10 xs) ≡ xs
row_back xs h = rw take-length at (digits_number 10 xs h (length xs) (le_refl (length xs)))

pub same_row : (xs ys : List ℕ) → Below 10 xs → Below 10 ys → length xs ≡ length ys → number 10 xs ≡ number 10 ys → xs ≡ ys
same_row xs ys h k l e = sym (row_back xs h) ∙ rw (l, e) (row_back ys k)

-- ---- the two sides of a decimal's row
abbrev pub front_of : Decimal → List ℕ
front_of d = replicate (65 - d.intg) 0 ++ take d.intg (digits_of d)

abbrev pub end_of : Decimal → List ℕ
end_of d = fraction_of d ++ replicate (81 - d.frac) 0

zeros-below : (n : ℕ) → Below 10 (replicate n 0)
zeros-below n k = rw (zeros-at n k) (lit< tt)

-- the integral digits that are printed lack only zeros at the front, and a 0 stands where there is none
whole_same : (i : ℕ) (ds : List ℕ) → i ≤ length ds → without_front 0 (whole_digits i ds) ≡ without_front 0 (take i ds)
unfolding without_front whole_digits
whole_same zero ds l = refl
whole_same (suc i) ds l =
    let t = whole-trims (suc i) ds (omega arith) l in
    sym (ap (without_front 0) t.is ∙ front-zeros 0 t.zeros (whole_digits (suc i) ds))

module _ (d : Decimal) (w : is_well d ≡ true) where
  pub front_length : length (front_of d) ≡ 65
  front_length =
      let e = length-take-le d.intg (digits_of d) (whole-fits d w) in
      let h = limits d w in
      length-append (replicate (65 - d.intg) 0) _ ∙ rw (length-replicate {A = ℕ} (65 - d.intg) 0, e) (omega arith)

  pub end-length : length (end_of d) ≡ 81
  end-length =
      let h = limits d w in
      length-append (fraction_of d) _ ∙ rw (length-replicate {A = ℕ} (81 - d.frac) 0, fraction-count d w) (omega arith)

  pub row-length : length (front_of d ++ end_of d) ≡ 146
  row-length = length-append (front_of d) (end_of d) ∙ rw (front_length, end-length)

  pub row_below : Below 10 (front_of d ++ end_of d)
  row_below =
      let h = to_below Digits d.intg d.frac d.groups 9 in
      below-append 10 (front_of d) (end_of d)
      (below-append 10 (replicate (65 - d.intg) 0) _ (zeros-below (65 - d.intg)) (below-take 10 d.intg (digits_of d) h))
      (below-append 10 (fraction_of d) _ (below-drop 10 d.intg (digits_of d) h) (zeros-below (81 - d.frac)))

  row_is : front_of d ++ end_of d ≡ replicate (65 - d.intg) 0 ++ (digits_of d ++ replicate (81 - d.frac) 0)
  row_is =
      let i = d.intg in
      let D = digits_of d in
      let Z : List ℕ = replicate (81 - d.frac) 0 in
      append_assoc (replicate (65 - i) 0) (take i D) (drop i D ++ Z)
      ∙ ap (λ (xs : List ℕ). replicate (65 - i) 0 ++ xs) (sym (append_assoc (take i D) (drop i D) Z) ∙ ap (λ (xs : List ℕ). xs ++ Z) (take-append-drop i D))

  pub row_number : length d.groups ≡ 9 → number 10 (front_of d ++ end_of d) ≡ magnitude (groups_of d.intg) d.groups
  row_number n =
      rw (row_is, zeros-before 10 (65 - d.intg) (digits_of d ++ replicate (81 - d.frac) 0), zeros-after 10 (digits_of d) (81 - d.frac)) (sym (print-value d n w))

  -- ---- what it prints
  whole-front : without_front 0 (whole_of d) ≡ without_front 0 (front_of d)
  whole-front =
      whole_same d.intg (digits_of d) (whole-fits d w) ∙ sym (front-zeros 0 (65 - d.intg) (take d.intg (digits_of d)))

  pub plain-printed : plain (printed d) ≡ sign_text d.sign ++ (map show (without_front 0 (front_of d)) ++ tail_of (without_end 0 (end_of d)))
  plain-printed =
      ap plain (printed-is d w)
      ∙ plain-shown d.sign (whole_of d) (fraction_of d)
      ∙ rw (whole-front, end-zeros 0 (fraction_of d) (81 - d.frac))
