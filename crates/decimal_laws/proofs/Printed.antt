-- Printing then parsing gives an equal value, as only zeros at the front are lost; and the same record where none is.
-- Assumes nothing.
use mathlib.Core.Path.{◌≡◌, refl, sym, ap, ◌∙◌}
use mathlib.Core.Bool.{Bool, true, false, cond}
use mathlib.Core.Logic.{◌↔◌}
use mathlib.Core.List.{List, [], ◌∷◌, ◌++◌, map}
use Prim.Native.Nat.{ℕ, ◌+◌, ◌≤◌}
use native.Mathlib.Nat.{le_of_eq}
use native.Mathlib.Omega.{arith}
use lib.Dec.{eqb}
use lib.ListN.{length, take, drop, length-append, length-drop, take-append-drop}
use lib.Seq.{take_all, length-take-le}
use borrow.Author.Tests.{eq-eqb, ne_eqb}
use Rattle.std.specs.Prelude.{Ok}
use Rattle.groups.specs.Numbers.{number, tab, Below}
use Rattle.groups.specs.Layout.{size_in, Digits}
use Rattle.groups.specs.Read.{stored_at}
use Rattle.groups.specs.Write.{well_groups}
use Rattle.groups.proofs.Accept.{well-digits}
use Rattle.groups.proofs.Sign.{formed-groups, formed-sign}
use Rattle.groups.proofs.Tab.{tab-at, length-tab, filled}
use Rattle.groups.proofs.Opened.{below-drop}
use Rattle.groups.proofs.Sizes.{digits-size}
use Rattle.groups.proofs.Store.{length_to, to_below}
use Rattle.numeral.specs.Read.{read_text}
use Rattle.printing.specs.Print.{show, sign_text, whole_digits, fraction_text}
use Rattle.decimal.specs.Read.{decimal_of}
use Rattle.decimal.specs.Write.{is_well}
use Rattle.order.specs.Value.{signed}
use Rattle.decimal.specs.Value.{value}
use Rattle.decimal.specs.Text.{of_digits, from_numeral, parse_text, digits_of, printed}
use Rattle.decimal.specs.declared.Decimal.{Decimal}
use Rattle.decimal_laws.specs.Same.{Same}
use Rattle.decimal_laws.specs.Valued.{valued}
use Rattle.decimal_laws.proofs.Places.{stored-front, each-well, stored-written}
use Rattle.decimal_laws.proofs.Kept.{sign-value}
use Rattle.decimal_laws.proofs.Weights.{row-magnitude}
use Rattle.decimal_laws.proofs.Trimmed.{Trimmed, trimmed-number, trimmed-length, trimmed-same, trimmed-below, bare}
use Rattle.decimal_laws.proofs.Trimmed.{whole-trims, whole-number, whole-some, whole-size, whole_below}
use Rattle.decimal_laws.proofs.Reparsed.{tail_of, read_from, read-trims, read-printed, not_zeros, zeros-go}

-- ---- the printed fraction
tail-is : (f : ℕ) (ys : List ℕ) → length ys ≡ f → cond (eqb f 0) [] (46 ∷ map show (take f ys)) ≡ tail_of ys
tail-is f [] e = simp (eq-eqb f 0 (sym e))
tail-is f (y ∷ ys) e = simp (ne_eqb f 0 (λ (q : f ≡ 0). omega arith), take_all f (y ∷ ys) (le_of_eq e))

fraction-tail : (i f : ℕ) (ds : List ℕ) → length ds ≡ i + f → fraction_text i f ds ≡ tail_of (drop i ds)
unfolding fraction_text
fraction-tail i f ds e = tail-is f (drop i ds) (simp length-drop (omega arith))

-- ---- groups of digits: what follows the digits does not matter
pub tab-front : (i f : ℕ) (ds rest : List ℕ) → f ≤ 30 → i + f ≤ 65 → length ds ≡ i + f
    → tab 9 (stored_at Digits i f (ds ++ rest)) ≡ tab 9 (stored_at Digits i f ds)
tab-front i f ds rest hf h e =
    let l : size_in Digits i f ≤ length ds = rw (digits-size i f hf h) (le_of_eq (sym e)) in
    filled 9 (stored_at Digits i f ds) (tab 9 (stored_at Digits i f (ds ++ rest))) (length-tab 9 _)
    (λ k m. tab-at 9 (stored_at Digits i f (ds ++ rest)) k m ∙ stored-front Digits i f ds rest l k m)

-- ---- a decimal's digits: the integral ones that are printed, those of them that are read again, and those of the fraction
abbrev pub whole_of : Decimal → List ℕ
whole_of d = whole_digits d.intg (digits_of d)

abbrev back_of : Decimal → List ℕ
back_of d = read_from d.sign (whole_of d)

abbrev pub fraction_of : Decimal → List ℕ
fraction_of d = drop d.intg (digits_of d)

module _ (d : Decimal) (w : is_well d ≡ true) where
  in-groups : well_groups d.intg d.frac d.groups ≡ true
  in-groups = formed-groups d.sign d.intg d.frac d.groups w

  pub limits : (1 ≤ d.intg + d.frac) × ((d.intg + d.frac ≤ 65) × (d.frac ≤ 30))
  limits = well-digits d.intg d.frac d.groups in-groups

  pub digits-count : length (digits_of d) ≡ d.intg + d.frac
  digits-count = length_to Digits d.intg d.frac d.groups 9 ∙ digits-size d.intg d.frac limits.1.1 limits.1.0

  digits-below : Below 10 (digits_of d)
  digits-below = to_below Digits d.intg d.frac d.groups 9

  pub whole-fits : d.intg ≤ length (digits_of d)
  whole-fits = let e = digits-count in omega arith

  pub fraction-count : length (fraction_of d) ≡ d.frac
  fraction-count = let e = digits-count in simp length-drop (omega arith)

  pub groups-are : length d.groups ≡ 9 → tab 9 (stored_at Digits d.intg d.frac (digits_of d)) ≡ d.groups
  groups-are n =
      sym (filled 9 _ d.groups n (λ k l. sym (stored-written Digits d.intg d.frac d.groups k l (each-well d.intg d.frac d.groups in-groups k l))))

  pub printed-is : printed d ≡ sign_text d.sign ++ (map show (whole_of d) ++ tail_of (fraction_of d))
  unfolding printed
  printed-is = rw (fraction-tail d.intg d.frac (digits_of d) digits-count)

  -- ---- what comes back
  back-trims : Trimmed (whole_of d) (back_of d)
  back-trims = read-trims d.sign (whole_of d) (whole-some d.intg (digits_of d) whole-fits)

  back_count : length (back_of d ++ fraction_of d) ≡ length (back_of d) + d.frac
  back_count = length-append (back_of d) (fraction_of d) ∙ rw fraction-count

  back_fits : length (back_of d) + d.frac ≤ 65
  back_fits =
      let t = trimmed-length back-trims in
      let s = whole-size d.intg (digits_of d) whole-fits in
      let h = limits in
      omega arith

  back-number : number 10 (back_of d ++ fraction_of d) ≡ number 10 (digits_of d)
  back-number = trimmed-number back-trims (fraction_of d) ∙ whole-number d.intg (digits_of d) whole-fits

  read_back : read_text (printed d)
      ≡ Ok (record { negative = d.sign; intg = length (back_of d); frac = d.frac; digits = back_of d ++ fraction_of d })
  read_back =
      let b = trimmed-below back-trims (whole_below d.intg (digits_of d) whole-fits digits-below) in
      let c = below-drop 10 d.intg (digits_of d) digits-below in
      let e = fraction-count in
      rw printed-is (rw e at (read-printed d.sign (whole_of d) (fraction_of d) b c back-trims.some (rw e back_fits) (rw e limits.1.1)))

  parsed : parse_text (printed d) ≡ Ok (of_digits d.sign (length (back_of d)) d.frac (back_of d ++ fraction_of d))
  unfolding parse_text
  parsed = ap from_numeral read_back

  back-value : length d.groups ≡ 9 → value (of_digits d.sign (length (back_of d)) d.frac (back_of d ++ fraction_of d)) ≡ value d
  unfolding value of_digits decimal_of
  back-value n =
      let h = limits in
      let p = row-magnitude (length (back_of d)) d.frac (back_of d ++ fraction_of d) h.1.1 back_fits back_count in
      let q = row-magnitude d.intg d.frac (digits_of d) h.1.1 h.1.0 digits-count in
      sign-value d.sign _ _ (length-tab 9 _) ∙ ap (signed d.sign) (p ∙ rw back-number (sym (rw (groups-are n) at q)))

  -- ---- the same record
  plain-text : d.sign ≡ false → printed d ≡ map show (whole_of d) ++ tail_of (fraction_of d)
  plain-text e = printed-is ∙ rw e

  -- no zero is lost in parsing,
  back_whole : Same d → back_of d ≡ whole_of d
  back_whole s = go d.sign refl
    where
      go : (neg : Bool) → d.sign ≡ neg → read_from neg (whole_of d) ≡ whole_of d
      go true e = refl
      go false e = not_zeros (whole_of d) (fraction_of d) (λ q. s.no-zeros e (rw (plain-text e) q))

  -- and none in printing
  back-digits : Same d → back_of d ≡ take d.intg (digits_of d)
  back-digits s =
      let n = length-take-le d.intg (digits_of d) whole-fits in
      back_whole s ∙ trimmed-same (whole-trims d.intg (digits_of d) s.integral whole-fits) (s.as_long ∙ sym n)

  same-comes-back : length d.groups ≡ 9 → Same d → parse_text (printed d) ≡ Ok d
  unfolding of_digits decimal_of
  same-comes-back n s =
      let l = length-take-le d.intg (digits_of d) whole-fits in
      let g = formed-sign d.sign d.intg d.frac d.groups w in
      parsed ∙ rw (back-digits s, l, take-append-drop d.intg (digits_of d), groups-are n, g)

  back-is-same : parse_text (printed d) ≡ Ok d → Same d
  unfolding of_digits decimal_of
  back-is-same h =
      let q : of_digits d.sign (length (back_of d)) d.frac (back_of d ++ fraction_of d) ≡ d = cc (parsed, h) in
      let i : length (back_of d) ≡ d.intg = ap (λ (a : Decimal). a.intg) q in
      let m = back-trims.some in
      let t = trimmed-length back-trims in
      let u = whole-size d.intg (digits_of d) whole-fits in
      let a = whole-some d.intg (digits_of d) whole-fits in
      record {
        integral = omega arith;
        as_long = omega arith;
        no-zeros = (λ e z.
            let r = zeros-go (whole_of d) (fraction_of d) a (rw (plain-text e) at z) in
            let b : length (bare (whole_of d)) ≡ d.intg = rw e at i in
            omega arith);
      }

-- ---- the laws
pub print-parse : (d : Decimal) → length d.groups ≡ 9 → is_well d ≡ true → valued (parse_text (printed d)) ≡ Ok (value d)
print-parse d n w = ap valued (parsed d w) ∙ ap Ok (back-value d w n)

pub same-record : (d : Decimal) → length d.groups ≡ 9 → is_well d ≡ true → (parse_text (printed d) ≡ Ok d) ↔ Same d
same-record d n w = (back-is-same d w, same-comes-back d w n)
