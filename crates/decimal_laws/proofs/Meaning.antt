-- The value of a text, and of a decimal, is the number that its digits write: the groups of digits count what the digits in a row do.
-- Assumes nothing.
use mathlib.Core.Path.{◌≡◌, ap, ◌∙◌}
use mathlib.Core.Bool.{true}
use mathlib.Core.List.{List}
use Prim.Native.Nat.{ℕ, ◌+◌, ◌-◌, ◌*◌, ◌^◌, ◌≤◌}
use lib.ListN.{length, take, drop, take-append-drop}
use lib.Seq.{length-take-le}
use Rattle.std.specs.Prelude.{Ok}
use Rattle.groups.specs.Numbers.{number, tab}
use Rattle.groups.specs.Layout.{groups_of, Digits}
use Rattle.groups.specs.Read.{stored_at}
use Rattle.numeral.specs.Read.{Numeral, read_text}
use Rattle.numeral.proofs.Limits.{read-within}
use Rattle.decimal.specs.Read.{decimal_of}
use Rattle.decimal.specs.Write.{is_well}
use Rattle.order.specs.Value.{magnitude}
use Rattle.decimal.specs.Text.{of_digits, of_numeral, parse_text, digits_of}
use Rattle.decimal.specs.declared.Decimal.{Decimal}
use Rattle.decimal_laws.proofs.Weights.{row-magnitude}
use Rattle.decimal_laws.proofs.Formed.{read-counts, was_text}
use Rattle.decimal_laws.proofs.Printed.{tab-front, limits, digits-count, groups-are}

-- the first i + f digits of more count
front-magnitude : (i f : ℕ) (ds : List ℕ) → f ≤ 30 → i + f ≤ 65 → i + f ≤ length ds
    → magnitude (groups_of i) (tab 9 (stored_at Digits i f ds)) ≡ number 10 (take (i + f) ds) * 10 ^ (81 - f)
front-magnitude i f ds hf h l =
    let D = take (i + f) ds in
    let n : length D ≡ i + f = length-take-le (i + f) ds l in
    let e : tab 9 (stored_at Digits i f ds) ≡ tab 9 (stored_at Digits i f D) = rw take-append-drop at (tab-front i f D (drop (i + f) ds) hf h n) in
    ap (magnitude (groups_of i)) e ∙ row-magnitude i f D hf h n

numeral-magnitude : (bs : List ℕ) (t : Numeral) → read_text bs ≡ Ok t
    → magnitude (groups_of (of_numeral t).intg) (of_numeral t).groups ≡ number 10 (take (t.intg + t.frac) t.digits) * 10 ^ (81 - t.frac)
unfolding of_digits decimal_of
numeral-magnitude bs t e = let r = read-within bs t e in front-magnitude t.intg t.frac t.digits r.0 r.1.0 (read-counts bs t e).1

-- ---- the laws
-- The value of the decimal that a text reads as is the number that the digits of the text write.
pub text-value : (bs : List ℕ) (d : Decimal) → parse_text bs ≡ Ok d
    → (t : Numeral) × (read_text bs ≡ Ok t) × (magnitude (groups_of d.intg) d.groups ≡ number 10 (take (t.intg + t.frac) t.digits) * 10 ^ (81 - t.frac))
text-value bs d e =
    let w = was_text bs d e in
    (w.0, w.1, ap (λ (d : Decimal). magnitude (groups_of d.intg) d.groups) w.2 ∙ numeral-magnitude bs w.0 w.1)

pub print-value : (d : Decimal) → length d.groups ≡ 9 → is_well d ≡ true
    → magnitude (groups_of d.intg) d.groups ≡ number 10 (digits_of d) * 10 ^ (81 - d.frac)
print-value d n w =
    let h = limits d w in
    rw (groups-are d w n) at (row-magnitude d.intg d.frac (digits_of d) h.1.1 h.1.0 (digits-count d w))
