-- `Compares` is what a caller learns of a call of `compare`, and `Prints` follows from what one learns of `print`: of the contracts, as they are made of the source.
-- Assumes nothing.
use mathlib.Core.Path.{◌≡◌, refl, sym, ap, ◌∙◌}
use mathlib.Core.List.{List}
use Prim.Native.Nat.{ℕ}
use Rattle.std.specs.Prelude.{Result, Ok}
use lib.ListN.{take}
use Rattle.groups.specs.Write.{told as count_told}
use Rattle.std.specs.declared.cmp.Ordering.{Ordering}
use Rattle.refusal.specs.declared.Refusal.{Refusal}
use Rattle.decimal.specs.Text.{print_told, print_leaves}
use Rattle.decimal.specs.declared.Decimal.{Decimal}
use Rattle.decimal.proofs.Decimal.compare.Reads as compare-reads
use Rattle.decimal.proofs.Decimal.print.Reads as print-reads
use Rattle.order_laws.specs.Order.{Compares, Prints}

-- of a call of `compare` with a and b, whose result is r; e is the parameters at exit
pub compare-learnt : (a b : Decimal) (r : Result Ordering Refusal) (e : _) → compare-reads.Learnt tt (a, (b, tt)) r e ≡ Compares a b r
compare-learnt a b r e = refl

-- of a call of `print` with d and an output, whose result is r
pub print-learnt : (d : Decimal) (κs : _) (out : _) (r : Result ℕ Refusal) (e : _)
    → print-reads.Learnt κs (d, (out, tt)) r e ≡ ((count_told r ≡ print_told d out.now) × (e.1.0.now ≡ print_leaves d out.now))
print-learnt d κs out r e = refl

-- So where a call of `print` answered a count, the text is that many bytes at the front of the output afterwards.
pub prints-called : (d : Decimal) (out left : List ℕ) (r : Result ℕ Refusal) (n : ℕ) → count_told r ≡ print_told d out → left ≡ print_leaves d out → r ≡ Ok n
    → Prints d (take n left)
prints-called d out left r n h k e = record { out = out; left = left; count = n; counts = sym (ap count_told e) ∙ h; leaves = k; text = refl }
