-- What reading a packed decimal answers (decimal.c of MySQL; document 01, 'Decimal rules'; of the sign document 02, W2). The groups are read by
-- `read_groups` of the crate groups, with its refusals Range, Short and Group; what is left of them without kept precision is `without_leading` of the crate
-- kept; here stand the sign and the packed header.
-- Assumes nothing.
use Rattle.std.specs.Prelude.{ℕ, ◌+◌, ◌-◌, Bool, true, false, cond, List, [], ◌∷◌, ltb, eqb, Result, Ok, Err}
use Rattle.refusal.specs.declared.Refusal.{Refusal}
use Rattle.refusal.specs.declared.Refusal.TheVariants as refusal
use Rattle.groups.specs.Layout.{form_of}
use Rattle.groups.specs.Read.{read_groups, zeros}
use Rattle.groups.specs.Sign.{below_zero}
use Rattle.kept.specs.Kept.{without_leading}
use Rattle.decimal.specs.declared.Decimal.{Decimal}

-- the first bit is clear where the bytes were inverted: those of a negative value, and of a negative zero
unfoldable pub negative : List ℕ → Bool
negative [] = false
negative (b ∷ bs) = ltb b 128

-- positive 0 with one integral digit
abbrev pub nought : Decimal
nought = record { intg = 1; frac = 0; sign = false; groups = zeros }

-- the decimal with these digits and groups, read with a minus or without; where the groups are all zero it is positive
unfoldable pub decimal_of : ℕ → ℕ → Bool → List ℕ → Decimal
decimal_of i f neg gs = record { intg = i; frac = f; sign = below_zero neg gs; groups = gs }

-- and positive 0 with one integral digit where no digit is left
unfoldable pub or_nought : ℕ → ℕ → Bool → List ℕ → Decimal
or_nought i f neg gs = cond (eqb (i + f) 0) nought (decimal_of i f neg gs)

-- with kept precision as it was read, and else without the leading integral groups that are zero
unfoldable pub finished : Bool → ℕ → ℕ → Bool → List ℕ → Decimal
finished true i f neg gs = or_nought i f neg gs
finished false i f neg gs = or_nought (without_leading i gs).intg f neg (without_leading i gs).groups

-- groups that were read, or their refusal
unfoldable pub from_groups : Result (List ℕ) Refusal → ℕ → ℕ → Bool → Bool → Result Decimal Refusal
from_groups (Ok gs) i f neg keep = Ok (finished keep i f neg gs)
from_groups (Err r) i f neg keep = Err r

-- digit bytes of a known precision and scale
unfoldable pub read_bin : List ℕ → ℕ → ℕ → Bool → Result Decimal Refusal
read_bin bs p s keep = from_groups (read_groups (form_of (negative bs)) bs p s) (p - s) s (negative bs) keep

-- packed: precision byte, scale byte, digits
unfoldable pub read_packed : List ℕ → Bool → Result Decimal Refusal
read_packed [] keep = Err refusal.Short
read_packed (p ∷ []) keep = Err refusal.Short
read_packed (p ∷ s ∷ bs) keep = read_bin bs p s keep
