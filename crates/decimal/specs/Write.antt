-- What a decimal's size and its packed bytes are; what writing answers and leaves is `write_told` and `write_leaves` of the crate groups.
-- Assumes nothing.
use Rattle.std.specs.Prelude.{ℕ, Bool, cond, List, [], ◌∷◌}
use Rattle.refusal.specs.Told.{Told, answer, refusal}
use Rattle.groups.specs.Layout.{form_of, size}
use Rattle.groups.specs.Write.{well_formed, written, write_told, write_leaves}
use Rattle.groups.specs.declared.Parts.{Parts}
use Rattle.decimal.specs.declared.Decimal.{Decimal}

-- the parts of a record
abbrev pub parts_of : Decimal → Parts
parts_of d = record { negative = d.sign; intg = d.intg; frac = d.frac; groups = d.groups }

-- the record is a decimal
abbrev pub is_well : Decimal → Bool
is_well d = well_formed d.sign d.intg d.frac d.groups

-- the size, or 26
unfoldable pub bin_size : Decimal → Told
bin_size d = cond (is_well d) (answer (size d.intg d.frac ∷ [])) (refusal 26)

-- the digit bytes, inverted where it is negative
abbrev pub packed : Decimal → List ℕ
packed d = written (form_of d.sign) d.intg d.frac d.groups

abbrev pub write_bin : Decimal → List ℕ → Told
write_bin d out = write_told d.sign d.intg d.frac d.groups out

abbrev pub bin_leaves : Decimal → List ℕ → List ℕ
bin_leaves d out = write_leaves d.sign d.intg d.frac d.groups out
