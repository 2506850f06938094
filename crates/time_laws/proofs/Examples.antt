-- The worked examples as one statement over their table: the definition answers each as the description does. antt computes both sides.
-- Assumes nothing.
use mathlib.Core.Path.{◌≡◌, refl}
use mathlib.Core.List.{List, map}
use Prim.Native.Nat.{ℕ}
use Rattle.refusal.specs.Told.{Told}
use Rattle.raw.specs.Numbers.{value}
use Rattle.time.specs.declared.TimeType.{TimeType}
use Rattle.time.specs.Packed.{number, time_of, date_of, fields_of}
use Rattle.time.specs.Ranges.{within, sign_allowed, in_range}
use Rattle.time.specs.Answers.{ranged, read_told}
use Rattle.time_laws.specs.Table.{table}

pub examples : map (λ (r : (TimeType × List ℕ) × Told). read_told r.0.0 r.0.1) table ≡ map (λ (r : (TimeType × List ℕ) × Told). r.1) table
unfolding value number time_of date_of fields_of within sign_allowed in_range ranged read_told
examples = refl
