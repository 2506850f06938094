-- The value of a decimal is a number: a sign and a natural at a fixed scale. Comparison is by value, so 1 equals 1.0.
-- Assumes nothing.
use Rattle.std.specs.Prelude.{ℕ, ◌*◌, ◌^◌, Bool, true, false, cond, List, [], ◌∷◌, ℤ, pos, neg_ℤ, Result, Ok}
use Rattle.std.specs.declared.cmp.Ordering.{Ordering}
use Rattle.std.specs.declared.cmp.Ordering.TheVariants.{Less, Equal, Greater}
use Rattle.std.specs.Int.Signed.{lt_z}
use Rattle.refusal.specs.declared.Refusal.{Refusal}
use Rattle.refusal.specs.Told.{Told, refusal, told_by}
use Rattle.groups.specs.Numbers.{number, both}
use Rattle.groups.specs.Layout.{groups_of}
use Rattle.groups.specs.Write.{well_formed}
use Rattle.groups.specs.declared.Parts.{Parts}

-- With n integral groups the group at place k counts 10 ^ (9 * (n - 1 - k)): so this is the magnitude times 10 ^ 81.
unfoldable pub magnitude : ℕ → List ℕ → ℕ
magnitude n gs = number 1000000000 gs * 1000000000 ^ n

abbrev pub signed : Bool → ℕ → ℤ
signed true m = neg_ℤ (pos m)
signed false m = pos m

-- the value times 10 ^ 81 of a decimal that is negative or not, with i integral digits
abbrev pub value_of : Bool → ℕ → List ℕ → ℤ
value_of neg i gs = signed neg (magnitude (groups_of i) gs)

-- less, equal and greater are told by 0, 1 and 2
abbrev pub number_of : Ordering → ℕ
number_of Less = 0
number_of Equal = 1
number_of Greater = 2

-- an answer of the comparison
abbrev pub told : Result Ordering Refusal → Told
told r = told_by (λ o. number_of o ∷ []) r

-- the order of two values
unfoldable pub order_z : ℤ → ℤ → Ordering
order_z x y = cond (lt_z x y) Less (cond (lt_z y x) Greater Equal)

-- a sign, digits and groups are those of a decimal; and its value
abbrev pub is_well : Parts → Bool
is_well p = well_formed p.negative p.intg p.frac p.groups

abbrev pub value : Parts → ℤ
value p = value_of p.negative p.intg p.groups

-- of two decimals: less, equal or greater by value, or 26
unfoldable pub compare_told : Parts → Parts → Told
compare_told a b = cond (both (is_well a) (is_well b)) (told (Ok (order_z (value a) (value b)))) (refusal 26)
