-- Decimal text, printed (document 01, 'Decimal rules'), from a sign and digits, i of them before the point and f after it; and what printing the
-- groups of a decimal answers and leaves.
-- Assumes nothing.
use Rattle.std.specs.Prelude.{ℕ, ◌+◌, ◌-◌, Bool, true, false, cond, List, [], ◌∷◌, ◌++◌, map, eqb, take, drop}
use Rattle.refusal.specs.Told.{Told, refusal}
use Rattle.groups.specs.Layout.{side, groups_of, Digits}
use Rattle.groups.specs.Write.{well_formed, digits_to, room_told, room_leaves}

-- the character of a digit
abbrev pub show : ℕ → ℕ
show d = d + 48

-- without the zeros at the front; the last digit stays
unfoldable pub unpadded : List ℕ → List ℕ
unpadded [] = []
unpadded (d ∷ []) = d ∷ []
unpadded (d ∷ e ∷ ds) = cond (eqb d 0) (unpadded (e ∷ ds)) (d ∷ e ∷ ds)

-- the digits of the first of the integral groups
abbrev pub first_digits : ℕ → ℕ
first_digits i = side i (groups_of i - 1)

-- the first integral group without padding, later groups nine wide, "0" where there is no integral digit
unfoldable pub whole_digits : ℕ → List ℕ → List ℕ
whole_digits i ds = cond (eqb i 0) (0 ∷ []) (unpadded (take (first_digits i) ds) ++ drop (first_digits i) (take i ds))

-- a point and the digits after it, where there are any
unfoldable pub fraction_text : ℕ → ℕ → List ℕ → List ℕ
fraction_text i f ds = cond (eqb f 0) [] (46 ∷ map show (take f (drop i ds)))

abbrev pub sign_text : Bool → List ℕ
sign_text true = 45 ∷ []
sign_text false = []

abbrev pub text_of : Bool → ℕ → ℕ → List ℕ → List ℕ
text_of neg i f ds = sign_text neg ++ (map show (whole_digits i ds) ++ fraction_text i f ds)

-- the text of the digits in a decimal's groups
abbrev pub groups_text : Bool → ℕ → ℕ → List ℕ → List ℕ
groups_text neg i f gs = text_of neg i f (digits_to Digits i f gs 9)

-- the answer, and the output afterwards: 26 before 25
unfoldable pub print_told : Bool → ℕ → ℕ → List ℕ → List ℕ → Told
print_told neg i f gs out = cond (well_formed neg i f gs) (room_told (groups_text neg i f gs) out) (refusal 26)

unfoldable pub print_leaves : Bool → ℕ → ℕ → List ℕ → List ℕ → List ℕ
print_leaves neg i f gs out = cond (well_formed neg i f gs) (room_leaves (groups_text neg i f gs) out) out
