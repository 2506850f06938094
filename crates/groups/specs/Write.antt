-- What a well formed decimal is, and what writing its groups answers and leaves (the function is that of `writing`; what is said of room is `printing`'s too): 26, then 25, else the count of bytes; only these change.
-- Assumes nothing.
use Rattle.std.specs.Prelude.{ℕ, zero, suc, ◌+◌, ◌-◌, ◌/◌, ◌%◌, ◌^◌, Bool, cond, not, List, [], ◌∷◌, ◌++◌, leb, ltb, eqb, length, get_or, drop, Result}
use Rattle.refusal.specs.declared.Refusal.{Refusal}
use Rattle.refusal.specs.Told.{Told, answer, refusal, told_by}
use Rattle.groups.specs.Numbers.{digits, both, all}
use Rattle.groups.specs.Layout.{digits_at, form_of, base_of, wide_of, size, Form}
use Rattle.groups.specs.Packed.{bytes_of}
use Rattle.groups.specs.Read.{in_range, unit_of}
use Rattle.groups.specs.Sign.{signed_nought}

-- an answer that counts bytes
abbrev pub told : Result ℕ Refusal → Told
told r = told_by (λ n. n ∷ []) r

-- the size of a precision and a scale, or 20
unfoldable pub size_of : ℕ → ℕ → Told
size_of p s = cond (in_range p s) (answer (size (p - s) s ∷ [])) (refusal 20)

-- 1 to 65 digits, at most 30 of them after the point
unfoldable pub digits_ok : ℕ → ℕ → Bool
digits_ok i f = both (leb 1 (i + f)) (both (leb (i + f) 65) (leb f 30))

-- the group g at place k is a multiple of its unit and has no more digits than its place; where the place has no digits it is 0
unfoldable pub well_at : ℕ → ℕ → ℕ → ℕ → Bool
well_at i f k g = both (eqb (g % unit_of i k (digits_at i f k)) 0) (ltb (g / unit_of i k (digits_at i f k)) (10 ^ digits_at i f k))

-- digits and groups in range, the last group scaled, unused groups 0
unfoldable pub well_groups : ℕ → ℕ → List ℕ → Bool
well_groups i f gs = both (digits_ok i f) (all 9 (λ k. well_at i f k (get_or gs k 0)))

-- what 26 is not: all that, and no sign on zero
unfoldable pub well_formed : Bool → ℕ → ℕ → List ℕ → Bool
well_formed neg i f gs = both (well_groups i f gs) (not (signed_nought neg gs))

-- the digits of the group g at place k
unfoldable pub group_digits : Form → ℕ → ℕ → ℕ → ℕ → List ℕ
group_digits F i f k g = digits (base_of F) (wide_of F (digits_at i f k)) (g / unit_of i k (digits_at i f k))

-- the digits of the first k groups
unfoldable pub digits_to : Form → ℕ → ℕ → List ℕ → ℕ → List ℕ
digits_to F i f gs zero = []
digits_to F i f gs (suc k) = digits_to F i f gs k ++ group_digits F i f k (get_or gs k 0)

-- the bytes of all groups
unfoldable pub written : Form → ℕ → ℕ → List ℕ → List ℕ
written F i f gs = bytes_of F (digits_to F i f gs 9)

-- What an output says that is to take the bytes bs, and what it holds afterwards: 25 where it is shorter, and then it is unchanged.
unfoldable pub room_told : List ℕ → List ℕ → Told
room_told bs out = cond (leb (length bs) (length out)) (answer (length bs ∷ [])) (refusal 25)

unfoldable pub room_leaves : List ℕ → List ℕ → List ℕ
room_leaves bs out = cond (leb (length bs) (length out)) (bs ++ drop (length bs) out) out

-- the answer, and the output afterwards; a negative decimal is inverted
unfoldable pub write_told : Bool → ℕ → ℕ → List ℕ → List ℕ → Told
write_told neg i f gs out = cond (well_formed neg i f gs) (room_told (written (form_of neg) i f gs) out) (refusal 26)

unfoldable pub write_leaves : Bool → ℕ → ℕ → List ℕ → List ℕ → List ℕ
write_leaves neg i f gs out = cond (well_formed neg i f gs) (room_leaves (written (form_of neg) i f gs) out) out
