-- What reading the groups of a decimal answers (the function is that of `reading`): Range, then Short, then Group where a group has more digits than its place, else the nine
-- groups as they are kept in a record.
-- Assumes nothing.
use Rattle.std.specs.Prelude.{ℕ, ◌-◌, ◌*◌, ◌^◌, Bool, cond, List, leb, ltb, length, take, drop, replicate, Result, Ok, Err}
use Rattle.refusal.specs.declared.Refusal.{Refusal}
use Rattle.refusal.specs.declared.Refusal.TheVariants as refusal
use Rattle.groups.specs.Numbers.{number, tab, both, all}
use Rattle.groups.specs.Layout.{groups_of, digits_at, base_of, wide_of, offset, size_in, Form}
use Rattle.groups.specs.Packed.{digits_in}

-- accepted: precision at most 65, scale at most 30 and at most the precision. (0 with 0 is among them, and has no digits)
unfoldable pub in_range : ℕ → ℕ → Bool
in_range p s = both (leb p 65) (both (leb s 30) (leb s p))

-- the number in the group at place k, of the digits ds of all groups
unfoldable pub group_at : Form → ℕ → ℕ → List ℕ → ℕ → ℕ
group_at F i f ds k = number (base_of F) (take (wide_of F (digits_at i f k)) (drop (offset F i f k) ds))

-- a group of d digits is below 10 to the d
unfoldable pub range_at : Form → ℕ → ℕ → List ℕ → ℕ → Bool
range_at F i f ds k = ltb (group_at F i f ds k) (10 ^ digits_at i f k)

-- a record keeps a group of d digits of the fraction as if it had nine, so the last of a fraction is filled with zeros
unfoldable pub unit_of : ℕ → ℕ → ℕ → ℕ
unit_of i k d = cond (ltb k (groups_of i)) 1 (10 ^ (9 - d))

-- the group at place k as a record keeps it
unfoldable pub stored_at : Form → ℕ → ℕ → List ℕ → ℕ → ℕ
stored_at F i f ds k = group_at F i f ds k * unit_of i k (digits_at i f k)

abbrev pub zeros : List ℕ
zeros = replicate 9 0

-- of i integral and f fractional digits, all of whose bytes are there
unfoldable pub groups_in : Form → ℕ → ℕ → List ℕ → Result (List ℕ) Refusal
groups_in F i f ds = cond (all 9 (range_at F i f ds)) (Ok (tab 9 (stored_at F i f ds))) (Err refusal.Group)

unfoldable pub read_groups : Form → List ℕ → ℕ → ℕ → Result (List ℕ) Refusal
read_groups F bs p s =
    cond (in_range p s) (cond (leb (size_in F (p - s) s) (length bs)) (groups_in F (p - s) s (digits_in F bs)) (Err refusal.Short)) (Err refusal.Range)
