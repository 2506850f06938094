-- The places of a decimal by its two sides. The integral digits that fill no whole group, if there are any, have the place 0; then come the
-- whole groups of both sides, and at last the digits of the fraction that fill none. So 1234567890.1234 has a lead of one digit at place 0, one
-- whole group at place 1, and a tail of four digits at place 2. That these are the places of `digits_at` is proved of every number of digits. No
-- other definition rests on these.
-- Assumes nothing.
use Rattle.std.specs.Prelude.{ℕ, ◌+◌, ◌*◌, ◌/◌, ◌%◌, min}
use Rattle.groups.specs.Layout.{width, groups_of}
use Rattle.groups.specs.declared.layout.Sides.{Sides}

-- the digits of a side of n digits that fill no whole group, and how many places they take
abbrev pub rest : ℕ → ℕ
rest n = n % 9

abbrev pub lead_places : ℕ → ℕ
lead_places n = min 1 (rest n)

-- the whole groups of both sides
abbrev pub wholes : ℕ → ℕ → ℕ
wholes i f = i / 9 + f / 9

-- the bytes of the groups of both sides: of 65 digits or fewer this is the size
abbrev pub sides_size : ℕ → ℕ → ℕ
sides_size i f = width (rest i) + 4 * wholes i f + width (rest f)

abbrev pub sides_of : ℕ → ℕ → Sides
sides_of i f =
    record { size = sides_size i f; lead = rest i; front = width (rest i); first = lead_places i; point = groups_of i; last = groups_of i + f / 9; tail = rest f; back = width (rest f) }
