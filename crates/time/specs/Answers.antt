-- What reading and writing answer, and what writing leaves (document 02, W4). Reading: 31 for fewer than eight bytes, then 30 for a field out of range. Writing: 30,
-- then 25, and then the output is as it was; else its first eight bytes are the packed form. The types by their numbers: those of MySQL's column types.
-- Assumes nothing.
use Rattle.std.specs.Prelude.{ℕ, cond, List, [], ◌∷◌, ◌++◌, Option, Some, None, ltb, eqb, length, drop}
use Rattle.refusal.specs.Told.{Told, answer, refusal}
use Rattle.time.specs.Packed.{number, fields_of, packed}
use Rattle.time.specs.Ranges.{in_range}
use Rattle.time.specs.declared.TimeType.{TimeType}
use Rattle.time.specs.declared.TimeType.TheVariants as type
use Rattle.time.specs.declared.MysqlTime.{MysqlTime}

-- ---- the types by number
abbrev pub code_of : TimeType → ℕ
code_of type.Timestamp = 7
code_of type.Date = 10
code_of type.Time = 11
code_of type.Datetime = 12

unfoldable pub type_of : ℕ → Option TimeType
type_of n =
    cond (eqb n 7) (Some type.Timestamp)
    (cond (eqb n 10) (Some type.Date)
    (cond (eqb n 11) (Some type.Time)
    (cond (eqb n 12) (Some type.Datetime) None)))

-- ---- a date or a time as nine numbers: its fields, 1 where it is negative and else 0, its type
abbrev pub numbers : MysqlTime → List ℕ
numbers t = t.year ∷ t.month ∷ t.day ∷ t.hour ∷ t.minute ∷ t.second ∷ t.second_part ∷ cond t.neg 1 0 ∷ code_of t.time_type ∷ []

-- ---- reading
unfoldable pub ranged : MysqlTime → Told
ranged t = cond (in_range t) (answer (numbers t)) (refusal 30)

unfoldable pub read_told : TimeType → List ℕ → Told
read_told k bs = cond (ltb (length bs) 8) (refusal 31) (ranged (fields_of k (number bs)))

-- ---- writing: how many bytes, and what is left of the output
abbrev pub written : Unit {0} → List ℕ
written _ = 8 ∷ []

unfoldable pub write_told : MysqlTime → List ℕ → Told
write_told t out = cond (in_range t) (cond (ltb (length out) 8) (refusal 25) (answer (8 ∷ []))) (refusal 30)

unfoldable pub write_leaves : MysqlTime → List ℕ → List ℕ
write_leaves t out = cond (in_range t) (cond (ltb (length out) 8) out (packed t ++ drop 8 out)) out
