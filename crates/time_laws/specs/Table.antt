-- Worked examples of document 02's W4: a type and bytes, and beside them what reading answers. The nine numbers of a value are its fields, 1 where it is
-- negative, and the number of its type. The bytes were computed from the description, not by the definitions.
-- Assumes nothing.
use Rattle.std.specs.Prelude.{ℕ, List, [], ◌∷◌}
use Rattle.refusal.specs.Told.{Told, answer, refusal}
use Rattle.time.specs.declared.TimeType.{TimeType}
use Rattle.time.specs.declared.TimeType.TheVariants as type

abbrev pub table : List ((TimeType × List ℕ) × Told)
table =
    -- 2026-11-16 19:13:25
    ((type.Datetime, 0x00 ∷ 0x00 ∷ 0x00 ∷ 0x59 ∷ 0x33 ∷ 0x61 ∷ 0xBB ∷ 0x19 ∷ []), answer (2026 ∷ 11 ∷ 16 ∷ 19 ∷ 13 ∷ 25 ∷ 0 ∷ 0 ∷ 12 ∷ [])) ∷
    -- 2026-11-16 19:13:25.25, a timestamp
    ((type.Timestamp, 0x90 ∷ 0xD0 ∷ 0x03 ∷ 0x59 ∷ 0x33 ∷ 0x61 ∷ 0xBB ∷ 0x19 ∷ []), answer (2026 ∷ 11 ∷ 16 ∷ 19 ∷ 13 ∷ 25 ∷ 250000 ∷ 0 ∷ 7 ∷ [])) ∷
    -- 2026-11-16
    ((type.Date, 0x00 ∷ 0x00 ∷ 0x00 ∷ 0x00 ∷ 0x00 ∷ 0x60 ∷ 0xBB ∷ 0x19 ∷ []), answer (2026 ∷ 11 ∷ 16 ∷ 0 ∷ 0 ∷ 0 ∷ 0 ∷ 0 ∷ 10 ∷ [])) ∷
    -- 0000-00-00
    ((type.Date, 0x00 ∷ 0x00 ∷ 0x00 ∷ 0x00 ∷ 0x00 ∷ 0x00 ∷ 0x00 ∷ 0x00 ∷ []), answer (0 ∷ 0 ∷ 0 ∷ 0 ∷ 0 ∷ 0 ∷ 0 ∷ 0 ∷ 10 ∷ [])) ∷
    -- the form has no calendar: February has 31 days
    ((type.Date, 0x00 ∷ 0x00 ∷ 0x00 ∷ 0x00 ∷ 0x00 ∷ 0x3E ∷ 0xB9 ∷ 0x19 ∷ []), answer (2026 ∷ 2 ∷ 31 ∷ 0 ∷ 0 ∷ 0 ∷ 0 ∷ 0 ∷ 10 ∷ [])) ∷
    -- the greatest date
    ((type.Datetime, 0x3F ∷ 0x42 ∷ 0x0F ∷ 0xFB ∷ 0x7E ∷ 0xFF ∷ 0xF3 ∷ 0x7E ∷ []), answer (9999 ∷ 12 ∷ 31 ∷ 23 ∷ 59 ∷ 59 ∷ 999999 ∷ 0 ∷ 12 ∷ [])) ∷
    -- 09:30:00
    ((type.Time, 0x00 ∷ 0x00 ∷ 0x00 ∷ 0x80 ∷ 0x97 ∷ 0x00 ∷ 0x00 ∷ 0x00 ∷ []), answer (0 ∷ 0 ∷ 0 ∷ 9 ∷ 30 ∷ 0 ∷ 0 ∷ 0 ∷ 11 ∷ [])) ∷
    -- the greatest time
    ((type.Time, 0x3F ∷ 0x42 ∷ 0x0F ∷ 0xFB ∷ 0x6E ∷ 0x34 ∷ 0x00 ∷ 0x00 ∷ []), answer (0 ∷ 0 ∷ 0 ∷ 838 ∷ 59 ∷ 59 ∷ 999999 ∷ 0 ∷ 11 ∷ [])) ∷
    -- and the least
    ((type.Time, 0xC1 ∷ 0xBD ∷ 0xF0 ∷ 0x04 ∷ 0x91 ∷ 0xCB ∷ 0xFF ∷ 0xFF ∷ []), answer (0 ∷ 0 ∷ 0 ∷ 838 ∷ 59 ∷ 59 ∷ 999999 ∷ 1 ∷ 11 ∷ [])) ∷
    -- a microsecond below zero
    ((type.Time, 0xFF ∷ 0xFF ∷ 0xFF ∷ 0xFF ∷ 0xFF ∷ 0xFF ∷ 0xFF ∷ 0xFF ∷ []), answer (0 ∷ 0 ∷ 0 ∷ 0 ∷ 0 ∷ 0 ∷ 1 ∷ 1 ∷ 11 ∷ [])) ∷
    -- the ninth byte is not read
    ((type.Time, 0x00 ∷ 0x00 ∷ 0x00 ∷ 0x00 ∷ 0x00 ∷ 0x00 ∷ 0x00 ∷ 0x00 ∷ 0xFF ∷ []), answer (0 ∷ 0 ∷ 0 ∷ 0 ∷ 0 ∷ 0 ∷ 0 ∷ 0 ∷ 11 ∷ [])) ∷
    -- an hour too many
    ((type.Time, 0x00 ∷ 0x00 ∷ 0x00 ∷ 0x00 ∷ 0x70 ∷ 0x34 ∷ 0x00 ∷ 0x00 ∷ []), refusal 30) ∷
    -- hours take all that is left: these are 1,024
    ((type.Time, 0x00 ∷ 0x00 ∷ 0x00 ∷ 0x00 ∷ 0x00 ∷ 0x40 ∷ 0x00 ∷ 0x00 ∷ []), refusal 30) ∷
    -- minute 60
    ((type.Time, 0x00 ∷ 0x00 ∷ 0x00 ∷ 0x00 ∷ 0x0F ∷ 0x00 ∷ 0x00 ∷ 0x00 ∷ []), refusal 30) ∷
    -- second 60
    ((type.Time, 0x00 ∷ 0x00 ∷ 0x00 ∷ 0x3C ∷ 0x00 ∷ 0x00 ∷ 0x00 ∷ 0x00 ∷ []), refusal 30) ∷
    -- a million microseconds
    ((type.Time, 0x40 ∷ 0x42 ∷ 0x0F ∷ 0x00 ∷ 0x00 ∷ 0x00 ∷ 0x00 ∷ 0x00 ∷ []), refusal 30) ∷
    -- hour 24 of a day
    ((type.Datetime, 0x00 ∷ 0x00 ∷ 0x00 ∷ 0x00 ∷ 0x80 ∷ 0x01 ∷ 0x00 ∷ 0x00 ∷ []), refusal 30) ∷
    -- the year 10000
    ((type.Datetime, 0x00 ∷ 0x00 ∷ 0x00 ∷ 0x00 ∷ 0x00 ∷ 0x00 ∷ 0xF4 ∷ 0x7E ∷ []), refusal 30) ∷
    -- a date with a clock part
    ((type.Date, 0x01 ∷ 0x00 ∷ 0x00 ∷ 0x00 ∷ 0x00 ∷ 0x60 ∷ 0xBB ∷ 0x19 ∷ []), refusal 30) ∷
    -- a negative date
    ((type.Date, 0x00 ∷ 0x00 ∷ 0x00 ∷ 0x00 ∷ 0x00 ∷ 0xA0 ∷ 0x44 ∷ 0xE6 ∷ []), refusal 30) ∷
    -- the least number
    ((type.Timestamp, 0x00 ∷ 0x00 ∷ 0x00 ∷ 0x00 ∷ 0x00 ∷ 0x00 ∷ 0x00 ∷ 0x80 ∷ []), refusal 30) ∷
    ((type.Date, 0x00 ∷ 0x00 ∷ 0x00 ∷ 0x00 ∷ 0x00 ∷ 0x00 ∷ 0x00 ∷ 0x80 ∷ []), refusal 30) ∷
    ((type.Time, 0x00 ∷ 0x00 ∷ 0x00 ∷ 0x00 ∷ 0x00 ∷ 0x00 ∷ 0x00 ∷ 0x80 ∷ []), refusal 30) ∷
    ((type.Datetime, 0x00 ∷ 0x00 ∷ 0x00 ∷ 0x00 ∷ 0x00 ∷ 0x00 ∷ 0x00 ∷ 0x80 ∷ []), refusal 30) ∷
    -- seven bytes
    ((type.Time, 0x00 ∷ 0x00 ∷ 0x00 ∷ 0x00 ∷ 0x00 ∷ 0x00 ∷ 0x00 ∷ []), refusal 31) ∷
    ((type.Date, []), refusal 31) ∷
    []
