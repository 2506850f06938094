-- Dates and times as nine numbers: `numbers` of the crate time has those of one that is answered, and `time_by` of time_records is the one that nine numbers are. A number that
-- is none of the four types' is 30, and so are fewer than nine numbers and nine that are none.
-- Assumes nothing.
use Rattle.std.specs.Prelude.{ℕ, List, Option, Some, None}
use Rattle.refusal.specs.Told.{Told, refusal}
use Rattle.time.specs.Answers.{type_of, read_told, write_told, write_leaves}
use Rattle.time.specs.declared.TimeType.{TimeType}
use Rattle.time.specs.declared.MysqlTime.{MysqlTime}
use Rattle.time_records.specs.TimeRecords.{time_by}

-- reading bytes as a value of the type that a number names
abbrev pub typed_told : Option TimeType → List ℕ → Told
typed_told (Some k) bytes = read_told k bytes
typed_told None bytes = refusal 30

unfoldable pub time_told : ℕ → List ℕ → Told
time_told code bytes = typed_told (type_of code) bytes

-- writing the date or time that a list holds into a lent list of bytes
abbrev pub record_told : Option MysqlTime → List ℕ → Told
record_told (Some t) bytes = write_told t bytes
record_told None bytes = refusal 30

abbrev pub record_leaves : Option MysqlTime → List ℕ → List ℕ
record_leaves (Some t) bytes = write_leaves t bytes
record_leaves None bytes = bytes

unfoldable pub time_written_told : List ℕ → List ℕ → Told
time_written_told xs bytes = record_told (time_by xs) bytes

unfoldable pub time_written_leaves : List ℕ → List ℕ → List ℕ
time_written_leaves xs bytes = record_leaves (time_by xs) bytes
