-- MySQL's packed form of dates and times, which is a signed number: document 02 (W4), from the comments on the in-memory forms of TIME and of DATETIME and DATE in
-- MySQL's my_time.cc, which list the bits of each field; inside JSON it is eight bytes, lowest first (`Json_datetime` of json_dom.cc). A field is a quotient or a
-- remainder of the number's magnitude. Of a time all above the minutes is hours: the comment gives them ten bits, and no bit above these is passed over here.
-- Assumes nothing.
use Rattle.std.specs.Prelude.{ℕ, ◌+◌, ◌*◌, ◌^◌, ◌/◌, ◌%◌, Bool, true, false, cond, List, ℤ, pos, negsuc, neg_ℤ, nat_abs, take}
use Rattle.std.specs.Int.{w64}
use Rattle.std.proofs.Common.{to_z, of_z}
use Rattle.raw.specs.Numbers.{value, bytes_of}
use Rattle.time.specs.declared.TimeType.{TimeType}
use Rattle.time.specs.declared.TimeType.TheVariants as type
use Rattle.time.specs.declared.MysqlTime.{MysqlTime}

-- ---- the number: the first eight bytes, lowest first, signed; its sign and its magnitude
unfoldable pub number : List ℕ → ℤ
number bs = to_z w64 (value (take 8 bs))

abbrev pub is_below : ℤ → Bool
is_below (pos n) = false
is_below (negsuc n) = true

-- ---- the fields of a magnitude

-- n bits of it, above the lowest ones
abbrev pub bits_above : ℕ → ℕ → ℕ → ℕ
bits_above low n m = m / 2 ^ low % 2 ^ n

-- the low 24 bits are microseconds, above them six bits are seconds and six minutes
abbrev pub micro_of : ℕ → ℕ
micro_of m = m % 2 ^ 24

abbrev pub second_of : ℕ → ℕ
second_of m = bits_above 24 6 m

abbrev pub minute_of : ℕ → ℕ
minute_of m = bits_above 30 6 m

-- for a time the rest is hours
abbrev pub hours_of : ℕ → ℕ
hours_of m = m / 2 ^ 36

-- for a date come five bits of hour, five of day, and then the year times 13 plus the month
abbrev pub hour_of : ℕ → ℕ
hour_of m = bits_above 36 5 m

abbrev pub day_of : ℕ → ℕ
day_of m = bits_above 41 5 m

abbrev pub year_and_month : ℕ → ℕ
year_and_month m = m / 2 ^ 46

-- ---- what a number is: a time, or a date with its clock, of any of the other three types
unfoldable pub time_of : Bool → ℕ → MysqlTime
time_of below m =
    record {
      year = 0;
      month = 0;
      day = 0;
      hour = hours_of m;
      minute = minute_of m;
      second = second_of m;
      second_part = micro_of m;
      neg = below;
      time_type = type.Time;
    }

unfoldable pub date_of : TimeType → Bool → ℕ → MysqlTime
date_of k below m =
    record {
      year = year_and_month m / 13;
      month = year_and_month m % 13;
      day = day_of m;
      hour = hour_of m;
      minute = minute_of m;
      second = second_of m;
      second_part = micro_of m;
      neg = below;
      time_type = k;
    }

abbrev pub is_time : TimeType → Bool
is_time type.Timestamp = false
is_time type.Date = false
is_time type.Time = true
is_time type.Datetime = false

unfoldable pub fields_of : TimeType → ℤ → MysqlTime
fields_of k z = cond (is_time k) (time_of (is_below z) (nat_abs z)) (date_of k (is_below z) (nat_abs z))

-- ---- and back: what stands above the minutes, the magnitude, the number, its bytes
abbrev pub date_and_hour : MysqlTime → ℕ
date_and_hour t = ((t.year * 13 + t.month) * 2 ^ 5 + t.day) * 2 ^ 5 + t.hour

unfoldable pub above_minutes : MysqlTime → ℕ
above_minutes t = cond (is_time t.time_type) t.hour (date_and_hour t)

unfoldable pub magnitude_of : MysqlTime → ℕ
magnitude_of t = ((above_minutes t * 2 ^ 6 + t.minute) * 2 ^ 6 + t.second) * 2 ^ 24 + t.second_part

unfoldable pub number_of : MysqlTime → ℤ
number_of t = cond t.neg (neg_ℤ (pos (magnitude_of t))) (pos (magnitude_of t))

unfoldable pub packed : MysqlTime → List ℕ
packed t = bytes_of 8 (of_z w64 (number_of t))
