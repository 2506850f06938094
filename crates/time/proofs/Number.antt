-- The packed number of fields that are in range: each part of its magnitude stays small, and the whole below 2 ^ 63.
-- Assumes nothing.
use Rattle.std.proofs.Common.{◌≡◌, ◌<◌, ◌≤◌, Bool, true, false, cond, arith}
use Rattle.time.specs.declared.TimeType.{TimeType}
use Rattle.time.specs.declared.TimeType.TheVariants as type
use Rattle.time.specs.declared.MysqlTime.{MysqlTime}
use Rattle.time.specs.Packed.{is_time, date_and_hour, above_minutes, magnitude_of}
use Rattle.time.specs.Ranges.{greatest, in_range}
use Rattle.time.proofs.Range.{Within, range-within}

-- ---- bounds: the greatest values of all four types
record Limits (t : MysqlTime) : Type 0 where
  year-limit : t.year ≤ 9999
  month-limit : t.month ≤ 12
  day-limit : t.day ≤ 31
  hour-limit : t.hour ≤ 838
  minute-limit : t.minute ≤ 59
  second-limit : t.second ≤ 59
  micro-limit : t.second_part ≤ 999999

limits-by : (k : TimeType) (t : MysqlTime) → Within t (greatest k) → Limits t
limits-by type.Timestamp t w = omega (arith, w)
limits-by type.Date t w = omega (arith, w)
limits-by type.Time t w = omega (arith, w)
limits-by type.Datetime t w = omega (arith, w)

above-by : (b : Bool) (t : MysqlTime) → Limits t → cond b t.hour (date_and_hour t) < 134217728
above-by true t w = omega (arith, w)
above-by false t w = omega (arith, w)

-- what the parts of the magnitude are below
pub record Small (t : MysqlTime) : Type 0 where
  pub above-small : above_minutes t < 134217728
  pub minute-small : t.minute < 60
  pub second-small : t.second < 60
  pub micro-small : t.second_part < 1000000

module _ (t : MysqlTime) (r : in_range t ≡ true) where
  pub small_parts : Small t
  unfolding above_minutes
  small_parts =
      let limits = limits-by t.time_type t (range-within t r) in
      record {
        above-small = above-by (is_time t.time_type) t limits;
        minute-small = omega (arith, limits);
        second-small = omega (arith, limits);
        micro-small = omega (arith, limits);
      }

  pub magnitude_below : magnitude_of t < 9223372036854775808
  unfolding magnitude_of
  magnitude_below = omega (arith, small_parts)
