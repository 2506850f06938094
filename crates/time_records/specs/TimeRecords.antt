-- Dates and times as numbers. One is nine, as `numbers` of the crate time has them: year, month, day, hour, minute, second, microseconds, the sign (0, else 1) and the
-- number of its type. Fewer are none, and so are nine whose last is the number of none of the four types; what stands behind the nine is not read.
-- Assumes nothing.
use Rattle.std.specs.Prelude.{ℕ, cond, List, ltb, length, get_or, Option, Some, None}
use Rattle.lent.specs.Layout.{flag}
use Rattle.time.specs.Answers.{type_of}
use Rattle.time.specs.declared.MysqlTime.{MysqlTime}
use Rattle.time.specs.declared.TimeType.{TimeType}

unfoldable pub time_in : TimeType → List ℕ → MysqlTime
time_in k xs =
    record {
      year = get_or xs 0 0;
      month = get_or xs 1 0;
      day = get_or xs 2 0;
      hour = get_or xs 3 0;
      minute = get_or xs 4 0;
      second = get_or xs 5 0;
      second_part = get_or xs 6 0;
      neg = flag (get_or xs 7 0);
      time_type = k;
    }

abbrev pub record_of : Option TimeType → List ℕ → Option MysqlTime
record_of (Some k) xs = Some (time_in k xs)
record_of None xs = None

unfoldable pub time_by : List ℕ → Option MysqlTime
time_by xs = cond (ltb (length xs) 9) None (record_of (type_of (get_or xs 8 0)) xs)
