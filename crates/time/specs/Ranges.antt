-- Which fields a date or a time may have (document 02, W4). Each lies between 0 and that of the greatest value of its type, so a plain date has no clock part
-- and a time no date part; a date value and a zero are not negative.
-- Assumes nothing.
use Rattle.std.specs.Prelude.{Bool, false, not, ◌&&◌, ◌||◌, leb}
use Rattle.time.specs.declared.TimeType.{TimeType}
use Rattle.time.specs.declared.TimeType.TheVariants as type
use Rattle.time.specs.declared.MysqlTime.{MysqlTime}
use Rattle.time.specs.Packed.{is_time}

-- the greatest value of each type, field by field: 9999-12-31 23:59:59.999999, 9999-12-31 and 838:59:59.999999
abbrev pub greatest : TimeType → MysqlTime
greatest type.Timestamp =
    record { year = 9999; month = 12; day = 31; hour = 23; minute = 59; second = 59; second_part = 999999; neg = false; time_type = type.Timestamp }
greatest type.Date = record { year = 9999; month = 12; day = 31; hour = 0; minute = 0; second = 0; second_part = 0; neg = false; time_type = type.Date }
greatest type.Time = record { year = 0; month = 0; day = 0; hour = 838; minute = 59; second = 59; second_part = 999999; neg = false; time_type = type.Time }
greatest type.Datetime =
    record { year = 9999; month = 12; day = 31; hour = 23; minute = 59; second = 59; second_part = 999999; neg = false; time_type = type.Datetime }

-- no field of one is above that of the other
unfoldable pub within : MysqlTime → MysqlTime → Bool
within t most =
    leb t.year most.year
    && leb t.month most.month
    && leb t.day most.day
    && leb t.hour most.hour
    && leb t.minute most.minute
    && leb t.second most.second
    && leb t.second_part most.second_part

-- no field is above 0
abbrev pub nought : MysqlTime
nought = record { year = 0; month = 0; day = 0; hour = 0; minute = 0; second = 0; second_part = 0; neg = false; time_type = type.Time }

abbrev pub is_zero : MysqlTime → Bool
is_zero t = within t nought

-- only a time, and not zero, may be negative
unfoldable pub sign_allowed : MysqlTime → Bool
sign_allowed t = not t.neg || (is_time t.time_type && not (is_zero t))

unfoldable pub in_range : MysqlTime → Bool
in_range t = within t (greatest t.time_type) && sign_allowed t
