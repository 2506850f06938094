-- Which dates and times there are, in sentences about numbers (document 02, W4). They know nothing of the test `in_range` of the crate time; that both say the
-- same is proved in proofs/Ranges.antt.
-- Assumes nothing.
use Rattle.std.specs.Prelude.{ℕ, ◌+◌, ◌≤◌, ◌<◌, ◌≡◌, true, false}
use Rattle.time.specs.declared.TimeType.{TimeType}
use Rattle.time.specs.declared.TimeType.TheVariants as type
use Rattle.time.specs.declared.MysqlTime.{MysqlTime}

-- years go to 9,999, months to 12, days to 31, with zero allowed
pub record DatePart (t : MysqlTime) : Type 0 where
  pub years : t.year ≤ 9999
  pub months : t.month ≤ 12
  pub days : t.day ≤ 31

-- minutes and seconds go to 59, microseconds to 999,999, and hours to a number of their own
pub record ClockPart (most : ℕ) (t : MysqlTime) : Type 0 where
  pub hours : t.hour ≤ most
  pub minutes : t.minute ≤ 59
  pub seconds : t.second ≤ 59
  pub micros : t.second_part ≤ 999999

pub record NoDate (t : MysqlTime) : Type 0 where
  pub no-year : t.year ≡ 0
  pub no-month : t.month ≡ 0
  pub no-day : t.day ≡ 0

pub record NoClock (t : MysqlTime) : Type 0 where
  pub no-hour : t.hour ≡ 0
  pub no-minute : t.minute ≡ 0
  pub no_second : t.second ≡ 0
  pub no-micro : t.second_part ≡ 0

-- a date value has hours to 23 and is not negative
pub record DateAndTime (t : MysqlTime) : Type 0 where
  pub date : DatePart t
  pub clock : ClockPart 23 t
  pub positive : t.neg ≡ false

-- a plain date has no clock part
pub record PlainDate (t : MysqlTime) : Type 0 where
  pub date : DatePart t
  pub no-clock : NoClock t
  pub positive : t.neg ≡ false

-- a time has hours to 838 and no date part; it may be negative where it is not zero
pub record PlainTime (t : MysqlTime) : Type 0 where
  pub no-date : NoDate t
  pub clock : ClockPart 838 t
  pub sign : t.neg ≡ true → 0 < t.hour + t.minute + t.second + t.second_part

abbrev pub Accepted : TimeType → MysqlTime → Type 0
Accepted type.Timestamp t = DateAndTime t
Accepted type.Date t = PlainDate t
Accepted type.Time t = PlainTime t
Accepted type.Datetime t = DateAndTime t
