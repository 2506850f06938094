-- What the test of a value's fields says of each of them, and back, and the two parts of the whole test, for those that need bounds.
-- Assumes nothing.
use Rattle.std.proofs.Common.{◌≡◌, true, ◌≤◌, arith}
use Rattle.std.proofs.lemmas.Bool.{and_parts}
use Rattle.std.proofs.lemmas.Bool.Decides.{nat_tests}
use Rattle.time.specs.declared.MysqlTime.{MysqlTime}
use Rattle.time.specs.Ranges.{greatest, within, sign_allowed, in_range}

pub record Within (t m : MysqlTime) : Type 0 where
  pub year-most : t.year ≤ m.year
  pub month-most : t.month ≤ m.month
  pub day-most : t.day ≤ m.day
  pub hour-most : t.hour ≤ m.hour
  pub minute-most : t.minute ≤ m.minute
  pub second-most : t.second ≤ m.second
  pub micro-most : t.second_part ≤ m.second_part

module _ (t m : MysqlTime) where
  pub each_within : within t m ≡ true → Within t m
  unfolding within
  each_within e =
      record {
        year-most = grind (arith, nat_tests);
        month-most = grind (arith, nat_tests);
        day-most = grind (arith, nat_tests);
        hour-most = grind (arith, nat_tests);
        minute-most = grind (arith, nat_tests);
        second-most = grind (arith, nat_tests);
        micro-most = grind (arith, nat_tests);
      }

  pub is_within : Within t m → within t m ≡ true
  unfolding within
  is_within w = grind (arith, nat_tests)

module _ (t : MysqlTime) (r : in_range t ≡ true) where
  pub range-within : Within t (greatest t.time_type)
  unfolding in_range
  range-within = each_within t (greatest t.time_type) (and_parts _ _ r).0

  pub range-sign : sign_allowed t ≡ true
  unfolding in_range
  range-sign = (and_parts (within t (greatest t.time_type)) (sign_allowed t) r).1
