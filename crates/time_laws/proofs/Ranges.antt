-- The test of the ranges and the sentences about them say the same, type by type.
-- Assumes nothing.
use Rattle.std.proofs.Common.{◌≡◌, Bool, true, not, ◌&&◌, ◌||◌, arith}
use Rattle.std.proofs.lemmas.Bool.{and_from}
use Rattle.std.proofs.lemmas.Bool.Decides.{nat_tests}
use Rattle.time.specs.declared.TimeType.{TimeType}
use Rattle.time.specs.declared.TimeType.TheVariants as type
use Rattle.time.specs.declared.MysqlTime.{MysqlTime}
use Rattle.time.specs.Packed.{is_time}
use Rattle.time.specs.Ranges.{greatest, within, is_zero, sign_allowed, in_range}
use Rattle.time.proofs.Range.{Within, is_within, range-within, range-sign}
use Rattle.time_laws.specs.Accepted.{Accepted}

-- the sign, by the type
abbrev sign_by : TimeType → MysqlTime → Bool
sign_by k t = not t.neg || (is_time k && not (is_zero t))

accepted-by : (k : TimeType) (t : MysqlTime) → Within t (greatest k) → sign_by k t ≡ true → Accepted k t
unfolding within
accepted-by type.Timestamp t w s = record { date = omega (arith, w); clock = omega (arith, w); positive = grind arith }
accepted-by type.Date t w s = record { date = omega (arith, w); no-clock = omega (arith, w); positive = grind arith }
accepted-by type.Time t w s =
    record { no-date = omega (arith, w); clock = omega (arith, w); sign = λ n. grind (arith, nat_tests) }
accepted-by type.Datetime t w s = record { date = omega (arith, w); clock = omega (arith, w); positive = grind arith }

tested-by : (k : TimeType) (t : MysqlTime) → Accepted k t → (Within t (greatest k)) × (sign_by k t ≡ true)
unfolding within
tested-by type.Timestamp t a = (omega (arith, a), grind arith)
tested-by type.Date t a = (omega (arith, a), grind arith)
tested-by type.Time t a = (omega (arith, a), grind (arith, nat_tests))
tested-by type.Datetime t a = (omega (arith, a), grind arith)

pub accepts : (t : MysqlTime) → in_range t ≡ true → Accepted t.time_type t
unfolding sign_allowed
accepts t r = accepted-by t.time_type t (range-within t r) (range-sign t r)

pub in-range : (t : MysqlTime) → Accepted t.time_type t → in_range t ≡ true
unfolding in_range sign_allowed
in-range t a =
    let p = tested-by t.time_type t a in
    and_from _ _ (is_within t (greatest t.time_type) p.0) p.1
