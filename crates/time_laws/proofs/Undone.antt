-- The fields of the number of a value are the value, and the number of the fields of a number is the number: quotients and remainders by the same units that
-- the magnitude is made of.
-- Assumes nothing.
use Rattle.std.proofs.Common.{◌≡◌, refl, sym, ap, ◌∙◌, ℕ, zero, suc, ◌+◌, ◌*◌, ◌/◌, ◌%◌, ◌<◌, Bool, true, false, cond, ℤ, pos, negsuc, neg_ℤ, nat_abs, arith}
use Rattle.time.specs.declared.TimeType.{TimeType}
use Rattle.time.specs.declared.TimeType.TheVariants as type
use Rattle.time.specs.declared.MysqlTime.{MysqlTime}
use Rattle.time.specs.Packed.{is_below, is_time, time_of, date_of, fields_of, above_minutes, magnitude_of, number_of}
use Rattle.time.specs.Ranges.{in_range}
use Rattle.time_laws.specs.Accepted.{DatePart, ClockPart, PlainTime, Accepted}
use Rattle.time_laws.proofs.Ranges.{accepts}

-- ---- the magnitude of a value, by its type
time-magnitude : (t : MysqlTime) → is_time t.time_type ≡ true → magnitude_of t ≡ ((t.hour * 64 + t.minute) * 64 + t.second) * 16777216 + t.second_part
unfolding magnitude_of above_minutes
time-magnitude t h = rw h

date-magnitude :
    (t : MysqlTime) → is_time t.time_type ≡ false
    → magnitude_of t ≡ (((((t.year * 13 + t.month) * 32 + t.day) * 32 + t.hour) * 64 + t.minute) * 64 + t.second) * 16777216 + t.second_part
unfolding magnitude_of above_minutes
date-magnitude t h = rw h

-- ---- the sign and the magnitude of a number
abbrev signed : ℕ → Bool → ℤ
signed m below = cond below (neg_ℤ (pos m)) (pos m)

sign_of : (m : ℕ) (below : Bool) → (below ≡ true → 0 < m) → is_below (signed m below) ≡ below
sign_of zero true f = absurd (let h = f refl in omega arith)
sign_of (suc m) true f = refl
sign_of m false f = refl

magnitude-of : (m : ℕ) (below : Bool) → nat_abs (signed m below) ≡ m
magnitude-of zero true = refl
magnitude-of (suc m) true = refl
magnitude-of m false = refl

both-again : (z : ℤ) → signed (nat_abs z) (is_below z) ≡ z
both-again (pos n) = refl
both-again (negsuc n) = refl

-- ---- the fields of a magnitude that is made of fields
time-again : (t : MysqlTime) (m : ℕ) → t.time_type ≡ type.Time → PlainTime t → m ≡ ((t.hour * 64 + t.minute) * 64 + t.second) * 16777216 + t.second_part
    → time_of t.neg m ≡ t
unfolding time_of
time-again t m k a e =
    let d = a.no-date in
    let c = a.clock in
    let hour : m / 68719476736 ≡ t.hour = omega (arith, c) in
    let minute : m / 1073741824 % 64 ≡ t.minute = omega (arith, c) in
    let second : m / 16777216 % 64 ≡ t.second = omega (arith, c) in
    let micro : m % 16777216 ≡ t.second_part = omega (arith, c) in
    rw (hour, minute, second, micro, d.no-year, d.no-month, d.no-day, k)

date-again : (t : MysqlTime) (m : ℕ) → DatePart t → ClockPart 23 t
    → m ≡ (((((t.year * 13 + t.month) * 32 + t.day) * 32 + t.hour) * 64 + t.minute) * 64 + t.second) * 16777216 + t.second_part
    → date_of t.time_type t.neg m ≡ t
unfolding date_of
date-again t m d c e =
    let months : m / 70368744177664 ≡ t.year * 13 + t.month = omega (arith, d, c) in
    let year : m / 70368744177664 / 13 ≡ t.year = omega (arith, d) in
    let month : m / 70368744177664 % 13 ≡ t.month = omega (arith, d) in
    let day : m / 2199023255552 % 32 ≡ t.day = omega (arith, d, c) in
    let hour : m / 68719476736 % 32 ≡ t.hour = omega (arith, d, c) in
    let minute : m / 1073741824 % 64 ≡ t.minute = omega (arith, d, c) in
    let second : m / 16777216 % 64 ≡ t.second = omega (arith, d, c) in
    let micro : m % 16777216 ≡ t.second_part = omega (arith, d, c) in
    rw (year, month, day, hour, minute, second, micro)

-- ---- the fields of the number of a value
above-zero : (k : TimeType) (t : MysqlTime) → t.time_type ≡ k → Accepted k t → t.neg ≡ true → 0 < magnitude_of t
above-zero type.Timestamp t p a n = absurd (cc a.positive)
above-zero type.Date t p a n = absurd (cc a.positive)
above-zero type.Time t p a n = omega (arith, a.sign n, time-magnitude t (ap is_time p))
above-zero type.Datetime t p a n = absurd (cc a.positive)

-- those of its sign and its magnitude are those of the value
again_by : (k : TimeType) (t : MysqlTime) → t.time_type ≡ k → Accepted k t → fields_of k (signed (magnitude_of t) t.neg) ≡ t
unfolding fields_of
again_by type.Timestamp t p a =
    rw (sign_of (magnitude_of t) t.neg (above-zero type.Timestamp t p a), magnitude-of, sym p)
    (date-again t (magnitude_of t) a.date a.clock (date-magnitude t (ap is_time p)))
again_by type.Date t p a =
    rw (sign_of (magnitude_of t) t.neg (above-zero type.Date t p a), magnitude-of, sym p)
    (date-again t (magnitude_of t) a.date (omega (arith, a.no-clock)) (date-magnitude t (ap is_time p)))
again_by type.Time t p a =
    rw (sign_of (magnitude_of t) t.neg (above-zero type.Time t p a), magnitude-of)
    (time-again t (magnitude_of t) p a (time-magnitude t (ap is_time p)))
again_by type.Datetime t p a =
    rw (sign_of (magnitude_of t) t.neg (above-zero type.Datetime t p a), magnitude-of, sym p)
    (date-again t (magnitude_of t) a.date a.clock (date-magnitude t (ap is_time p)))

pub fields-again : (t : MysqlTime) → in_range t ≡ true → fields_of t.time_type (number_of t) ≡ t
unfolding number_of
fields-again t r = again_by t.time_type t refl (accepts t r)

-- ---- the number of the fields of a number
time-made : (below : Bool) (m : ℕ) → magnitude_of (time_of below m) ≡ m
unfolding time_of magnitude_of above_minutes
time-made below m = omega arith

-- a number by its parts, from the lowest up
joined :
    (m a b c d e u s mi h da mo y : ℕ)
    → m ≡ a * 16777216 + u → a ≡ b * 64 + s → b ≡ c * 64 + mi → c ≡ d * 32 + h → d ≡ e * 32 + da → e ≡ y * 13 + mo
    → (((((y * 13 + mo) * 32 + da) * 32 + h) * 64 + mi) * 64 + s) * 16777216 + u ≡ m
joined m a b c d e u s mi h da mo y p q r v w x = omega arith

date-made : (k : TimeType) (below : Bool) (m : ℕ) → is_time k ≡ false → magnitude_of (date_of k below m) ≡ m
unfolding date_of
date-made k below m h =
    date-magnitude (date_of k below m) h
    ∙ joined
    m
    (m / 16777216)
    (m / 1073741824)
    (m / 68719476736)
    (m / 2199023255552)
    (m / 70368744177664)
    (m % 16777216)
    (m / 16777216 % 64)
    (m / 1073741824 % 64)
    (m / 68719476736 % 32)
    (m / 2199023255552 % 32)
    (m / 70368744177664 % 13)
    (m / 70368744177664 / 13)
    (omega arith)
    (omega arith)
    (omega arith)
    (omega arith)
    (omega arith)
    (omega arith)

time-number : (z : ℤ) → number_of (time_of (is_below z) (nat_abs z)) ≡ z
unfolding number_of time_of
time-number z = ap (λ (m : ℕ). signed m (is_below z)) (time-made (is_below z) (nat_abs z)) ∙ both-again z

date-number : (k : TimeType) (z : ℤ) → is_time k ≡ false → number_of (date_of k (is_below z) (nat_abs z)) ≡ z
unfolding number_of date_of
date-number k z h = ap (λ (m : ℕ). signed m (is_below z)) (date-made k (is_below z) (nat_abs z) h) ∙ both-again z

pub number-again : (k : TimeType) (z : ℤ) → number_of (fields_of k z) ≡ z
unfolding fields_of
number-again type.Timestamp z = date-number type.Timestamp z refl
number-again type.Date z = date-number type.Date z refl
number-again type.Time z = time-number z
number-again type.Datetime z = date-number type.Datetime z refl

pub type-again : (k : TimeType) (z : ℤ) → (fields_of k z).time_type ≡ k
unfolding fields_of time_of date_of
type-again type.Timestamp z = refl
type-again type.Date z = refl
type-again type.Time z = refl
type-again type.Datetime z = refl
