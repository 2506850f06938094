-- Each line by a value or a number of its own, and a line of the round trip.
-- Assumes nothing.
use Rattle.std.proofs.Common.{◌≡◌, refl, sym, ap, subst, ◌∙◌, Bool, true, false, List, [], ◌∷◌, ◌++◌, ℕ, zero, suc, ◌+◌, ◌-◌, ◌≤◌, ◌<◌, length, take, pos, negsuc, neg_ℤ, w64, of_z, arith}
use mathlib.Core.List.{append-nil}
use Rattle.refusal.specs.Told.{answer, refusal}
use Rattle.raw.specs.Numbers.{bytes_of}
use Rattle.raw.proofs.Values.{Bytes}
use Rattle.time.specs.declared.TimeType.{TimeType}
use Rattle.time.specs.declared.TimeType.TheVariants as type
use Rattle.time.specs.declared.MysqlTime.{MysqlTime}
use Rattle.time.specs.Packed.{time_of, date_of, fields_of, above_minutes, magnitude_of, number_of, packed}
use Rattle.time.specs.Answers.{numbers, read_told, write_told, write_leaves}
use Rattle.time_laws.specs.Accepted.{PlainDate, PlainTime, Accepted}
use Rattle.time_laws.specs.ByNumbers.{clock, calendar, ByNumbers}
use Rattle.time_laws.proofs.Ranges.{in-range}
use Rattle.time_laws.proofs.Undone.{fields-again}
use Rattle.time_laws.proofs.RoundTrip.{its-bytes, number_fits, round_trip}

-- ---- a value that is accepted is read from its bytes, n being their number
abbrev eight_zeros : List ℕ
eight_zeros = 0 ∷ 0 ∷ 0 ∷ 0 ∷ 0 ∷ 0 ∷ 0 ∷ 0 ∷ []

read_of :
    (t : MysqlTime) (n : ℕ) (rest : List ℕ) → Accepted t.time_type t → of_z w64 (number_of t) ≡ n →
    read_told t.time_type (bytes_of 8 n ++ rest) ≡ answer (numbers t)
unfolding packed
read_of t n rest a e =
    let out = eight_zeros ++ rest in
    let h : 8 ≤ length out = omega arith in
    ap (λ (x : ℕ). read_told t.time_type (bytes_of 8 x ++ rest)) (sym e)
    ∙ sym (ap (read_told t.time_type) (its-bytes t out (in-range t a) h))
    ∙ round_trip.write-then-read t out (round_trip.every_value t out a h)

-- or by its number, whose fields are the value
read-by-number :
    (t : MysqlTime) (n : ℕ) (rest : List ℕ) → Accepted t.time_type t → of_z w64 (number_of t) ≡ n →
    read_told t.time_type (bytes_of 8 n ++ rest) ≡ answer (numbers t)
read-by-number t n rest a e =
    let k = t.time_type in
    let r = in-range t a in
    let f = fields-again t r in
    ap (λ (x : ℕ). read_told k (bytes_of 8 x ++ rest)) (sym e)
    ∙ round_trip.every-accepted k (number_of t) rest (number_fits t r) (subst (Accepted k) (sym f) a)
    ∙ ap (λ (x : MysqlTime). answer (numbers x)) f

abbrev timed : Bool → ℕ → ℕ → ℕ → ℕ → MysqlTime
timed below h m s u =
    record { year = 0; month = 0; day = 0; hour = h; minute = m; second = s; second_part = u; neg = below; time_type = type.Time }

abbrev dated : TimeType → ℕ → ℕ → ℕ → ℕ → ℕ → ℕ → ℕ → MysqlTime
dated k y mo d h m s u =
    record { year = y; month = mo; day = d; hour = h; minute = m; second = s; second_part = u; neg = false; time_type = k }

module _ (h m s u : ℕ) (rest : List ℕ) (a : h ≤ 838) (b : m ≤ 59) (c : s ≤ 59) (d : u ≤ 999999) where
  clock-read : read_told type.Time (bytes_of 8 (clock h m s u) ++ rest) ≡ answer (0 ∷ 0 ∷ 0 ∷ h ∷ m ∷ s ∷ u ∷ 0 ∷ 11 ∷ [])
  unfolding number_of magnitude_of above_minutes
  clock-read =
      read_of
      (timed false h m s u)
      (clock h m s u)
      rest
      (record { no-date = record { no-year = refl; no-month = refl; no-day = refl }; clock = omega arith; sign = λ e. cc e })
      refl

  below-read :
      0 < h + m + s + u → read_told type.Time (bytes_of 8 (18446744073709551616 - clock h m s u) ++ rest) ≡ answer (0 ∷ 0 ∷ 0 ∷ h ∷ m ∷ s ∷ u ∷ 1 ∷ 11 ∷ [])
  unfolding number_of magnitude_of above_minutes
  below-read p =
      read_of
      (timed true h m s u)
      (18446744073709551616 - clock h m s u)
      rest
      (record { no-date = record { no-year = refl; no-month = refl; no-day = refl }; clock = omega arith; sign = λ e. p })
      (negated (clock h m s u) (omega arith))
    where
      negated : (n : ℕ) → 0 < n → of_z w64 (neg_ℤ (pos n)) ≡ 18446744073709551616 - n
      negated zero q = absurd (omega arith)
      negated (suc n) q = refl

date-read : (y mo d : ℕ) (rest : List ℕ) → y ≤ 9999 → mo ≤ 12 → d ≤ 31
    → read_told type.Date (bytes_of 8 (clock (calendar y mo d 0) 0 0 0) ++ rest) ≡ answer (y ∷ mo ∷ d ∷ 0 ∷ 0 ∷ 0 ∷ 0 ∷ 0 ∷ 10 ∷ [])
unfolding number_of magnitude_of above_minutes
date-read y mo d rest a b c =
    read-by-number
    (dated type.Date y mo d 0 0 0 0)
    (clock (calendar y mo d 0) 0 0 0)
    rest
    (record { date = omega arith; no-clock = omega arith; positive = refl })
    refl

module _ (y mo d h m s u : ℕ) (rest : List ℕ) (a : y ≤ 9999) (b : mo ≤ 12) (c : d ≤ 31) (e : h ≤ 23) (f : m ≤ 59) (g : s ≤ 59) (i : u ≤ 999999) where
  datetime-read : read_told type.Datetime (bytes_of 8 (clock (calendar y mo d h) m s u) ++ rest) ≡ answer (y ∷ mo ∷ d ∷ h ∷ m ∷ s ∷ u ∷ 0 ∷ 12 ∷ [])
  unfolding number_of magnitude_of above_minutes
  datetime-read =
      read-by-number
      (dated type.Datetime y mo d h m s u)
      (clock (calendar y mo d h) m s u)
      rest
      (record { date = omega arith; clock = omega arith; positive = refl })
      refl

  timestamp-read : read_told type.Timestamp (bytes_of 8 (clock (calendar y mo d h) m s u) ++ rest) ≡ answer (y ∷ mo ∷ d ∷ h ∷ m ∷ s ∷ u ∷ 0 ∷ 7 ∷ [])
  unfolding number_of magnitude_of above_minutes
  timestamp-read =
      read-by-number
      (dated type.Timestamp y mo d h m s u)
      (clock (calendar y mo d h) m s u)
      rest
      (record { date = omega arith; clock = omega arith; positive = refl })
      refl

-- ---- the least number: its sign is no date's, and its hours are no time's
least-fields : (k : TimeType) → Accepted k (fields_of k (negsuc 9223372036854775807)) → ⊥
unfolding fields_of time_of date_of
least-fields type.Timestamp a = cc a.positive
least-fields type.Date a = cc a.positive
least-fields type.Time a = absurd (omega (arith, a.clock.hours))
least-fields type.Datetime a = cc a.positive

least-read : (k : TimeType) (rest : List ℕ) → read_told k (bytes_of 8 9223372036854775808 ++ rest) ≡ refusal 30
least-read k rest = round_trip.no_other k (negsuc 9223372036854775807) rest (record { sfits = omega arith }) (least-fields k)

-- ---- one form
same-front :
    (k : TimeType) (bs cs : List ℕ) (t : MysqlTime) → Bytes bs → Bytes cs → read_told k bs ≡ answer (numbers t) → read_told k cs ≡ answer (numbers t) →
    take 8 bs ≡ take 8 cs
same-front k bs cs t p q e f =
    let h : 8 ≤ length eight_zeros = omega arith in
    let x = (round_trip.read-then-write k bs eight_zeros t p e h).1 in
    let y = (round_trip.read-then-write k cs eight_zeros t q f h).1 in
    sym (append-nil (take 8 bs)) ∙ sym x ∙ y ∙ append-nil (take 8 cs)

-- ---- what is no value
module _ (t : MysqlTime) (out : List ℕ) where
  refuses : (k : TimeType) → t.time_type ≡ k → (Accepted k t → ⊥) → (write_told t out ≡ refusal 30) × (write_leaves t out ≡ out)
  refuses k p n = round_trip.no_value t out (λ (a : Accepted t.time_type t). n (subst (λ (x : TimeType). Accepted x t) p a))

  no-sign-by : (k : TimeType) → (k ≡ type.Time → ⊥) → t.neg ≡ true → Accepted k t → ⊥
  no-sign-by type.Timestamp n e a = cc a.positive
  no-sign-by type.Date n e a = cc a.positive
  no-sign-by type.Time n e a = n refl
  no-sign-by type.Datetime n e a = cc a.positive

  no-minus-zero : t.time_type ≡ type.Time → t.neg ≡ true → t.hour + t.minute + t.second + t.second_part ≡ 0
      → (write_told t out ≡ refusal 30) × (write_leaves t out ≡ out)
  no-minus-zero p e z = refuses type.Time p (λ (a : PlainTime t). let s = a.sign e in absurd (omega arith))

  no-negative-date : (t.time_type ≡ type.Time → ⊥) → t.neg ≡ true → (write_told t out ≡ refusal 30) × (write_leaves t out ≡ out)
  no-negative-date n e = refuses t.time_type refl (no-sign-by t.time_type n e)

  no-clock-part : t.time_type ≡ type.Date → 0 < t.hour + t.minute + t.second + t.second_part
      → (write_told t out ≡ refusal 30) × (write_leaves t out ≡ out)
  no-clock-part p z = refuses type.Date p (λ (a : PlainDate t). absurd (omega (arith, a.no-clock)))

  no-date-part : t.time_type ≡ type.Time → 0 < t.year + t.month + t.day → (write_told t out ≡ refusal 30) × (write_leaves t out ≡ out)
  no-date-part p z = refuses type.Time p (λ (a : PlainTime t). absurd (omega (arith, a.no-date)))

pub by-numbers : ByNumbers
by-numbers =
    record {
      time = clock-read;
      below-zero = below-read;
      date = date-read;
      datetime = datetime-read;
      timestamp = timestamp-read;
      least = least-read;
      one_form = same-front;
      minus-zero = no-minus-zero;
      negative-date = no-negative-date;
      clock-part = no-clock-part;
      date-part = no-date-part;
    }
