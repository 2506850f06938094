-- What reading and writing promise by numbers alone: of the definitions only the bytes of a number, and what is read and written, are named here. It follows from
-- `RoundTrip`, each line of which it uses.
-- Assumes nothing.
use Rattle.std.specs.Prelude.{ℕ, ◌+◌, ◌*◌, ◌-◌, ◌≤◌, ◌<◌, ◌≡◌, true, List, [], ◌∷◌, ◌++◌, take}
use Rattle.refusal.specs.Told.{answer, refusal}
use Rattle.raw.specs.Numbers.{bytes_of}
use Rattle.raw.proofs.Values.{Bytes}
use Rattle.time.specs.Answers.{numbers, read_told, write_told, write_leaves}
use Rattle.time.specs.declared.TimeType.{TimeType}
use Rattle.time.specs.declared.TimeType.TheVariants as type
use Rattle.time.specs.declared.MysqlTime.{MysqlTime}

-- the magnitudes of a time and of a date with its clock
abbrev pub clock : ℕ → ℕ → ℕ → ℕ → ℕ
clock h m s u = ((h * 64 + m) * 64 + s) * 16777216 + u

abbrev pub calendar : ℕ → ℕ → ℕ → ℕ → ℕ
calendar y m d h = ((y * 13 + m) * 32 + d) * 32 + h

pub record ByNumbers : Type 0 where
  -- a time, and one below zero
  pub time :
      (h m s u : ℕ) (rest : List ℕ) → h ≤ 838 → m ≤ 59 → s ≤ 59 → u ≤ 999999 →
      read_told type.Time (bytes_of 8 (clock h m s u) ++ rest) ≡ answer (0 ∷ 0 ∷ 0 ∷ h ∷ m ∷ s ∷ u ∷ 0 ∷ 11 ∷ [])
  pub below-zero :
      (h m s u : ℕ) (rest : List ℕ) → h ≤ 838 → m ≤ 59 → s ≤ 59 → u ≤ 999999 → 0 < h + m + s + u →
      read_told type.Time (bytes_of 8 (18446744073709551616 - clock h m s u) ++ rest) ≡ answer (0 ∷ 0 ∷ 0 ∷ h ∷ m ∷ s ∷ u ∷ 1 ∷ 11 ∷ [])
  -- a date, and a date with its clock as either of two types
  pub date :
      (y mo d : ℕ) (rest : List ℕ) → y ≤ 9999 → mo ≤ 12 → d ≤ 31 →
      read_told type.Date (bytes_of 8 (clock (calendar y mo d 0) 0 0 0) ++ rest) ≡ answer (y ∷ mo ∷ d ∷ 0 ∷ 0 ∷ 0 ∷ 0 ∷ 0 ∷ 10 ∷ [])
  pub datetime :
      (y mo d h m s u : ℕ) (rest : List ℕ) → y ≤ 9999 → mo ≤ 12 → d ≤ 31 → h ≤ 23 → m ≤ 59 → s ≤ 59 → u ≤ 999999 →
      read_told type.Datetime (bytes_of 8 (clock (calendar y mo d h) m s u) ++ rest) ≡ answer (y ∷ mo ∷ d ∷ h ∷ m ∷ s ∷ u ∷ 0 ∷ 12 ∷ [])
  pub timestamp :
      (y mo d h m s u : ℕ) (rest : List ℕ) → y ≤ 9999 → mo ≤ 12 → d ≤ 31 → h ≤ 23 → m ≤ 59 → s ≤ 59 → u ≤ 999999 →
      read_told type.Timestamp (bytes_of 8 (clock (calendar y mo d h) m s u) ++ rest) ≡ answer (y ∷ mo ∷ d ∷ h ∷ m ∷ s ∷ u ∷ 0 ∷ 7 ∷ [])
  -- the least number of 64 bits is a bad field, of every type
  pub least : (k : TimeType) (rest : List ℕ) → read_told k (bytes_of 8 9223372036854775808 ++ rest) ≡ refusal 30
  -- bytes that are read as the same value are the same, in the first eight
  pub one_form :
      (k : TimeType) (bs cs : List ℕ) (t : MysqlTime) → Bytes bs → Bytes cs → read_told k bs ≡ answer (numbers t) → read_told k cs ≡ answer (numbers t) →
      take 8 bs ≡ take 8 cs
  -- what is not written: a negative zero, a negative date, a date with a clock part, a time with a date part
  pub minus-zero :
      (t : MysqlTime) (out : List ℕ) → t.time_type ≡ type.Time → t.neg ≡ true → t.hour + t.minute + t.second + t.second_part ≡ 0 →
      (write_told t out ≡ refusal 30) × (write_leaves t out ≡ out)
  pub negative-date :
      (t : MysqlTime) (out : List ℕ) → (t.time_type ≡ type.Time → ⊥) → t.neg ≡ true → (write_told t out ≡ refusal 30) × (write_leaves t out ≡ out)
  pub clock-part :
      (t : MysqlTime) (out : List ℕ) → t.time_type ≡ type.Date → 0 < t.hour + t.minute + t.second + t.second_part →
      (write_told t out ≡ refusal 30) × (write_leaves t out ≡ out)
  pub date-part :
      (t : MysqlTime) (out : List ℕ) → t.time_type ≡ type.Time → 0 < t.year + t.month + t.day →
      (write_told t out ≡ refusal 30) × (write_leaves t out ≡ out)
