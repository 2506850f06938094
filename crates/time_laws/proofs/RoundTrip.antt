-- Reading and writing undo each other, since the fields of a value's number are the value, the number of a number's fields is the number, and eight bytes and
-- their number give each other back.
-- Assumes nothing.
use Rattle.std.proofs.Common.{◌≡◌, sym, ap, subst, ◌∙◌, Bool, true, false, cond, List, [], ◌∷◌, ◌++◌, ℕ, zero, suc, ◌^◌, ◌≤◌, ◌<◌, length, take, drop, length-append, ℤ, pos, neg_ℤ, w64, SFits, to_z, of_z, arith}
use Rattle.std.proofs.lemmas.Bool.{false_from_ne_true}
use Rattle.std.proofs.lemmas.Bool.Decides.{nat_tests}
use lib.Seq.{take-append_seam, length-take-le}
use mir.Facts.{to_z-of_z, of_z-to_z, Fits-of_z}
use Rattle.refusal.specs.Told.{Told, answer, refusal}
use Rattle.raw.specs.Numbers.{value, bytes_of}
use Rattle.raw.proofs.Values.{Bytes, bytes_take, value-below}
use Rattle.raw.proofs.Written.{length-bytes, value-of-bytes, bytes-of-value}
use Rattle.time.specs.declared.TimeType.{TimeType}
use Rattle.time.specs.declared.MysqlTime.{MysqlTime}
use Rattle.time.specs.Packed.{number, fields_of, magnitude_of, number_of, packed}
use Rattle.time.specs.Ranges.{in_range}
use Rattle.time.specs.Answers.{numbers, ranged, read_told, write_told, write_leaves}
use Rattle.time.proofs.Number.{magnitude_below}
use Rattle.time_laws.specs.Accepted.{Accepted}
use Rattle.time_laws.specs.RoundTrip.{RoundTrip}
use Rattle.time_laws.proofs.Ranges.{accepts, in-range}
use Rattle.time_laws.proofs.Undone.{fields-again, number-again, type-again}
use Rattle.time_laws.proofs.Answers.{same-value}

-- ---- eight bytes and their number
eight-then : (n : ℕ) (rest : List ℕ) → take 8 (bytes_of 8 n ++ rest) ≡ bytes_of 8 n
eight-then n rest = subst (λ (k : ℕ). take k (bytes_of 8 n ++ rest) ≡ bytes_of 8 n) (length-bytes 8 n) (take-append_seam (bytes_of 8 n) rest)

eight-long : (n : ℕ) (rest : List ℕ) → 8 ≤ length (bytes_of 8 n ++ rest)
eight-long n rest = rw length-append (omega (arith, length-bytes 8 n))

-- the bytes of a number are that number, whatever stands behind them
number-of-bytes : (z : ℤ) (rest : List ℕ) → SFits w64 z → number (bytes_of 8 (of_z w64 z) ++ rest) ≡ z
unfolding number
number-of-bytes z rest f =
    let n = of_z w64 z in
    ap (λ (l : List ℕ). to_z w64 (value l)) (eight-then n rest)
    ∙ ap (to_z w64) (value-of-bytes 8 n (Fits-of_z {w = w64} f).fits)
    ∙ to_z-of_z {w = w64} f

-- and the bytes of the number of eight bytes are those bytes
bytes-of-number : (bs : List ℕ) → Bytes bs → 8 ≤ length bs → bytes_of 8 (of_z w64 (number bs)) ≡ take 8 bs
unfolding number
bytes-of-number bs p h =
    let l = take 8 bs in
    let e : length l ≡ 8 = length-take-le 8 bs h in
    let f : value l < 256 ^ 8 = value-below 8 l (bytes_take 8 bs p) (omega arith) in
    ap (bytes_of 8) (of_z-to_z {w = w64} (record { fits = f }))
    ∙ subst (λ (k : ℕ). bytes_of k (value l) ≡ l) e (bytes-of-value l (bytes_take 8 bs p))

-- ---- what an answer that is no refusal tells
pub no-refusal : (n : ℕ) (vs : List ℕ) → refusal (suc n) ≡ answer vs → ⊥
no-refusal n vs e = omega (arith, ap (λ (x : Told). x.number) e)

record WasRead (k : TimeType) (bs : List ℕ) (t : MysqlTime) : Type 0 where
  long : 8 ≤ length bs
  ranged-field : in_range t ≡ true
  its-fields : t ≡ fields_of k (number bs)

was_read : (k : TimeType) (bs : List ℕ) (t : MysqlTime) → read_told k bs ≡ answer (numbers t) → WasRead k bs t
unfolding read_told ranged
was_read k bs t e =
    let f = fields_of k (number bs) in
    let same = same-value f t in
    let short = no-refusal 30 (numbers t) in
    let bad = no-refusal 29 (numbers t) in
    record { long = grind (arith, nat_tests); ranged-field = grind (arith, nat_tests); its-fields = grind (arith, nat_tests) }

was-written : (t : MysqlTime) (out : List ℕ) → write_told t out ≡ answer (8 ∷ []) → (in_range t ≡ true) × (8 ≤ length out)
unfolding write_told
was-written t out e =
    let no_room = no-refusal 24 (8 ∷ []) in
    let bad = no-refusal 29 (8 ∷ []) in
    (grind (arith, nat_tests), grind (arith, nat_tests))

-- ---- the answers of what is in range
module _ (t : MysqlTime) (out : List ℕ) (r : in_range t ≡ true) (h : 8 ≤ length out) where
  is-written : write_told t out ≡ answer (8 ∷ [])
  unfolding write_told
  is-written = grind (arith, nat_tests)

  pub its-bytes : write_leaves t out ≡ packed t ++ drop 8 out
  unfolding write_leaves
  its-bytes = grind (arith, nat_tests)

module _ (k : TimeType) (bs : List ℕ) (z : ℤ) (h : 8 ≤ length bs) (e : number bs ≡ z) where
  told : read_told k bs ≡ ranged (fields_of k z)
  unfolding read_told
  told = grind (arith, nat_tests)

in-range-told : (f : MysqlTime) → in_range f ≡ true → ranged f ≡ answer (numbers f)
unfolding ranged
in-range-told f r = rw r

out-of-range-told : (f : MysqlTime) → in_range f ≡ false → ranged f ≡ refusal 30
unfolding ranged
out-of-range-told f r = rw r

pub number_fits : (t : MysqlTime) → in_range t ≡ true → SFits w64 (number_of t)
unfolding number_of
number_fits t r = by (magnitude_of t) t.neg (magnitude_below t r)
  where
    by : (m : ℕ) (below : Bool) → m < 9223372036854775808 → SFits w64 (cond below (neg_ℤ (pos m)) (pos m))
    by zero true h = record { sfits = omega arith }
    by (suc m) true h = record { sfits = omega arith }
    by m false h = record { sfits = omega arith }

-- ---- the statement
rewritten : (k : TimeType) (bs out : List ℕ) (t : MysqlTime) → Bytes bs → read_told k bs ≡ answer (numbers t) → 8 ≤ length out
    → (write_told t out ≡ answer (8 ∷ [])) × (write_leaves t out ≡ take 8 bs ++ drop 8 out)
unfolding packed
rewritten k bs out t p e h =
    let w = was_read k bs t e in
    let n : number_of t ≡ number bs = ap number_of w.its-fields ∙ number-again k (number bs) in (
      is-written t out w.ranged-field h,
      its-bytes t out w.ranged-field h
          ∙ ap (λ (z : ℤ). bytes_of 8 (of_z w64 z) ++ drop 8 out) n
          ∙ ap (λ (l : List ℕ). l ++ drop 8 out) (bytes-of-number bs p w.long),
    )

reread : (t : MysqlTime) (out : List ℕ) → write_told t out ≡ answer (8 ∷ []) → read_told t.time_type (write_leaves t out) ≡ answer (numbers t)
unfolding packed
reread t out e =
    let w = was-written t out e in
    let r = w.0 in
    let k = t.time_type in
    let rest = drop 8 out in
    ap (read_told k) (its-bytes t out r w.1)
    ∙ told k (packed t ++ rest) (number_of t) (eight-long (of_z w64 (number_of t)) rest) (number-of-bytes (number_of t) rest (number_fits t r))
    ∙ ap ranged (fields-again t r)
    ∙ in-range-told t r

module _ (k : TimeType) (z : ℤ) (rest : List ℕ) (f : SFits w64 z) where
  told-of-number : read_told k (bytes_of 8 (of_z w64 z) ++ rest) ≡ ranged (fields_of k z)
  told-of-number = told k (bytes_of 8 (of_z w64 z) ++ rest) z (eight-long (of_z w64 z) rest) (number-of-bytes z rest f)

  reads-accepted : Accepted k (fields_of k z) → read_told k (bytes_of 8 (of_z w64 z) ++ rest) ≡ answer (numbers (fields_of k z))
  reads-accepted a =
      told-of-number
      ∙ in-range-told (fields_of k z) (in-range (fields_of k z) (subst (λ (x : TimeType). Accepted x (fields_of k z)) (sym (type-again k z)) a))

  refuses-other : (Accepted k (fields_of k z) → ⊥) → read_told k (bytes_of 8 (of_z w64 z) ++ rest) ≡ refusal 30
  refuses-other n =
      told-of-number
      ∙ out-of-range-told (fields_of k z)
      (false_from_ne_true (in_range (fields_of k z))
      (λ (r : in_range (fields_of k z) ≡ true). n (subst (λ (x : TimeType). Accepted x (fields_of k z)) (type-again k z) (accepts (fields_of k z) r))))

module _ (t : MysqlTime) (out : List ℕ) (n : Accepted t.time_type t → ⊥) where
  not-in-range : in_range t ≡ false
  not-in-range = false_from_ne_true (in_range t) (λ (r : in_range t ≡ true). n (accepts t r))

  not_written : (write_told t out ≡ refusal 30) × (write_leaves t out ≡ out)
  unfolding write_told write_leaves
  not_written = (simp not-in-range, simp not-in-range)

pub round_trip : RoundTrip
round_trip =
    record {
      read-then-write = rewritten;
      write-then-read = reread;
      every-accepted = reads-accepted;
      no_other = refuses-other;
      every_value = λ t out a h. is-written t out (in-range t a) h;
      no_value = not_written;
    }
