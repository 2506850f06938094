-- Reading and writing undo each other, every number whose fields are accepted is read, and no other: one statement over the four types.
-- Assumes nothing.
use Rattle.std.specs.Prelude.{ℕ, ◌≤◌, ◌≡◌, List, [], ◌∷◌, ◌++◌, ℤ, length, take, drop}
use Rattle.std.specs.Int.{w64}
use Rattle.std.proofs.Common.{SFits, of_z}
use Rattle.refusal.specs.Told.{answer, refusal}
use Rattle.raw.specs.Numbers.{bytes_of}
use Rattle.raw.proofs.Values.{Bytes}
use Rattle.time.specs.Packed.{fields_of}
use Rattle.time.specs.Answers.{numbers, read_told, write_told, write_leaves}
use Rattle.time.specs.declared.TimeType.{TimeType}
use Rattle.time.specs.declared.MysqlTime.{MysqlTime}
use Rattle.time_laws.specs.Accepted.{Accepted}

pub record RoundTrip : Type 0 where
  -- what was read is written as the very eight bytes that it was read from, and the rest of the output stays
  pub read-then-write :
      (k : TimeType) (bs out : List ℕ) (t : MysqlTime) → Bytes bs → read_told k bs ≡ answer (numbers t) → 8 ≤ length out →
      (write_told t out ≡ answer (8 ∷ [])) × (write_leaves t out ≡ take 8 bs ++ drop 8 out)
  -- what was written is read again, whatever stands behind it
  pub write-then-read : (t : MysqlTime) (out : List ℕ) → write_told t out ≡ answer (8 ∷ []) → read_told t.time_type (write_leaves t out) ≡ answer (numbers t)
  -- every number of 64 bits whose fields are accepted is read, whatever stands behind its eight bytes
  pub every-accepted :
      (k : TimeType) (z : ℤ) (rest : List ℕ) → SFits w64 z → Accepted k (fields_of k z) →
      read_told k (bytes_of 8 (of_z w64 z) ++ rest) ≡ answer (numbers (fields_of k z))
  -- and any other is 30
  pub no_other :
      (k : TimeType) (z : ℤ) (rest : List ℕ) → SFits w64 z → (Accepted k (fields_of k z) → ⊥) → read_told k (bytes_of 8 (of_z w64 z) ++ rest) ≡ refusal 30
  -- every value that is accepted is written, where there is room
  pub every_value : (t : MysqlTime) (out : List ℕ) → Accepted t.time_type t → 8 ≤ length out → write_told t out ≡ answer (8 ∷ [])
  -- and any other is 30, whatever room there is, and changes nothing
  pub no_value :
      (t : MysqlTime) (out : List ℕ) → (Accepted t.time_type t → ⊥) → (write_told t out ≡ refusal 30) × (write_leaves t out ≡ out)
