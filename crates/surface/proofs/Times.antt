-- What was read by one function for C is written by the other as the very bytes that it was read from.
-- Assumes nothing.
use mathlib.Core.Path.{◌≡◌, ap, ◌∙◌}
use mathlib.Core.List.{List, [], ◌∷◌, ◌++◌}
use Prim.Native.Nat.{ℕ, ◌≤◌}
use lib.ListN.{length, take, drop}
use Rattle.refusal.specs.Told.{answer}
use Rattle.raw.proofs.Values.{Bytes}
use Rattle.time.specs.Answers.{type_of, numbers}
use Rattle.time.specs.declared.MysqlTime.{MysqlTime}
use Rattle.std.specs.Prelude.{Option, Some, None}
use Rattle.time.specs.declared.TimeType.{TimeType}
use Rattle.time_laws.proofs.RoundTrip.{no-refusal, round_trip}
use Rattle.time_records.proofs.Again.{record-again}
use Rattle.surface.specs.Times.{typed_told, time_told, record_told, record_leaves, time_written_told, time_written_leaves}

module _ (bytes out rest : List ℕ) (t : MysqlTime) (p : Bytes bytes) (h : 8 ≤ length out) where
  by-type : (k : Option TimeType) → typed_told k bytes ≡ answer (numbers t)
      → (time_written_told (numbers t ++ rest) out ≡ answer (8 ∷ [])) × (time_written_leaves (numbers t ++ rest) out ≡ take 8 bytes ++ drop 8 out)
  unfolding time_written_told time_written_leaves
  by-type (Some k) e =
      let w = round_trip.read-then-write k bytes out t p e h in
      let r = record-again t rest in
      (ap (λ (x : Option MysqlTime). record_told x out) r ∙ w.0, ap (λ (x : Option MysqlTime). record_leaves x out) r ∙ w.1)
  by-type None e = absurd (no-refusal 29 _ e)

  pub written-again : (code : ℕ) → time_told code bytes ≡ answer (numbers t)
      → (time_written_told (numbers t ++ rest) out ≡ answer (8 ∷ [])) × (time_written_leaves (numbers t ++ rest) out ≡ take 8 bytes ++ drop 8 out)
  unfolding time_told
  written-again code e = by-type (type_of code) e
