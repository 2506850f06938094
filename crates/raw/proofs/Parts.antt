-- The bytes that are there: how many, and which.
-- Assumes nothing.
use mathlib.Core.Path.{◌≡◌, ◌∙◌}
use mathlib.Core.List.{List}
use Prim.Native.Nat.{ℕ, ◌+◌, ◌-◌, ◌<◌, min}
use native.Mathlib.Omega.{arith}
use lib.ListN.{length, get_or, take, length-take, length-drop}
use lib.Seq.{slice, get_or-take, get_or-drop}
use Rattle.raw.proofs.Values.{Bytes, bytes_take, bytes_drop}

module _ (doc : List ℕ) (at end : ℕ) where
  pub slice-length : length (slice at end doc) ≡ min end (length doc) - at
  slice-length = rw (length-drop, length-take)

  pub slice_at : (k : ℕ) → k < min end (length doc) - at → get_or (slice at end doc) k 0 ≡ get_or doc (at + k) 0
  slice_at k h = get_or-drop at (take end doc) k 0 ∙ get_or-take end doc (at + k) 0 (omega arith)

  pub slice-bytes : Bytes doc → Bytes (slice at end doc)
  slice-bytes p = bytes_drop at (take end doc) (bytes_take end doc p)
