-- Bytes that stand before an end are those of the document.
-- Assumes nothing.
use mathlib.Core.Path.{◌≡◌}
use mathlib.Core.List.{List}
use Prim.Native.Nat.{ℕ, ◌+◌, ◌≤◌}
use lib.ListN.{take, drop}
use Rattle.raw.specs.Numbers.{value, le}
use Rattle.raw.proofs.Bounds.{le-inside}

pub le_whole : (w : ℕ) (doc : List ℕ) (at end : ℕ) → at + w ≤ end → le w doc at end ≡ value (take w (drop at doc))
le_whole w doc at end h = le-inside w doc at end h
