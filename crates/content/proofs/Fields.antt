-- Where a length field that is answered ends, in the words of its struct.
-- Assumes nothing.
use mathlib.Core.Path.{◌≡◌}
use mathlib.Core.List.{List}
use Prim.Native.Nat.{ℕ, ◌≤◌}
use Rattle.std.specs.Prelude.{Ok}
use Rattle.length_field.specs.Length.{length_at}
use Rattle.length_field.specs.declared.Length.{Length}
use Rattle.length_field.proofs.Bounds.{length-placed}

pub field_within : (d : List ℕ) (i e : ℕ) (f : Length) → length_at d i e ≡ Ok f → f.next ≤ e
field_within d i e f q = (length-placed d i e f.length f.next q).within
