-- A value that is read at a place is the content there, and the document has the place.
-- Assumes nothing.
use mathlib.Core.Path.{◌≡◌}
use mathlib.Core.List.{List}
use Prim.Native.Nat.{ℕ}
use lib.ListN.{length}
use Rattle.std.specs.Prelude.{Ok}
use Rattle.codes.specs.declared.types.JsonbType.{JsonbType}
use Rattle.value.specs.declared.Value.{Value}
use Rattle.header.specs.Course.{Within}
use Rattle.header.proofs.Placed.{placed-so}
use Rattle.content.specs.Reading.{content_at, read_at}

pub read-so : (d : List ℕ) (t : JsonbType) (i e : ℕ) {x : Value} → read_at d t i e ≡ Ok x → (content_at d t i e ≡ Ok x) × Within (length d) i e
unfolding read_at
read-so d t i e q = placed-so d i e (content_at d t i e) q
